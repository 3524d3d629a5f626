use Rattle.std.proofs.Common.{rules, ◌≡◌, ◌+◌, ◌<◌, length, subst, sym, ◌∙◌, true, false}
use Rattle.jfr_show.proofs.ForceCounts.{IsCount, all_counted, no_more, one_more}
use Rattle.jfr_show.proofs.counting.count_in_force.Goals.{then-in_force, else-in_force}
use Rattle.jfr_show.proofs.counting.count_in_force.Goals as goal

pub loop-number-preserved : goal.loop-number-preserved
loop-number-preserved c =
    let within : c.loop-number.number < length c.args.pools.now = subst (λ n. c.loop-number.number < n) c.len-number-end.ensures c.loop-number-test.true in
    elim c.if-in_force.branch [
      | then-in_force w ↦ subst (IsCount c.args.pools.now (c.loop-number.number + 1)) (sym w.count-is)
          (one_more c.args.pools.now c.loop-number.number c.loop-number.count within c.loop-number.invariant (c.in_force.ensures.0 w.if-in_force.true))
      | else-in_force w ↦ subst (IsCount c.args.pools.now (c.loop-number.number + 1)) (sym w.count-is)
          (no_more c.args.pools.now c.loop-number.number c.loop-number.count within c.loop-number.invariant (λ i. (let q : true ≡ false = sym (c.in_force.ensures.1 i) ∙ w.if-in_force.false in cc)))
    ]

pub returns-clause-exact : goal.returns-clause-exact
returns-clause-exact c = all_counted c.args.pools.now c.loop-number.number c.loop-number.count (search rules) c.loop-number.invariant
