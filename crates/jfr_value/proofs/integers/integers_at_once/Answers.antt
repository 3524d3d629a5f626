use Rattle.std.proofs.Common.{ap, arith, sym, ◌∙◌, ◌≡◌, ◌+◌}
use Rattle.std.specs.Prelude.{Ok}
use Rattle.jfr_base.specs.Formats.{integer}
use Rattle.jfr_value.proofs.EndLaws.{after_ok, items_step, no_more}
use Rattle.jfr_value.proofs.LastGroups.{last_there}
use Rattle.jfr_value.proofs.integers.integers_at_once.Goals as goal

pub loop-preserved : goal.loop-preserved
loop-preserved c =
    let x = c.args.bytes.now in
    let at = c.args.at in
    let end = c.args.end in
    let passed = c.loop.passed in
    let more = c.groups_with_more in
    let next : at + passed + more.result + 1 ≡ at + (passed + (more.result + 1)) = omega arith in
    record {
      upto = omega (arith, more.ensures.range, c.loop.invariant.upto);
      same = λ inside within.
          let to = last_there x at end c.last_groups-lasts.result passed more.result c.last_groups-lasts.ensures
          (record { range = more.ensures.range; more = more.ensures.more; last = more.ensures.last })
          (omega arith) (omega arith) c.requires.within in
          after_ok _ _ _ _ _ (items_step c.args.count c.loop.counter integer x end (at + passed) c.loop-test.true) (sym to ∙ ap (λ n. Ok n) next) (c.loop.invariant.same (omega arith) (omega arith));
    }

pub returns-clause-exact : goal.returns-clause-exact
returns-clause-exact c =
    sym (no_more c.args.count c.loop.counter integer c.args.bytes.now c.args.end (c.args.at + c.loop.passed) c.loop-test.false) ∙ c.loop.invariant.same c.if-passed-gt-VECTOR.false c.if-to-end.false
