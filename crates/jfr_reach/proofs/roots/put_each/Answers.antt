use Rattle.std.proofs.Common.{◌≡◌, length, take, slice_index_or, true, ap, arith, subst, ◌∙◌}
use Rattle.std.proofs.Math.Seq.{take-length}
use Rattle.std.proofs.lemmas.List.{length-set}
use Rattle.jfr_worklist.specs.Putting.{Puts}
use Rattle.jfr_reach.proofs.KeyLaws.{puts_more}
use Rattle.jfr_reach.proofs.roots.put_each.Goals as goal

pub put-requires : goal.put-requires
put-requires g c = omega (arith, c.requires c.loop-number.number-index 0 c.loop-number-test.true, c.loop-number.invariant.size)

pub loop-number-preserved : goal.loop-number-preserved
loop-number-preserved g c = record {
  puts = puts_more c.args.entries.now c.loop-number.number-index c.args.list.now c.loop-number.list c.put.new.self c.loop-number-test.true c.loop-number.invariant.puts c.put.ensures.flags
      c.put.ensures.order;
  size = ap length c.put.ensures.flags ∙ (length-set c.loop-number.list.flags.items (slice_index_or c.args.entries.now c.loop-number.number-index 0) true ∙ c.loop-number.invariant.size);
  cost = omega (arith, c.tick.ensures, c.loop-number.invariant.cost);
}

pub returns-clause-puts : goal.returns-clause-puts
returns-clause-puts g c =
    let e : c.loop-number.number-index ≡ length c.args.entries.now = omega arith in
    subst (λ z. Puts z c.args.list.now c.loop-number.list) (ap (λ n. take n c.args.entries.now) e ∙ take-length c.args.entries.now) c.loop-number.invariant.puts
