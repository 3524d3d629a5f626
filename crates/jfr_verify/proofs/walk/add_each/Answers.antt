use Rattle.std.proofs.Common.{◌≡◌, length, take, slice_index_or, true, ap, arith, subst, ◌∙◌}
use Rattle.std.proofs.Math.Seq.{take-length}
use Rattle.std.proofs.lemmas.List.{length-set}
use Rattle.jfr_verify.specs.Added.{Adds}
use Rattle.jfr_verify.proofs.AddedLaws.{adds_more}
use Rattle.jfr_verify.proofs.walk.add_each.Goals as goal

pub put-requires : goal.put-requires
put-requires c = omega (arith, c.requires c.loop-number.number-index 0 c.loop-number-test.true, c.loop-number.invariant.size)

pub loop-number-preserved : goal.loop-number-preserved
loop-number-preserved c = record {
  adds = adds_more c.args.entries.now c.loop-number.number-index c.args.lines.now c.loop-number.lines c.put.new.self c.loop-number-test.true c.loop-number.invariant.adds
      (record { marks = c.put.ensures.flags; lines = c.put.ensures.lines; parent = c.put.ensures.parent });
  size = ap length c.put.ensures.flags ∙ (length-set c.loop-number.lines.flags.items (slice_index_or c.args.entries.now c.loop-number.number-index 0) true ∙ c.loop-number.invariant.size);
}

pub returns : goal.returns
returns c =
    let e : c.loop-number.number-index ≡ length c.args.entries.now = omega arith in
    subst (λ z. Adds z c.args.lines.now c.loop-number.lines) (ap (λ n. take n c.args.entries.now) e ∙ take-length c.args.entries.now) c.loop-number.invariant.adds
