use Rattle.std.proofs.Common.{◌≡◌, length, take, slice_index_or, [], ◌∷◌, ap, arith, subst, ◌∙◌}
use Rattle.std.proofs.Math.Seq.{take-length}
use Rattle.jfr_verify.specs.Confirmed.{Confirms}
use Rattle.jfr_verify.specs.Claims.{children}
use Rattle.jfr_worklist.proofs.MarkLaws.{all_size}
use Rattle.jfr_verify.proofs.ClaimLaws.{confirms_more}
use Rattle.jfr_verify.proofs.confirm.confirm_each.Goals as goal

pub put-requires : goal.put-requires
put-requires c = omega (arith, c.requires c.loop-number.number-index 0 c.loop-number-test.true, c.loop-number.invariant.size)

pub loop-number-preserved : goal.loop-number-preserved
loop-number-preserved c = record {
  holds = confirms_more c.args.entries.now c.loop-number.number-index c.args.claims.now c.loop-number.claims c.put.new.self c.loop-number-test.true c.loop-number.invariant.holds
      (record { confirmed = c.put.ensures.confirmed; parents = c.put.ensures.parents; parent = c.put.ensures.parent });
  size = ap length c.put.ensures.confirmed
      ∙ (all_size c.loop-number.claims.confirmed.items (children c.loop-number.claims.parents.items c.loop-number.claims.parent (slice_index_or c.args.entries.now c.loop-number.number-index 0 ∷ []))
      ∙ c.loop-number.invariant.size);
}

pub returns : goal.returns
returns c =
    let e : c.loop-number.number-index ≡ length c.args.entries.now = omega arith in
    subst (λ z. Confirms z c.args.claims.now c.loop-number.claims) (ap (λ n. take n c.args.entries.now) e ∙ take-length c.args.entries.now) c.loop-number.invariant.holds
