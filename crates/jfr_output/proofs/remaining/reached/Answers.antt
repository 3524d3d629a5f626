use Rattle.std.proofs.Common.{ap, arith, length, sym, ◌∙◌}
use Rattle.std.specs.Prelude.{slice_get}
use Rattle.std.proofs.lemmas.Option.{slice_get-get_or}
use Rattle.jfr_output.proofs.RemainingLaws.{marked_all, marked_next}
use Rattle.jfr_output.proofs.remaining.reached.Goals as goal

pub is_reached-requires : goal.is_reached-requires
is_reached-requires c = omega (arith, c.requires, ap length c.as_slice-entry-items.ensures)

pub loop-at-preserved : goal.loop-at-preserved
loop-at-preserved c =
    marked_next c.args.marks.now c.args.pools.now c.loop-at.remaining.items c.push_if.new.remaining.items c.loop-at.at _ c.is_reached.result
    (omega (arith, c.requires, ap length c.as_slice-entry-items.ensures))
    (ap (λ z. slice_get z c.loop-at.at) (sym c.as_slice-entry-items.ensures) ∙ slice_get-get_or c.as_slice-entry-items.result.now c.loop-at.at _ (omega arith)) c.is_reached.ensures c.loop-at.invariant
    c.in_ok-push_if.ensures.ok

pub returns : goal.returns
returns c = marked_all c.args.marks.now c.args.pools.now c.loop-at.remaining.items c.loop-at.at (omega (arith, c.requires, ap length c.as_slice-entry-items.ensures)) c.loop-at.invariant
