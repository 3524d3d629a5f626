use Rattle.std.proofs.Common.{◌<◌, ap, arith, length, sym, ◌∙◌, subst}
use Rattle.std.specs.Prelude.{slice_get}
use Rattle.std.proofs.lemmas.Option.{slice_get-get_or}
use Rattle.jfr_renumber.proofs.FirstsLaws.{so_far_at}
use Rattle.jfr_renumber.proofs.firsts.collected.Goals as goal

pub loop-at-preserved : goal.loop-at-preserved
loop-at-preserved g c =
    so_far_at (g.N.NewKeys.keys c.args.new.now) c.args.marks.now c.args.pools.now c.loop-at.at _ c.is_reached.result c.loop-at.firsts c.add_if.new.firsts
    (subst (λ z. c.loop-at.at < length z) c.as_slice-entry-items.ensures (omega (arith, c.loop-at-test.true))) c.requires c.is_reached.ensures
    (ap (λ z. slice_get z c.loop-at.at) (sym c.as_slice-entry-items.ensures) ∙ slice_get-get_or c.as_slice-entry-items.result.now c.loop-at.at _ (omega (arith, c.loop-at-test.true)))
    c.loop-at.invariant c.in_ok-add_if.ensures.added c.in_ok-add_if.ensures.unchanged
