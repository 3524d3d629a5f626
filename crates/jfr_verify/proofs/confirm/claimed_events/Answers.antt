use Rattle.std.proofs.Common.{◌≡◌, length, arith}
use Rattle.std.proofs.lemmas.Option.{slice_get_within}
use Rattle.jfr_verify.specs.declared.line.Parent.TheVariants.{OfEvent}
use Rattle.jfr_verify.proofs.confirm.claimed_events.Goals as goal

pub returns-clause-claimed : goal.returns-clause-claimed
returns-clause-claimed c = λ i t e.
    let n : c.loop-parent.parent-index ≡ length c.args.parents.now = omega arith in
    c.loop-parent.invariant.claimed i t (omega (arith, n, slice_get_within c.args.parents.now t (OfEvent i) e)) e
