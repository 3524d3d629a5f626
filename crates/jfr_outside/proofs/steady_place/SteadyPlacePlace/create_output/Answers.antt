use Rattle.jfr_outside.proofs.HeldLaws.{held_key}
use Rattle.jfr_outside.proofs.steady_place.SteadyPlacePlace.create_output.Goals as goal

pub invariant_of-self-2-clause-output_is_there : goal.invariant_of-self-2-clause-output_is_there
invariant_of-self-2-clause-output_is_there c = λ x is. held_key _ _ c.in_ok-output.output x c.in_ok-set_file.ensures.there c.in_ok-output.ensures.ok is
