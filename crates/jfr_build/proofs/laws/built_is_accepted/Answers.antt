use Rattle.jfr_build.proofs.AcceptedLaws.{built_accepted}
use Rattle.jfr_build.proofs.laws.built_is_accepted.Goals as goal

pub returns : goal.returns
returns c = λ text chunk e. built_accepted text chunk e
