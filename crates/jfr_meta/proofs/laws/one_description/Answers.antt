use Rattle.jfr_meta.proofs.OneDescription.{has_one_description}
use Rattle.jfr_meta.proofs.laws.one_description.Goals as goal

pub returns : goal.returns
returns c = λ x r h. has_one_description x r h
