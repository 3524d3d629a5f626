use Rattle.jfr_meta.proofs.ElementsStand.{root_stands}
use Rattle.jfr_meta.proofs.laws.elements_are_spelled.Goals as goal

pub returns : goal.returns
returns c = λ x r b k m. root_stands x r b k m
