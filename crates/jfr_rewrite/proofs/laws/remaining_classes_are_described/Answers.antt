use Rattle.jfr_rewrite.proofs.laws.remaining_classes_are_described.Goals as goal
use Rattle.jfr_rewrite.proofs.Remaining.{suits_remaining}

pub returns-clause-suits : goal.returns-clause-suits
returns-clause-suits c = λ names p kept marks a are reached. suits_remaining names p a kept are marks reached
