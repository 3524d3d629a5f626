use Rattle.jfr_rewrite.proofs.laws.changed_values_are_read.Goals as goal
use Rattle.jfr_rewrite.proofs.ChangeLaws.{read_changed}

pub returns : goal.returns
returns c = λ k ch h v sound keeps f. read_changed k ch h v sound keeps f
