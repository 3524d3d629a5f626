use Rattle.jfr_output.proofs.CursorLaws.{cursor_first}
use Rattle.jfr_output.proofs.laws.cursors_start_at_zero.Goals as goal

pub returns : goal.returns
returns c = λ p flags a. cursor_first p flags a
