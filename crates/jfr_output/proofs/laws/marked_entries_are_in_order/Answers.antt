use Rattle.jfr_output.proofs.CheckpointEntries.{marked_order}
use Rattle.jfr_output.proofs.laws.marked_entries_are_in_order.Goals as goal

pub returns : goal.returns
returns c = λ p marks a. marked_order p marks a
