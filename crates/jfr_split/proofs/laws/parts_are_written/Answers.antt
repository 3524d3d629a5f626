use Rattle.jfr_split.proofs.Grouped.{parts_written}
use Rattle.jfr_split.proofs.laws.parts_are_written.Goals as goal

pub returns : goal.returns
returns c = λ rule file recording fine. parts_written rule file recording fine
