use Rattle.std.proofs.Common.{arith, length}
use Rattle.jfr_frame.proofs.RecordLaws.{rising_of}
use Rattle.jfr_frame.proofs.laws.records_rise.Goals as goal

pub returns : goal.returns
returns c = λ b rs t. rising_of b 68 68 (length b) rs (omega arith) t
