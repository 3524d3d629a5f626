use Rattle.jfr_verify.proofs.RecordingLaws.{is_read}
use Rattle.jfr_verify.proofs.laws.recordings_are_read.Goals as goal

pub returns : goal.returns
returns c = is_read
