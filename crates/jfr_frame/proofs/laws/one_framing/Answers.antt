use Rattle.jfr_frame.proofs.FramingLaws.{one_framing}
use Rattle.jfr_frame.proofs.laws.one_framing.Goals as goal

pub returns : goal.returns
returns c = one_framing
