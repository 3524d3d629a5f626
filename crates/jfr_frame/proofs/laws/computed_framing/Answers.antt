use Rattle.jfr_frame.proofs.FramingLaws.{framing_computed}
use Rattle.jfr_frame.proofs.laws.computed_framing.Goals as goal

pub returns : goal.returns
returns c = framing_computed
