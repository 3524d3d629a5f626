use Rattle.jfr_frame.proofs.StartLaws.{kept_places_of}
use Rattle.jfr_frame.proofs.frames.Frames.into_buffers.Goals as goal

pub returns : goal.returns
returns c = kept_places_of _ _ _ c.self.invariant c.self.view_is
