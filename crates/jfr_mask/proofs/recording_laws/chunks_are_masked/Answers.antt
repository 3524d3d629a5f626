use Rattle.jfr_mask.proofs.RecordingLaws.{is_masked_output}
use Rattle.jfr_mask.proofs.recording_laws.chunks_are_masked.Goals as goal

pub returns : goal.returns
returns c = is_masked_output c.outputs_are_masked.ensures.one
