use Rattle.std.proofs.Common.{ap, sym, ◌∙◌}
use Rattle.jfr_header.specs.Cuts.{joined}
use Rattle.jfr_mask.specs.RecordingLaws.{recording_chosen}
use Rattle.jfr_mask.proofs.RecordingLaws.{masked_same}
use Rattle.jfr_mask.proofs.recording_laws.recordings_keep_secrets.Goals as goal

pub returns : goal.returns
returns c = λ g m x y a. masked_same g m y ∙ ap joined (c.equal_outputs.ensures m a.exchange a.is_exchange (recording_chosen g x) (recording_chosen g y) a.chunks) ∙ sym (masked_same g m x)
