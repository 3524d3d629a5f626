use Rattle.std.specs.Str.{chars}
use Rattle.std.proofs.Common.{ap, ◌∙◌}
use Rattle.jfr_mask.specs.Pseudonyms.{has_text}
use Rattle.jfr_mask.proofs.KnownLaws.{has_by_bytes}
use Rattle.jfr_mask.proofs.known.Known.has.Goals as goal

pub returns : goal.returns
returns c = c.contains.ensures ∙ (has_by_bytes c.self.inside.texts.keys c.args.text.now c.utf8.text ∙ ap (λ z. has_text z (chars c.args.text.now)) c.self.view_is)
