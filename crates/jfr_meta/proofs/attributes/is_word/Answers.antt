use Rattle.std.proofs.Common.{◌∙◌}
use Rattle.jfr_meta.proofs.Texts.{word_eq}
use Rattle.jfr_meta.proofs.attributes.is_word.Goals as goal

pub returns : goal.returns
returns c = c.eq.ensures ∙ word_eq c.args.text.now c.args.word.now c.utf8.text c.utf8.word c.requires
