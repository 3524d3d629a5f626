use Rattle.std.proofs.Common.{sym, ap, ◌∙◌}
use Rattle.jfr_base.specs.Texts.{text_in}
use Rattle.jfr_words.proofs.WordLaws.{no_first}
use Rattle.jfr_words.proofs.unread.UnreadWords.end.Goals as goal

pub returns-in-None : goal.returns-in-None
returns-in-None c = no_first c.args.self.now (sym c.first.ensures ∙ ap text_in c.in-None.is)
