use Rattle.std.proofs.Common.{sym, ap, ◌∙◌}
use Rattle.jfr_words.specs.Words.{order_of}
use Rattle.jfr_words.proofs.OrderLaws.{usable_read}
use Rattle.jfr_words.proofs.words.read_words.Goals as goal

pub returns-in-Some-clause-usable : goal.returns-in-Some-clause-usable
returns-in-Some-clause-usable c = usable_read _ c.read_command.result c.read_command.ensures

pub returns-in-None-clause-read : goal.returns-in-None-clause-read
unfolding order_of
returns-in-None-clause-read c = ap order_of (sym c.all-unread.ensures ∙ c.in-None.ensures.0)
