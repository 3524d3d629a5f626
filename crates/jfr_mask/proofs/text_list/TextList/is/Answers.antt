use Rattle.jfr_mask.proofs.MapLaws.{same_chars}
use Rattle.std.proofs.Common.{rules, slice_get}
use Rattle.jfr_mask.proofs.text_list.TextList.is.Goals as goal

pub returns-in-Some : goal.returns-in-Some
returns-in-Some c = same_chars c.in-Some.bytes.now c.args.text.now (slice_get c.args.self.now c.args.at) c.eq.result c.in-Some.ensures.utf8 c.utf8.text c.in-Some.ensures.text (search rules)
