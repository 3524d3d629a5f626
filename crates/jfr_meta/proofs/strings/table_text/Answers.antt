use Rattle.jfr_text.specs.Spans.{content_of}
use Rattle.jfr_meta.proofs.Table.{null_text}
use Rattle.jfr_meta.proofs.strings.table_text.Goals as goal

pub returns-in-None : goal.returns-in-None
returns-in-None c = record { ok = null_text c.make.result c.in_ok-text.field-0 (content_of c.args.string.now) c.make.ensures.ok c.in-None.is c.in_ok-text.ensures.ok }
