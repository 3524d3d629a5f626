use Rattle.std.proofs.Common.{◌∙◌, refl, sym, arith}
use Rattle.jfr_frame.proofs.RecordLaws.{record_stands, record_none}
use Rattle.jfr_frame.proofs.framed.next_record.Goals as goal

pub returns-in-Some-clause-ok : goal.returns-in-Some-clause-ok
returns-in-Some-clause-ok c = record_stands _ _ _ c.requires (sym c.framed_at.ensures ∙ c.in-Some.is)

pub returns-in-None-clause-refused : goal.returns-in-None-clause-refused
returns-in-None-clause-refused c = (refl, omega arith, record_none _ _ c.requires (sym c.framed_at.ensures ∙ c.in-None.is))
