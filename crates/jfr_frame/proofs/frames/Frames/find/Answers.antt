use Rattle.std.proofs.Common.{sym, ◌∙◌}
use Rattle.jfr_frame.proofs.FindLaws.{there_found, there_not_found, is_type, is_no_type}
use Rattle.jfr_frame.proofs.frames.Frames.find.Goals as goal

pub returns-in_err-number : goal.returns-in_err-number
returns-in_err-number c =
    c.from_residual.ensures ∙ sym (there_not_found _ _ _ c.number_at.result c.number_at.ensures.order c.number_at.ensures.position (sym c.ok.ensures.value ∙ c.in_err-number.was))

pub returns-in_err-record : goal.returns-in_err-record
returns-in_err-record c =
    c.from_residual-in_err-record.ensures ∙ sym
    (there_found _ _ _ _ _ c.number_at.result c.number_at.ensures.order c.number_at.ensures.position (sym c.ok.ensures.value ∙ c.in_ok-number.was) (sym c.in_err-record.was ∙ c.get.ensures))

pub returns-then-record-type_id : goal.returns-then-record-type_id
returns-then-record-type_id c =
    sym (there_found _ _ _ _ _ c.number_at.result c.number_at.ensures.order c.number_at.ensures.position (sym c.ok.ensures.value ∙ c.in_ok-number.was) (sym c.in_ok-record.was ∙ c.get.ensures)
    ∙ is_type _ _ c.if-record-type_id.true)

pub returns-else-record-type_id : goal.returns-else-record-type_id
returns-else-record-type_id c =
    sym (there_found _ _ _ _ _ c.number_at.result c.number_at.ensures.order c.number_at.ensures.position (sym c.ok.ensures.value ∙ c.in_ok-number.was) (sym c.in_ok-record.was ∙ c.get.ensures)
    ∙ is_no_type _ _ c.if-record-type_id.false)
