use Rattle.jfr_meta.proofs.NameLaws.{grow_text, text_added, text_found}
use Rattle.jfr_meta.proofs.names.NameNumbers.number_by_text.Goals as goal

pub returns-in-Some-clause-number : goal.returns-in-Some-clause-number
returns-in-Some-clause-number c = text_found c.args.strings.now c.args.self.now c.text_at-text.result.now c.args.index c.in-Some.number.now c.text_at-text.utf8 c.text_at-text.ensures
    c.in-Some.ensures.value

pub returns-clause-number : goal.returns-clause-number
returns-clause-number c = text_added c.args.strings.now c.args.self.now c.text_at-text.result.now c.args.index c.insert.new.self c.text_at-text.utf8 c.text_at-text.ensures c.in_default.ensures.value
    c.in_ok-insert.ensures.updates

pub returns-clause-grow : goal.returns-clause-grow
returns-clause-grow c = grow_text c.args.strings.now c.args.self.now c.text_at-text.result.now c.args.index c.insert.new.self c.text_at-text.utf8 c.text_at-text.ensures c.in_default.ensures.value
    c.in_ok-insert.ensures.updates c.requires
