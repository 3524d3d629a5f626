use Rattle.std.proofs.Common.{◌∙◌, ap, [], ◌∷◌, ◌++◌}
use Rattle.jfr_meta.proofs.NewTableLaws.{text_numbered, new_number, text_tabled}
use Rattle.jfr_meta.proofs.tabling.NewTable.number_by_text.Goals as goal

pub returns-in-Some-clause-number : goal.returns-in-Some-clause-number
returns-in-Some-clause-number c = (text_numbered c.args.strings.now c.args.self.now c.text_at-text.result.now c.args.index c.in-Some.number.now c.requires c.text_at-text.utf8 c.text_at-text.ensures
    c.in-Some.ensures.value).0

pub returns-in-Some-clause-tabled : goal.returns-in-Some-clause-tabled
returns-in-Some-clause-tabled c = (text_numbered c.args.strings.now c.args.self.now c.text_at-text.result.now c.args.index c.in-Some.number.now c.requires c.text_at-text.utf8 c.text_at-text.ensures
    c.in-Some.ensures.value).1

pub returns-clause-number : goal.returns-clause-number
returns-clause-number c =
    let more = c.in_ok-push_text.ensures.ok ∙ ap (λ z. c.args.self.now.words ++ z ∷ []) c.in_ok-shared.ensures.ok in
    new_number c.args.strings.now c.args.self.now c.text_at-text.result.now c.args.index c.push_text.new.self c.insert.new.self c.requires c.text_at-text.utf8 c.text_at-text.ensures
    c.in_default.ensures.value more c.len-number.result c.len-number.ensures c.in_ok-insert.ensures.updates

pub returns-clause-tabled : goal.returns-clause-tabled
returns-clause-tabled c =
    let more = c.in_ok-push_text.ensures.ok ∙ ap (λ z. c.args.self.now.words ++ z ∷ []) c.in_ok-shared.ensures.ok in
    text_tabled c.args.strings.now c.args.self.now c.text_at-text.result.now c.args.index c.push_text.new.self c.insert.new.self c.requires c.text_at-text.utf8 c.text_at-text.ensures
    c.in_default.ensures.value more c.len-number.result c.len-number.ensures c.in_ok-insert.ensures.updates
