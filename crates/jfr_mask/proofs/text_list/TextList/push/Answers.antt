use Rattle.std.proofs.Common.{◌≡◌, ◌++◌, ◌∷◌, [], ap, length, rules, ◌∙◌}
use Rattle.std.specs.Str.{chars}
use Rattle.jfr_mask.proofs.PieceLaws.{chars_after, laid_after}
use Rattle.jfr_mask.proofs.text_list.TextList.push.Goals as goal

pub invariant_of-self-in-Ok : goal.invariant_of-self-in-Ok
invariant_of-self-in-Ok c =
    let list = c.self.inside in
    let bytes : c.extend_from_slice.new.self.items ≡ list.bytes.items ++ c.args.text.now = search rules in
    let ends : c.push.new.self.items ≡ list.ends.items ++ length c.extend_from_slice.new.self.items ∷ [] = search rules in
    laid_after list.ends.items list.bytes.items c.args.text.now c.push.new.self.items c.extend_from_slice.new.self.items c.self.invariant c.utf8.text bytes ends

pub returns-in-Ok-clause-ok : goal.returns-in-Ok-clause-ok
returns-in-Ok-clause-ok c =
    let list = c.self.inside in
    let bytes : c.extend_from_slice.new.self.items ≡ list.bytes.items ++ c.args.text.now = search rules in
    let ends : c.push.new.self.items ≡ list.ends.items ++ length c.extend_from_slice.new.self.items ∷ [] = search rules in
    chars_after list.ends.items list.bytes.items c.args.text.now c.push.new.self.items c.extend_from_slice.new.self.items c.self.invariant c.utf8.text bytes ends
    ∙ ap (λ z. z ++ chars c.args.text.now ∷ []) c.self.view_is
