use Rattle.std.proofs.Common.{◌≡◌, ap, length, rules, sym, ◌∙◌}
use Rattle.std.proofs.lemmas.List.{length-map}
use Rattle.std.specs.Str.{chars}
use Rattle.jfr_mask.specs.Pieces.{pieces}
use Rattle.jfr_mask.proofs.PieceLaws.{length-laid}
use Rattle.jfr_mask.proofs.text_list.TextList.len.Goals as goal

pub returns-clause-length : goal.returns-clause-length
returns-clause-length c =
    let list = c.self.inside in
    let texts = pieces 0 list.ends.items list.bytes.items in
    let len : c.len.result ≡ length list.ends.items = search rules in
    len ∙ (length-laid texts list.ends.items list.bytes.items c.self.invariant ∙ (sym (length-map texts chars) ∙ ap length c.self.view_is))
