use Rattle.std.proofs.Common.{ℕ, List, Some, ap, sym, ◌∙◌, option_map}
use Rattle.std.specs.Str.{encode_utf8_all}
use Rattle.std.proofs.lemmas.Str.{encodes-chars}
use Rattle.jfr_split.proofs.part.folder_name.Goals as goal

pub returns-in-Some : goal.returns-in-Some
returns-in-Some c =
    ap (λ (x : List ℕ). Some x) (sym (encodes-chars c.as_str.result.now c.as_str.utf8) ∙ ap encode_utf8_all c.as_str.ensures)
    ∙ sym (ap (option_map encode_utf8_all) c.in-Some.is)
