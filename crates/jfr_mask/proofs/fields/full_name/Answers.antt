use Rattle.std.specs.Str.{chars}
use Rattle.std.proofs.Common.{◌≡◌, ◌++◌, ◌∷◌, [], string_bytes, ap, rules, ◌∙◌}
use Rattle.jfr_mask.proofs.FieldLaws.{dot_joined}
use Rattle.jfr_mask.proofs.fields.full_name.Goals as goal

pub returns : goal.returns
returns c = record {
  ok =
      let class = c.as_str.result.now in
      let field = c.as_str-2.result.now in
      let all : string_bytes c.push_str.new.self ≡ (class ++ 46 ∷ []) ++ field = search rules in
      ap chars all ∙ (dot_joined class field c.as_str.utf8 ∙ (ap (λ z. z ++ 46 ∷ chars field) c.as_str.ensures ∙ ap (λ z. c.args.class.now.name ++ 46 ∷ z) c.as_str-2.ensures));
}
