use Rattle.std.proofs.Common.{◌++◌, codes, decimal, string_bytes, ap, sym, ◌∙◌}
use Rattle.std.specs.Str.{encode_utf8_all}
use Rattle.std.proofs.lemmas.Str.{encodes-chars}
use Rattle.serde_json.specs.Data.{string}
use Rattle.serde_json.specs.Written.{compact_text}
use Rattle.jfr_show.specs.Json.{text_json}
use Rattle.jfr_show.specs.Names.{class_name}
use Rattle.jfr_show.proofs.JsonLaws.{parts_added, reference_text}
use Rattle.jfr_show.proofs.json.reference.push_name.Goals as goal

pub returns : goal.returns
returns c =
    let k = c.args.source.now.chunk.now.classes in
    let was = string_bytes c.args.out.now in
    let name = sym (encodes-chars c.class_name.result.now c.class_name.utf8) ∙ ap encode_utf8_all c.class_name.ensures in
    let named = c.in_ok-push_string.ensures.ok ∙ ap (λ z. string_bytes c.push_str.new.self ++ compact_text (string z)) name in
    record {
      ok = parts_added was (string_bytes c.push_str.new.self) (string_bytes c.push_string.new.out) (string_bytes c.push_str-2.new.self) (string_bytes c.push_number.new.out)
          (string_bytes c.push_str-3.new.self) (codes "{\"class\":") (compact_text (text_json (class_name k c.args.class))) (codes ",\"key\":") (decimal c.args.key) (codes "}")
          c.in_ok-push_str.ensures.bytes named c.in_ok-push_str-2.ensures.bytes c.in_ok-push_number.ensures.ok c.in_ok-push_str-3.ensures.bytes
          ∙ ap (λ z. was ++ z) (reference_text k (c.args.class, c.args.key));
    }
