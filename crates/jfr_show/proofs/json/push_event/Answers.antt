use Rattle.std.proofs.Common.{◌++◌, codes, string_bytes, ap, sym, ◌∙◌}
use Rattle.std.specs.Str.{encode_utf8_all}
use Rattle.std.proofs.lemmas.Str.{encodes-chars}
use Rattle.serde_json.specs.Data.{string}
use Rattle.serde_json.specs.Written.{compact_text}
use Rattle.jfr_value.specs.Nodes.{NodeAt, node_of}
use Rattle.jfr_show.specs.Json.{event_data, node_json, referred_json, text_json}
use Rattle.jfr_show.specs.Names.{class_name}
use Rattle.jfr_show.proofs.JsonLaws.{parts_added, event_text}
use Rattle.jfr_show.proofs.json.push_event.Goals as goal

pub returns : goal.returns
returns c =
    let p = c.args.source.now.chunk.now in
    let m = node_of c.fields_of-node.result in
    let was = string_bytes c.args.out.now in
    let name = sym (encodes-chars c.class_name.result.now c.class_name.utf8) ∙ ap encode_utf8_all c.class_name.ensures in
    let named = c.in_ok-push_string.ensures.ok ∙ ap (λ z. string_bytes c.push_str.new.self ++ compact_text (string z)) name in
    let values = c.in_ok-push_node.ensures.ok in
    record {
      ok = parts_added was (string_bytes c.push_str.new.self) (string_bytes c.push_string.new.out) (string_bytes c.push_str-2.new.self) (string_bytes c.push_node.new.out)
          (string_bytes c.push_str-3.new.self) (codes "{\"type\":") (compact_text (text_json (class_name p.classes m.shape.class))) (codes ",\"values\":")
          (compact_text (node_json p (referred_json p c.args.source.now.reach.references) m)) (codes "}")
          c.in_ok-push_str.ensures.bytes named c.in_ok-push_str-2.ensures.bytes values c.in_ok-push_str-3.ensures.bytes
          ∙ (ap (λ z. was ++ z) (event_text p c.args.source.now.reach.references m)
          ∙ ap (λ (n : NodeAt). was ++ compact_text (event_data p c.args.source.now.reach.references n)) c.fields_of-node.ensures.exact);
      cached = c.in_ok-push_node.ensures.cached;
    }
