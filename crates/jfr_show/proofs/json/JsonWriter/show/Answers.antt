use Rattle.std.proofs.Common.{◌≡◌, ◌++◌, OnOk, string_bytes, ap, sym, ◌∙◌, subst}
use Rattle.std.specs.Str.{chars}
use Rattle.serde_json.specs.Written.{compact_text}
use Rattle.jfr_value.specs.Nodes.{node_of}
use Rattle.jfr_chunk.specs.Parts.{Parts}
use Rattle.jfr_show.specs.declared.depth.Reach.{Reach}
use Rattle.jfr_show.specs.Json.{event_data}
use Rattle.jfr_show.specs.Orders.{AreOrders}
use Rattle.jfr_show.specs.Texts.{newline}
use Rattle.jfr_show.proofs.JsonLaws.{line_is}
use Rattle.jfr_show.proofs.json.JsonWriter.show.Goals as goal

pub push_event-requires-clause-source : goal.push_event-requires-clause-source
push_event-requires-clause-source c = subst (AreOrders c.self.inside.chunk.now.classes) (sym c.deref.ensures.value) c.self.invariant.0

pub returns-clause-ok : goal.returns-clause-ok
returns-clause-ok c =
    let n = node_of c.args.event.now.node in
    let line = compact_text (event_data c.args.self.now c.args.depth n) in
    let written : string_bytes c.push_event.new.out ≡ line =
    c.in_ok-push_event.ensures.ok
    ∙ (ap (λ (z : Reach). string_bytes c.in_ok-line.line ++ compact_text (event_data c.self.inside.chunk.now z.references n)) c.of_event.ensures
    ∙ (ap (λ z. z ++ compact_text (event_data c.self.inside.chunk.now c.args.depth n)) c.in_ok-line.ensures.bytes
    ∙ ap (λ (p : Parts). compact_text (event_data p c.args.depth n)) c.self.view_is)) in
    let whole = ap (λ z. c.args.out.now ++ (chars z ++ newline)) (c.as_str.ensures.value ∙ written) ∙ ap (λ z. c.args.out.now ++ z) (sym (line_is c.args.self.now c.args.depth n)) in
    subst (λ z. OnOk c.push_line.result (c.push_line.new.self ≡ z)) whole c.push_line.ensures.ok
