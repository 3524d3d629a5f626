use Rattle.std.proofs.Common.{◌≡◌, ◌++◌, OnOk, ap, sym, ◌∙◌, subst}
use Rattle.std.proofs.lemmas.List.{append_assoc}
use Rattle.jfr_value.specs.Nodes.{node_of}
use Rattle.jfr_chunk.specs.Parts.{Parts}
use Rattle.jfr_show.specs.declared.depth.Depth.{Depth}
use Rattle.jfr_show.specs.Shown.{event_shown, node_shown, referred}
use Rattle.jfr_show.specs.Texts.{newline}
use Rattle.jfr_show.proofs.ReferLaws.{event_is}
use Rattle.jfr_show.proofs.writer.TextWriter.show.Goals as goal

pub returns-clause-ok : goal.returns-clause-ok
returns-clause-ok c =
    let p = c.self.inside.chunk.now in
    let n = node_of c.args.event.now.node in
    let value = node_shown p (referred p c.args.depth) 0 n in
    let shown : c.show_node.new.out ≡ c.args.out.now ++ value =
    c.in_ok-show_node.ensures.ok
    ∙ (ap (λ (z : Depth). c.args.out.now ++ node_shown p (referred p z.reach.references) z.level (node_of c.fields_of-node.result)) c.of_event.ensures
    ∙ ap (λ z. c.args.out.now ++ node_shown p (referred p c.args.depth) 0 z) c.fields_of-node.ensures.exact) in
    let whole = ap (λ z. z ++ newline) shown
    ∙ (append_assoc c.args.out.now value newline ∙ ap (λ z. c.args.out.now ++ z) (sym (event_is p c.args.depth n) ∙ ap (λ (q : Parts). event_shown q c.args.depth n) c.self.view_is)) in
    subst (λ z. OnOk c.push_ascii.result (c.push_ascii.new.self ≡ z)) whole c.push_ascii.ensures.ok
