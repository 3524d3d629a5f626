use Rattle.std.proofs.Common.{◌≡◌, IfOk, ap, subst, ◌∙◌}
use Rattle.jfr_value.specs.Nodes.{node_of}
use Rattle.jfr_chunk.specs.Paths.{named_node}
use Rattle.jfr_path.proofs.NameLaws.{named_there, named_none}
use Rattle.jfr_path.proofs.names.named.Goals as goal

pub returns-in-Some : goal.returns-in-Some
returns-in-Some c =
    let e = c.in-Some.ensures.exact ∙ ap (λ z. named_node c.args.chunk.now z c.args.names.now) c.fields_of-fields.ensures.exact in
    record {
      ok = subst (λ z. IfOk c.text_at.result (λ text. text ≡ z)) (named_there c.args.chunk.now c.args.names.now (node_of c.args.event.now.node) (node_of c.in-Some.node) e)
          c.text_at.ensures.ok;
    }

pub returns-in-None : goal.returns-in-None
returns-in-None c = record {
  ok = named_none c.args.chunk.now c.args.names.now (node_of c.args.event.now.node)
      (c.in-None.ensures.exact ∙ ap (λ z. named_node c.args.chunk.now z c.args.names.now) c.fields_of-fields.ensures.exact);
}
