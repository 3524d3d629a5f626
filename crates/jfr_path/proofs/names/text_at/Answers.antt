use Rattle.std.proofs.Common.{◌≡◌, ◌∙◌, IfOk, ap, subst}
use Rattle.jfr_text.specs.Spans.{content_of}
use Rattle.jfr_value.specs.Nodes.{node_of}
use Rattle.jfr_chunk.specs.Paths.{always, follow_while}
use Rattle.jfr_path.proofs.TextLaws.{text_there, no_text}
use Rattle.jfr_path.proofs.names.text_at.Goals as goal

pub returns-in-Some : goal.returns-in-Some
returns-in-Some c = record {
  ok = subst (λ z. IfOk c.text_of.result (λ text. text ≡ z))
      (text_there c.args.chunk.now (node_of c.args.node.now) (node_of c.follow_keys-last.result)
      (c.follow_keys-last.ensures.exact ∙ ap (follow_while 16 always c.args.chunk.now) c.in_chunk.ensures.exact) (content_of c.in-Some.span) c.in-Some.ensures) c.text_of.ensures.ok;
}

pub returns-in-None : goal.returns-in-None
returns-in-None c = record {
  ok = no_text c.args.chunk.now (node_of c.args.node.now) (node_of c.follow_keys-last.result)
      (c.follow_keys-last.ensures.exact ∙ ap (follow_while 16 always c.args.chunk.now) c.in_chunk.ensures.exact) c.in-None.ensures;
}
