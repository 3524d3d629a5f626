use Rattle.std.proofs.Common.{ap, sym, ◌∙◌}
use Rattle.jfr_value.specs.Nodes.{node_of, target}
use Rattle.jfr_path.proofs.ThreadLaws.{referred_to}
use Rattle.jfr_path.proofs.threads.referred.Goals as goal

pub returns : goal.returns
returns c =
    let chunk = c.args.chunk.now in
    let node = c.args.node.now in
    let referred = c.target.ensures ∙ (ap (λ z. target z node.bytes.now (node_of node)) c.classes.ensures ∙ ap (λ z. target chunk.classes z (node_of node)) c.requires.of_chunk) in
    referred_to chunk node c.target.result c.requires.value c.requires.of_chunk (sym c.is_reference.ensures ∙ c.if-not-is_reference.false) referred
