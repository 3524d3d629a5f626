use Rattle.std.proofs.Common.{sym, subst}
use Rattle.jfr_value.specs.Nodes.{IsNode, node_of}
use Rattle.jfr_path.proofs.StepLaws.{event_place}
use Rattle.jfr_path.proofs.steps.fields_of.Goals as goal

pub returns-clause-value : goal.returns-clause-value
returns-clause-value c =
    let v = event_place c.args.chunk.now c.bytes.ensures.parts c.args.event.now c.requires in
    (v.0, subst (λ z. IsNode c.args.chunk.now.classes z (node_of c.args.event.now.node) v.0) (sym c.bytes.ensures.exact) v.1)
