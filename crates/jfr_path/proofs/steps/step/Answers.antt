use Rattle.std.proofs.Common.{ap, sym, ◌∙◌}
use Rattle.jfr_value.specs.Nodes.{child, node_of}
use Rattle.jfr_path.proofs.StepLaws.{step_child}
use Rattle.jfr_path.proofs.steps.step.Goals as goal

pub returns-in_default-clause-exact : goal.returns-in_default-clause-exact
returns-in_default-clause-exact c =
    c.child.ensures.exact
    ∙ (ap (λ z. child z c.args.node.now.bytes.now (node_of c.args.node.now) c.args.by.now) c.classes.ensures
    ∙ (ap (λ z. child c.args.chunk.now.classes z (node_of c.args.node.now) c.args.by.now) c.requires.of_chunk
    ∙ sym (step_child c.args.chunk.now (node_of c.args.node.now) c.args.by.now c.in_default.not-Follow)))
