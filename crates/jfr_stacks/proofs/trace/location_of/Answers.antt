use Rattle.std.proofs.Common.{subst, sym, ◌∙◌}
use Rattle.jfr_value.specs.Nodes.{IsNode, node_of}
use Rattle.jfr_stacks.proofs.TextLaws.{leads_nowhere, leads_to}
use Rattle.jfr_stacks.proofs.trace.location_of.Goals as goal

pub returns-in-Some : goal.returns-in-Some
returns-in-Some c =
    leads_to c.args.chunk.now (node_of c.args.trace.now) c.in-Some.number (sym c.is_reference.ensures ∙ c.if-not-is_reference.false) (sym c.in-Some.ensures)

pub returns-in-None : goal.returns-in-None
returns-in-None c =
    let p = c.args.chunk.now in
    let n = node_of c.args.trace.now in
    let v = c.requires.value in
    let i : IsNode p.classes p.bytes n v.0 = subst (λ z. IsNode p.classes z n v.0) c.requires.of_chunk v.1 in
    leads_nowhere p n v.0 c.parts_are_valid.ensures.sound i (sym c.is_reference.ensures ∙ c.if-not-is_reference.false) (sym c.in-None.ensures)
