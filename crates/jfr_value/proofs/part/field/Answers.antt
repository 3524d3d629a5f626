-- A node has a field if it is an inline value of a composite class that has it.
use Rattle.std.proofs.Common.{sym, ◌∙◌}
use Rattle.jfr_value.specs.declared.node.Step.TheVariants as steps
use Rattle.jfr_value.specs.Nodes.{node_of}
use Rattle.jfr_value.proofs.ChildLaws.{child_value, no_field_of_array, no_field_of_constant, no_field_of_kind, no_field_of_unknown, no_field_past, field_row}
use Rattle.jfr_value.proofs.LayoutLaws.{layouts_of}
use Rattle.jfr_value.proofs.part.field.Goals as goal
use Rattle.jfr_value.proofs.part.field.Goals.{then-node-via-then-node, then-node-via-else-node+then-node-2}

pub returns-then-node-clause-exact : goal.returns-then-node-clause-exact
returns-then-node-clause-exact c = elim c.then-node.branch [
  | then-node-via-then-node w ↦ sym (no_field_of_array c.args.classes.now c.args.node.now.bytes.now (node_of c.args.node.now) c.requires.0 c.index_of.ensures.sound c.requires.1 c.args.number
      w.if-node.true)
  | then-node-via-else-node+then-node-2 w ↦ sym
      (no_field_of_constant c.args.classes.now c.args.node.now.bytes.now (node_of c.args.node.now) c.requires.0 c.index_of.ensures.sound c.requires.1 c.args.number w.if-node.false w.if-node-2.true)
]

pub returns-in_err-place-clause-exact : goal.returns-in_err-place-clause-exact
returns-in_err-place-clause-exact c = rw c.from_residual.ensures
    (sym (no_field_of_unknown c.args.classes.now c.args.node.now.bytes.now (node_of c.args.node.now) c.requires.0 c.index_of.ensures.sound c.requires.1 c.args.number
    (sym c.in_err-place.ensures.class)))

pub returns-in_default : goal.returns-in_default
returns-in_default c = record {
  exact = sym (no_field_of_kind c.args.classes.now c.args.node.now.bytes.now (node_of c.args.node.now) c.requires.0 c.index_of.ensures.sound c.requires.1 c.args.number c.in_ok-place.place
      c.kind_at.result c.if-node.false c.in_ok-place.ensures.class
      c.in_ok-place.ensures.within c.kind_at.ensures c.in_default.not-Composite);
  bytes = tt;
  value = tt;
}

pub returns-then-number-layouts-clause-exact : goal.returns-then-number-layouts-clause-exact
returns-then-number-layouts-clause-exact c = sym
    (no_field_past c.args.classes.now c.args.node.now.bytes.now (node_of c.args.node.now) c.requires.0 c.index_of.ensures.sound c.requires.1 c.args.number c.in_ok-place.place c.kind_at.result
    c.layouts-layouts.result.now c.if-node.false c.if-node-2.false c.in_ok-place.ensures.class
    c.in_ok-place.ensures.within c.kind_at.ensures c.in-Composite.is c.layouts-layouts.ensures.exact c.if-number-layouts.true)

pub nth_field-requires-clause-layouts : goal.nth_field-requires-clause-layouts
nth_field-requires-clause-layouts c = (layouts_of c.args.classes.now c.in_ok-place.place c.layouts-layouts.result.now c.in_ok-place.ensures.within c.layouts-layouts.ensures.exact).layouts.each

pub nth_field-requires-clause-row : goal.nth_field-requires-clause-row
nth_field-requires-clause-row c =
    let f = field_row c.args.classes.now c.args.node.now.bytes.now (node_of c.args.node.now) c.requires.0 c.index_of.ensures.sound c.requires.1 c.args.number c.in_ok-place.place c.kind_at.result
    c.layouts-layouts.result.now c.if-node.false c.if-node-2.false c.in_ok-place.ensures.class
    c.in_ok-place.ensures.within c.kind_at.ensures c.in-Composite.is c.layouts-layouts.ensures.exact in
    (f.0, f.1)

pub returns-clause-exact : goal.returns-clause-exact
returns-clause-exact c =
    let f = field_row c.args.classes.now c.args.node.now.bytes.now (node_of c.args.node.now) c.requires.0 c.index_of.ensures.sound c.requires.1 c.args.number c.in_ok-place.place c.kind_at.result
    c.layouts-layouts.result.now c.if-node.false c.if-node-2.false c.in_ok-place.ensures.class
    c.in_ok-place.ensures.within c.kind_at.ensures c.in-Composite.is c.layouts-layouts.ensures.exact in
    sym (f.2 ∙ c.nth_field.ensures.exact f.0 f.1)

pub returns-clause-value : goal.returns-clause-value
returns-clause-value c = child_value c.args.classes.now c.args.node.now c.nth_field.result (steps.Field c.args.number) c.index_of.ensures.sound c.requires c.nth_field.ensures.bytes
    (sym (returns-clause-exact c))
