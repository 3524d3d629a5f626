-- A node has an item if it is an array that has it.
use Rattle.std.proofs.Common.{◌≡◌, length, sym, ◌∙◌, ap, subst, arith}
use Rattle.std.specs.Prelude.{replicate, IsSome}
use Rattle.std.proofs.lemmas.List.{length-replicate}
use Rattle.jfr_layout.specs.Classes.{find_class, item_of}
use Rattle.jfr_layout.specs.declared.shape.Shape.{Shape}
use Rattle.jfr_value.specs.declared.node.Step.TheVariants as steps
use Rattle.jfr_base.specs.Formats.{int_at}
use Rattle.jfr_value.specs.Nodes.{AreValues, node_of}
use Rattle.jfr_value.proofs.ChildLaws.{child_value, has_count, item_is, items_known, no_item_past}
use Rattle.jfr_value.proofs.WalkLaws.{some_there}
use Rattle.jfr_value.proofs.part.item.Goals as goal

pub known_integer-count-requires-clause-known : goal.known_integer-count-requires-clause-known
known_integer-count-requires-clause-known c =
    some_there (int_at c.args.node.now.bytes.now c.args.node.now.at c.args.node.now.end)
    (has_count c.args.classes.now c.args.node.now.bytes.now (node_of c.args.node.now) c.requires.0 c.layout_of-layout.ensures.sound c.requires.1 c.if-not-node.false)

pub returns-then-number-count-clause-exact : goal.returns-then-number-count-clause-exact
returns-then-number-count-clause-exact c =
    sym (no_item_past c.args.classes.now c.args.node.now.bytes.now (node_of c.args.node.now) c.requires.0 c.layout_of-layout.ensures.sound c.requires.1 c.args.number c.known_integer-count.result
    c.if-not-node.false c.known_integer-count.ensures.exact
    (let l : length (replicate c.known_integer-count.result.value (item_of c.args.node.now.shape)) ≡ c.known_integer-count.result.value = simp length-replicate in omega arith))

pub nth_item-requires-clause-item : goal.nth_item-requires-clause-item
nth_item-requires-clause-item c = ap (λ (z : Shape). z.array) (c.layout_of-layout.ensures.shape ∙ c.item_of.ensures)

pub nth_item-requires-clause-placed : goal.nth_item-requires-clause-placed
nth_item-requires-clause-placed c = record {
  form = c.layout_of-layout.ensures.form;
  of_class = λ o. c.layout_of-layout.ensures.known
      (subst (λ (z : Shape). IsSome (find_class c.args.classes.now z.class)) (sym c.item_of.ensures)
      (items_known c.args.classes.now c.args.node.now.bytes.now (node_of c.args.node.now) c.requires.0 c.layout_of-layout.ensures.sound c.requires.1 c.args.number c.known_integer-count.result
      c.if-not-node.false c.known_integer-count.ensures.exact c.if-number-count.false
      (sym (ap (λ (z : Shape). z.constant) (c.layout_of-layout.ensures.shape ∙ c.item_of.ensures)) ∙ o)));
}

pub nth_item-requires-clause-row : goal.nth_item-requires-clause-row
nth_item-requires-clause-row c =
    let f = (item_is c.args.classes.now c.args.node.now.bytes.now (node_of c.args.node.now) c.requires.0 c.layout_of-layout.ensures.sound c.requires.1 c.args.number c.known_integer-count.result
    c.if-not-node.false c.known_integer-count.ensures.exact).1 in (
      f.0,
      subst (λ (z : Shape). AreValues c.args.classes.now c.args.node.now.bytes.now c.known_integer-count.result.end c.args.node.now.end (replicate c.known_integer-count.result.value z) f.0)
          (sym (c.layout_of-layout.ensures.shape ∙ c.item_of.ensures)) f.1,
    )

pub returns-clause-exact : goal.returns-clause-exact
returns-clause-exact c =
    let f = (item_is c.args.classes.now c.args.node.now.bytes.now (node_of c.args.node.now) c.requires.0 c.layout_of-layout.ensures.sound c.requires.1 c.args.number c.known_integer-count.result
    c.if-not-node.false c.known_integer-count.ensures.exact).1 in
    sym (f.2 ∙ c.nth_item.ensures.exact f.0 (subst
    (λ (z : Shape). AreValues c.args.classes.now c.args.node.now.bytes.now c.known_integer-count.result.end c.args.node.now.end (replicate c.known_integer-count.result.value z) f.0)
    (sym (c.layout_of-layout.ensures.shape ∙ c.item_of.ensures)) f.1))

pub returns-clause-value : goal.returns-clause-value
returns-clause-value c = child_value c.args.classes.now c.args.node.now c.nth_item.result (steps.Item c.args.number) c.layout_of-layout.ensures.sound c.requires c.nth_item.ensures.bytes
    (sym (returns-clause-exact c))
