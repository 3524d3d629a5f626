-- The last frame is taken from the stack, and its next value comes first.
use Rattle.std.proofs.Common.{ap, ◌∙◌, sym, subst}
use Rattle.std.specs.Prelude.{◌+◌, ℕ, List, [], length}
use Rattle.std.proofs.lemmas.List.{append-nil}
use Rattle.jfr_layout.specs.declared.shape.Shape.{Shape}
use Rattle.jfr_value.specs.declared.stack.Frame.TheVariants.{Fields, Items}
use Rattle.jfr_value.specs.Nodes.{AreValues}
use Rattle.jfr_value.specs.Walks.{GoesOn, remaining_holders, remaining_shapes, size_of_all}
use Rattle.jfr_value.proofs.StackLaws.{nothing_left, popped}
use Rattle.jfr_value.proofs.WalkLaws.{no_leaves}
use Rattle.jfr_value.proofs.cursor.advance.Goals as goal

pub next_field-requires-clause-frame : goal.next_field-requires-clause-frame
next_field-requires-clause-frame c = (let p = popped c.args.walk.now.classes.now c.args.cursor.now.stack c.pop.new.self c.in-Some-Fields.field-0
    (Fields c.in-Some-Fields.fields) c.in-Some-Fields.ensures.items c.in-Some-Fields.field-0-is c.requires.frames in p.frame)

pub next_field-requires-clause-frames : goal.next_field-requires-clause-frames
next_field-requires-clause-frames c = (let p = popped c.args.walk.now.classes.now c.args.cursor.now.stack c.pop.new.self c.in-Some-Fields.field-0
    (Fields c.in-Some-Fields.fields) c.in-Some-Fields.ensures.items c.in-Some-Fields.field-0-is c.requires.frames in p.frames)

pub next_field-requires-clause-remaining : goal.next_field-requires-clause-remaining
next_field-requires-clause-remaining c =
    (let p = popped c.args.walk.now.classes.now c.args.cursor.now.stack c.pop.new.self c.in-Some-Fields.field-0
    (Fields c.in-Some-Fields.fields) c.in-Some-Fields.ensures.items c.in-Some-Fields.field-0-is
    c.requires.frames in (
      c.requires.remaining.0,
      subst
          (λ (z : List Shape). AreValues c.args.walk.now.classes.now c.args.walk.now.bytes.now c.args.cursor.now.at c.args.walk.now.end z c.requires.remaining.0) p.shapes c.requires.remaining.1,
    ))

pub returns-in-Some-Fields-clause-remaining : goal.returns-in-Some-Fields-clause-remaining
returns-in-Some-Fields-clause-remaining c = λ vs r.
    (let p = popped c.args.walk.now.classes.now c.args.cursor.now.stack c.pop.new.self c.in-Some-Fields.field-0
    (Fields c.in-Some-Fields.fields) c.in-Some-Fields.ensures.items c.in-Some-Fields.field-0-is c.requires.frames in
    subst (λ (z : ℕ). GoesOn c.args.walk.now.classes.now c.args.walk.now.bytes.now c.args.walk.now.end (remaining_holders c.args.walk.now.classes.now c.args.cursor.now.stack) c.args.cursor.now.at vs
    (size_of_all vs + z) c.next_field.new.cursor c.next_field.result) (sym p.height)
    (subst (λ z. GoesOn c.args.walk.now.classes.now c.args.walk.now.bytes.now c.args.walk.now.end z c.args.cursor.now.at vs
    (size_of_all vs + (length c.pop.new.self + 1)) c.next_field.new.cursor c.next_field.result) (sym p.holders)
    (c.next_field.ensures.remaining vs (subst (λ (z : List Shape). AreValues c.args.walk.now.classes.now c.args.walk.now.bytes.now c.args.cursor.now.at c.args.walk.now.end z vs) p.shapes r))))

pub next_item-requires-clause-frame : goal.next_item-requires-clause-frame
next_item-requires-clause-frame c = (let p = popped c.args.walk.now.classes.now c.args.cursor.now.stack c.pop.new.self c.in-Some-Items.field-0
    (Items c.in-Some-Items.value c.in-Some-Items.remaining) c.in-Some-Items.ensures.items c.in-Some-Items.field-0-is c.requires.frames in p.frame)

pub next_item-requires-clause-frames : goal.next_item-requires-clause-frames
next_item-requires-clause-frames c = (let p = popped c.args.walk.now.classes.now c.args.cursor.now.stack c.pop.new.self c.in-Some-Items.field-0
    (Items c.in-Some-Items.value c.in-Some-Items.remaining) c.in-Some-Items.ensures.items c.in-Some-Items.field-0-is c.requires.frames in p.frames)

pub next_item-requires-clause-remaining : goal.next_item-requires-clause-remaining
next_item-requires-clause-remaining c = (let p = popped c.args.walk.now.classes.now c.args.cursor.now.stack c.pop.new.self c.in-Some-Items.field-0
    (Items c.in-Some-Items.value c.in-Some-Items.remaining) c.in-Some-Items.ensures.items c.in-Some-Items.field-0-is
    c.requires.frames in (
      c.requires.remaining.0,
      subst
          (λ (z : List Shape). AreValues c.args.walk.now.classes.now c.args.walk.now.bytes.now c.args.cursor.now.at c.args.walk.now.end z c.requires.remaining.0) p.shapes c.requires.remaining.1,
    ))

pub returns-in-Some-Items-clause-remaining : goal.returns-in-Some-Items-clause-remaining
returns-in-Some-Items-clause-remaining c = λ vs r.
    (let p = popped c.args.walk.now.classes.now c.args.cursor.now.stack c.pop.new.self c.in-Some-Items.field-0
    (Items c.in-Some-Items.value c.in-Some-Items.remaining) c.in-Some-Items.ensures.items c.in-Some-Items.field-0-is c.requires.frames in
    subst (λ (z : ℕ). GoesOn c.args.walk.now.classes.now c.args.walk.now.bytes.now c.args.walk.now.end (remaining_holders c.args.walk.now.classes.now c.args.cursor.now.stack) c.args.cursor.now.at vs
    (size_of_all vs + z) c.next_item.new.cursor c.next_item.result) (sym p.height)
    (subst (λ z. GoesOn c.args.walk.now.classes.now c.args.walk.now.bytes.now c.args.walk.now.end z c.args.cursor.now.at vs
    (size_of_all vs + (length c.pop.new.self + 1)) c.next_item.new.cursor c.next_item.result) (sym p.holders)
    (c.next_item.ensures.remaining vs (subst (λ (z : List Shape). AreValues c.args.walk.now.classes.now c.args.walk.now.bytes.now c.args.cursor.now.at c.args.walk.now.end z vs) p.shapes r))))

pub returns-in-None-clause-remaining : goal.returns-in-None-clause-remaining
returns-in-None-clause-remaining c = λ vs r.
    (let e = nothing_left c.args.cursor.now.stack c.in-None.ensures.variant in
    let none : AreValues c.args.walk.now.classes.now c.args.walk.now.bytes.now c.args.cursor.now.at c.args.walk.now.end [] vs = subst
    (λ (z : List Shape). AreValues c.args.walk.now.classes.now c.args.walk.now.bytes.now c.args.cursor.now.at c.args.walk.now.end z vs) (ap (remaining_shapes c.args.walk.now.classes.now) e) r in (
      vs,
      subst (λ (z : List Shape). AreValues c.args.walk.now.classes.now c.args.walk.now.bytes.now c.args.cursor.now.at c.args.walk.now.end z vs)
          (ap (remaining_shapes c.args.walk.now.classes.now) (c.in-None.ensures.items ∙ append-nil c.pop.new.self)) r,
      no_leaves c.args.walk.now.classes.now c.args.walk.now.bytes.now c.args.cursor.now.at c.args.walk.now.end (remaining_holders c.args.walk.now.classes.now c.args.cursor.now.stack) vs none,
      no_leaves c.args.walk.now.classes.now c.args.walk.now.bytes.now c.args.cursor.now.at c.args.walk.now.end (remaining_holders c.args.walk.now.classes.now c.pop.new.self) vs none,
    ))
