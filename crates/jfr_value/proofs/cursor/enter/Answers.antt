-- The fields of a composite value come next.
use Rattle.std.proofs.Common.{ap, ◌∙◌, sym, subst, arith}
use Rattle.std.specs.Prelude.{◌+◌, ◌*◌, ◌≤◌, ◌-◌, ◌++◌, suc, length, List}
use Rattle.jfr_layout.specs.declared.shape.Shape.{Shape}
use Rattle.jfr_value.specs.declared.stack.Frame.{Frame}
use Rattle.jfr_value.specs.declared.stack.Frame.TheVariants.{Fields}
use Rattle.jfr_value.specs.declared.stack.RemainingFields.{RemainingFields}
use Rattle.jfr_value.specs.Nodes.{AreValues}
use Rattle.jfr_value.specs.Walks.{AreFrames, fields_from, leaves_held, remaining_holders, remaining_shapes}
use Rattle.jfr_value.proofs.PlaceLaws.{kind_there}
use Rattle.jfr_value.proofs.StackLaws.{holders_push, shapes_push, frames_push, fields_frame, inner_depth, most_height, fields_from_start}
use Rattle.jfr_value.proofs.WalkLaws.{inline_placed, fields_next}
use Rattle.jfr_value.proofs.cursor.enter.Goals as goal

pub kind_at-requires : goal.kind_at-requires
kind_at-requires c = (inline_placed c.args.walk.now.classes.now c.args.walk.now.bytes.now c.args.cursor.now.at c.args.walk.now.end c.args.value.shape
    (remaining_shapes c.args.walk.now.classes.now c.args.cursor.now.stack) c.requires.remaining.0 c.args.value.place c.requires.remaining.1 c.if-value.false c.if-value-2.false
    c.requires.placed).within

pub overflow_sub-value : goal.overflow_sub-value
overflow_sub-value c =
    let p = inline_placed c.args.walk.now.classes.now c.args.walk.now.bytes.now c.args.cursor.now.at c.args.walk.now.end c.args.value.shape
    (remaining_shapes c.args.walk.now.classes.now c.args.cursor.now.stack) c.requires.remaining.0 c.args.value.place c.requires.remaining.1 c.if-value.false c.if-value-2.false c.requires.placed in
    (inner_depth c.args.walk.now.classes.now c.args.value.levels c.args.value.shape p.class c.requires.depth c.if-value-2.false p.found
    (sym (kind_there c.args.walk.now.classes.now c.args.value.place p.class c.kind_at.result c.kind_at.ensures p.there) ∙ c.in-Composite.is)).0

pub push-requires : goal.push-requires
push-requires c =
    let p = inline_placed c.args.walk.now.classes.now c.args.walk.now.bytes.now c.args.cursor.now.at c.args.walk.now.end c.args.value.shape
    (remaining_shapes c.args.walk.now.classes.now c.args.cursor.now.stack) c.requires.remaining.0 c.args.value.place c.requires.remaining.1 c.if-value.false c.if-value-2.false c.requires.placed in
    let i : 1 ≤ c.args.value.levels = (inner_depth c.args.walk.now.classes.now c.args.value.levels c.args.value.shape p.class c.requires.depth c.if-value-2.false p.found
    (sym (kind_there c.args.walk.now.classes.now c.args.value.place p.class c.kind_at.result c.kind_at.ensures p.there) ∙ c.in-Composite.is)).0 in
    let m : length c.args.cursor.now.stack + 2 * c.args.value.levels ≤ 68 = most_height c.args.value.shape.array (length c.args.cursor.now.stack + 2 * c.args.value.levels) c.requires.height in
    omega arith

pub enter_base-requires : goal.enter_base-requires
enter_base-requires c =
    let p = inline_placed c.args.walk.now.classes.now c.args.walk.now.bytes.now c.args.cursor.now.at c.args.walk.now.end c.args.value.shape
    (remaining_shapes c.args.walk.now.classes.now c.args.cursor.now.stack) c.requires.remaining.0 c.args.value.place c.requires.remaining.1 c.if-value.false c.if-value-2.false c.requires.placed in
    record {
      array = c.if-value.false;
      constant = c.if-value-2.false;
      class =
          (p.class, p.found, kind_there c.args.walk.now.classes.now c.args.value.place p.class c.kind_at.result c.kind_at.ensures p.there);
      base = c.in_default.not-Composite;
      remaining =
          c.requires.remaining;
    }

pub returns-in-Composite-clause-frames : goal.returns-in-Composite-clause-frames
returns-in-Composite-clause-frames c =
    let p = inline_placed c.args.walk.now.classes.now c.args.walk.now.bytes.now c.args.cursor.now.at c.args.walk.now.end c.args.value.shape
    (remaining_shapes c.args.walk.now.classes.now c.args.cursor.now.stack) c.requires.remaining.0 c.args.value.place c.requires.remaining.1 c.if-value.false c.if-value-2.false c.requires.placed in
    subst (λ (z : List Frame). AreFrames c.args.walk.now.classes.now 0 z) (sym c.push.ensures.items)
    (frames_push c.args.walk.now.classes.now 0 (suc (length c.args.cursor.now.stack)) c.args.cursor.now.stack
    (Fields (record { class = c.args.value.shape.class; place = c.args.value.place; number = 0; levels = c.args.value.levels - 1 })) (omega arith) c.requires.frames
    (fields_frame c.args.walk.now.classes.now (length c.args.cursor.now.stack) c.args.value.levels c.args.value.place c.args.value.shape.class c.args.value.shape p.class c.requires.depth
    c.if-value-2.false p.found p.there p.within
    (sym (kind_there c.args.walk.now.classes.now c.args.value.place p.class c.kind_at.result c.kind_at.ensures p.there) ∙ c.in-Composite.is)
    (most_height c.args.value.shape.array (length c.args.cursor.now.stack + 2 * c.args.value.levels) c.requires.height)))

pub returns-in-Composite-clause-remaining : goal.returns-in-Composite-clause-remaining
returns-in-Composite-clause-remaining c = λ vs r.
    (let p = inline_placed c.args.walk.now.classes.now c.args.walk.now.bytes.now c.args.cursor.now.at c.args.walk.now.end c.args.value.shape
    (remaining_shapes c.args.walk.now.classes.now c.args.cursor.now.stack) vs c.args.value.place r c.if-value.false c.if-value-2.false c.requires.placed in
    let n = fields_next c.args.walk.now.classes.now c.args.walk.now.bytes.now c.args.cursor.now.at c.args.walk.now.end c.args.value.shape
    (remaining_shapes c.args.walk.now.classes.now c.args.cursor.now.stack) c.args.value.holder (remaining_holders c.args.walk.now.classes.now c.args.cursor.now.stack) vs p.class r c.if-value.false
    c.if-value-2.false p.found (sym (kind_there c.args.walk.now.classes.now c.args.value.place p.class c.kind_at.result c.kind_at.ensures p.there) ∙ c.in-Composite.is) in
    let frame : RemainingFields = record { class = c.args.value.shape.class; place = c.args.value.place; number = 0; levels = c.args.value.levels - 1 } in
    let start = fields_from_start c.args.walk.now.classes.now c.args.value.shape.class c.args.value.place (c.args.value.levels - 1) p.class p.there in
    let e = ap (remaining_shapes c.args.walk.now.classes.now) c.push.ensures.items
    ∙ (shapes_push c.args.walk.now.classes.now c.args.cursor.now.stack
    (Fields (record { class = c.args.value.shape.class; place = c.args.value.place; number = 0; levels = c.args.value.levels - 1 }))
    ∙ ap (λ (z : List Shape). z ++ (remaining_shapes c.args.walk.now.classes.now c.args.cursor.now.stack)) start) in (
      n.0,
      subst (λ (z : List Shape). AreValues c.args.walk.now.classes.now c.args.walk.now.bytes.now c.args.cursor.now.at c.args.walk.now.end z n.0) (sym e) n.1,
      n.2 ∙ ap (λ z. leaves_held z c.args.cursor.now.at n.0)
          (ap (λ z. fields_from c.args.value.shape.class 0 z ++ remaining_holders c.args.walk.now.classes.now c.args.cursor.now.stack) (sym start)
          ∙ sym (ap (remaining_holders c.args.walk.now.classes.now) c.push.ensures.items ∙ holders_push c.args.walk.now.classes.now c.args.cursor.now.stack (Fields frame))),
      omega (arith, n.3, c.push.ensures.len),
    ))
