-- The next field comes first, and the frame that is pushed has those after it.
use Rattle.std.proofs.Common.{ap, get_or, sym, subst, arith}
use Rattle.std.specs.Prelude.{◌+◌, ◌*◌, ◌++◌, ℕ, length, List}
use Rattle.jfr_layout.specs.declared.shape.Shape.{Shape}
use Rattle.jfr_value.specs.declared.stack.Frame.{Frame}
use Rattle.jfr_value.specs.declared.stack.Frame.TheVariants.{Fields}
use Rattle.jfr_value.specs.Nodes.{AreValues}
use Rattle.jfr_value.specs.Walks.{AreFrames, GoesOn, DepthBound, fields_from, frame_holders, leaves_held, remaining_holders, remaining_shapes, size_of_all}
use Rattle.jfr_value.proofs.LayoutLaws.{few_fields, field_of, no_layout}
use Rattle.jfr_value.proofs.StackLaws.{either_height, field_depth, field_holders, frames_push, no_fields, others, pushed_field}
use Rattle.jfr_value.proofs.cursor.next_field.Goals as goal

pub layouts-layouts-requires : goal.layouts-layouts-requires
layouts-layouts-requires c = c.requires.frame.1

pub returns-then-fields-layouts-clause-remaining : goal.returns-then-fields-layouts-clause-remaining
returns-then-fields-layouts-clause-remaining c = λ vs r.
    (let e = no_fields c.args.walk.now.classes.now c.args.fields
    (few_fields c.args.walk.now.classes.now c.args.fields.place c.args.fields.number c.layouts-layouts.result.now c.requires.frame.1 c.layouts-layouts.ensures.exact c.if-fields-layouts.true) in (
      vs,
      subst (λ (z : List Shape). AreValues c.args.walk.now.classes.now c.args.walk.now.bytes.now c.args.cursor.now.at c.args.walk.now.end
          (z ++ remaining_shapes c.args.walk.now.classes.now c.args.cursor.now.stack) vs) e r,
      ap (λ z. leaves_held (fields_from c.args.fields.class c.args.fields.number z ++ remaining_holders c.args.walk.now.classes.now c.args.cursor.now.stack) c.args.cursor.now.at vs) e,
      omega arith,
    ))

pub push-requires : goal.push-requires
push-requires c = let h = c.requires.frame.0 in omega arith

pub enter-requires-clause-frames : goal.enter-requires-clause-frames
enter-requires-clause-frames c =
    subst (λ (z : List Frame). AreFrames c.args.walk.now.classes.now 0 z) (sym c.push.ensures.items)
    (frames_push c.args.walk.now.classes.now 0 (length c.args.cursor.now.stack + 1) c.args.cursor.now.stack (Fields (others c.args.fields)) (omega arith) c.requires.frames c.requires.frame)

pub enter-requires-clause-height : goal.enter-requires-clause-height
enter-requires-clause-height c = either_height (get_or c.layouts-layouts.result.now c.args.fields.number no_layout).shape.array (length c.push.new.self + 2 * c.args.fields.levels)
    (let h = c.requires.frame.0 in omega (arith, c.push.ensures.len))

pub enter-requires-clause-placed : goal.enter-requires-clause-placed
enter-requires-clause-placed c = λ o h. (field_of c.args.walk.now.classes.now c.args.fields.place c.args.fields.number c.layouts-layouts.result.now c.requires.frame.1 c.layouts-layouts.ensures.exact
    c.if-fields-layouts.false).of_class.class_index

pub enter-requires-clause-depth : goal.enter-requires-clause-depth
enter-requires-clause-depth c =
    let f = field_of c.args.walk.now.classes.now c.args.fields.place c.args.fields.number c.layouts-layouts.result.now c.requires.frame.1 c.layouts-layouts.ensures.exact c.if-fields-layouts.false in
    subst (λ (z : Shape). DepthBound c.args.walk.now.classes.now c.args.fields.levels z) (sym f.shape)
    (field_depth c.args.walk.now.classes.now (length c.args.cursor.now.stack + 1) c.args.fields f.field c.requires.frame f.there)

pub enter-requires-clause-remaining : goal.enter-requires-clause-remaining
enter-requires-clause-remaining c =
    let f = field_of c.args.walk.now.classes.now c.args.fields.place c.args.fields.number c.layouts-layouts.result.now c.requires.frame.1 c.layouts-layouts.ensures.exact c.if-fields-layouts.false in
    let q = pushed_field c.args.walk.now.classes.now c.args.cursor.now.stack c.push.new.self c.args.fields f.field
    (get_or c.layouts-layouts.result.now c.args.fields.number no_layout).shape f.there f.shape c.push.ensures.items in (
      c.requires.remaining.0,
      subst (λ (z : List Shape). AreValues c.args.walk.now.classes.now c.args.walk.now.bytes.now c.args.cursor.now.at c.args.walk.now.end z c.requires.remaining.0) q
          c.requires.remaining.1,
    )

pub returns-clause-remaining : goal.returns-clause-remaining
returns-clause-remaining c = λ vs r.
    (let f = field_of c.args.walk.now.classes.now c.args.fields.place c.args.fields.number c.layouts-layouts.result.now c.requires.frame.1 c.layouts-layouts.ensures.exact c.if-fields-layouts.false in
    let q = pushed_field c.args.walk.now.classes.now c.args.cursor.now.stack c.push.new.self c.args.fields f.field
    (get_or c.layouts-layouts.result.now c.args.fields.number no_layout).shape f.there f.shape c.push.ensures.items in
    let h = field_holders c.args.walk.now.classes.now c.args.cursor.now.stack c.push.new.self c.args.fields f.field f.there c.push.ensures.items in
    subst (λ (z : ℕ). GoesOn c.args.walk.now.classes.now c.args.walk.now.bytes.now c.args.walk.now.end
    (frame_holders c.args.walk.now.classes.now (Fields c.args.fields) ++ remaining_holders c.args.walk.now.classes.now c.args.cursor.now.stack) c.args.cursor.now.at vs
    (size_of_all vs + z) c.enter.new.cursor c.enter.result) c.push.ensures.len
    (subst (λ z. GoesOn c.args.walk.now.classes.now c.args.walk.now.bytes.now c.args.walk.now.end z c.args.cursor.now.at vs (size_of_all vs + length c.push.new.self) c.enter.new.cursor c.enter.result)
    (sym h)
    (c.enter.ensures.remaining vs (subst (λ (z : List Shape). AreValues c.args.walk.now.classes.now c.args.walk.now.bytes.now c.args.cursor.now.at c.args.walk.now.end z vs) q r))))
