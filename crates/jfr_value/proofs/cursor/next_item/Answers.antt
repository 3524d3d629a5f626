-- The next item comes first, and the frame that is pushed has those after it.
use Rattle.std.proofs.Common.{ap, sym, subst, arith}
use Rattle.std.specs.Prelude.{◌+◌, ◌*◌, ◌-◌, ◌++◌, ℕ, length, List}
use Rattle.jfr_layout.specs.declared.shape.Shape.{Shape}
use Rattle.jfr_value.specs.declared.stack.Frame.{Frame}
use Rattle.jfr_value.specs.declared.stack.Frame.TheVariants.{Items}
use Rattle.jfr_value.specs.Nodes.{AreValues}
use Rattle.jfr_value.specs.Walks.{AreFrames, GoesOn, frame_holders, leaves_held, remaining_holders, remaining_shapes, size_of_all}
use Rattle.jfr_value.proofs.StackLaws.{frames_push, item_holders, most_height, no_item_holders, no_items, pushed_item}
use Rattle.jfr_value.proofs.cursor.next_item.Goals as goal

pub returns-then-remaining-eq0-clause-remaining : goal.returns-then-remaining-eq0-clause-remaining
returns-then-remaining-eq0-clause-remaining c = λ vs r.
    (let e = no_items c.args.walk.now.classes.now c.args.value c.args.remaining c.if-remaining-eq0.true in (
      vs,
      subst (λ (z : List Shape). AreValues c.args.walk.now.classes.now c.args.walk.now.bytes.now c.args.cursor.now.at c.args.walk.now.end
          (z ++ remaining_shapes c.args.walk.now.classes.now c.args.cursor.now.stack) vs) e r,
      ap (λ z. leaves_held (z ++ remaining_holders c.args.walk.now.classes.now c.args.cursor.now.stack) c.args.cursor.now.at vs)
          (no_item_holders c.args.walk.now.classes.now c.args.value c.args.remaining c.if-remaining-eq0.true),
      omega arith,
    ))

pub push-requires : goal.push-requires
push-requires c = let h = most_height c.args.value.shape.array (length c.args.cursor.now.stack + 1 + 2 * c.args.value.levels) c.requires.frame.0 in omega arith

pub enter-requires-clause-frames : goal.enter-requires-clause-frames
enter-requires-clause-frames c =
    subst (λ (z : List Frame). AreFrames c.args.walk.now.classes.now 0 z) (sym c.push.ensures.items)
    (frames_push c.args.walk.now.classes.now 0 (length c.args.cursor.now.stack + 1) c.args.cursor.now.stack (Items c.args.value (c.args.remaining - 1))
    (omega arith) c.requires.frames c.requires.frame)

pub enter-requires-clause-height : goal.enter-requires-clause-height
enter-requires-clause-height c = rw c.push.ensures.len c.requires.frame.0

pub enter-requires-clause-remaining : goal.enter-requires-clause-remaining
enter-requires-clause-remaining c =
    let q = pushed_item c.args.walk.now.classes.now c.args.cursor.now.stack c.push.new.self c.args.value c.args.remaining (omega arith) c.push.ensures.items in (
      c.requires.remaining.0,
      subst (λ (z : List Shape). AreValues c.args.walk.now.classes.now c.args.walk.now.bytes.now c.args.cursor.now.at c.args.walk.now.end z c.requires.remaining.0) q
          c.requires.remaining.1,
    )

pub returns-clause-remaining : goal.returns-clause-remaining
returns-clause-remaining c = λ vs r.
    (let q = pushed_item c.args.walk.now.classes.now c.args.cursor.now.stack c.push.new.self c.args.value c.args.remaining (omega arith) c.push.ensures.items in
    let h = item_holders c.args.walk.now.classes.now c.args.cursor.now.stack c.push.new.self c.args.value c.args.remaining (omega arith) c.push.ensures.items in
    subst (λ (z : ℕ). GoesOn c.args.walk.now.classes.now c.args.walk.now.bytes.now c.args.walk.now.end
    (frame_holders c.args.walk.now.classes.now (Items c.args.value c.args.remaining) ++ remaining_holders c.args.walk.now.classes.now c.args.cursor.now.stack) c.args.cursor.now.at vs
    (size_of_all vs + z) c.enter.new.cursor c.enter.result) c.push.ensures.len
    (subst (λ z. GoesOn c.args.walk.now.classes.now c.args.walk.now.bytes.now c.args.walk.now.end z c.args.cursor.now.at vs (size_of_all vs + length c.push.new.self) c.enter.new.cursor c.enter.result)
    (sym h)
    (c.enter.ensures.remaining vs (subst (λ (z : List Shape). AreValues c.args.walk.now.classes.now c.args.walk.now.bytes.now c.args.cursor.now.at c.args.walk.now.end z vs) q r))))
