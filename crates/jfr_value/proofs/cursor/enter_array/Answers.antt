-- The count is the first leaf, and the pushed frame has the items.
use Rattle.std.proofs.Common.{ap, ◌∙◌, sym, subst, arith}
use Rattle.std.specs.Prelude.{◌∷◌, ◌++◌, suc, length, replicate, List}
use Rattle.jfr_layout.specs.Classes.{item_of}
use Rattle.jfr_layout.specs.declared.shape.Shape.{Shape}
use Rattle.jfr_base.specs.Formats.{int_at}
use Rattle.jfr_value.specs.declared.stack.Frame.{Frame}
use Rattle.jfr_value.specs.declared.stack.Frame.TheVariants.{Items}
use Rattle.jfr_value.specs.Leaves.{leaf_of}
use Rattle.jfr_value.specs.Nodes.{AreValues}
use Rattle.jfr_value.specs.Walks.{AreFrames, leaves_held, remaining_holders, remaining_shapes}
use Rattle.jfr_value.proofs.StackLaws.{holders_push, shapes_push, frames_push}
use Rattle.jfr_value.proofs.WalkLaws.{array_found, array_there, some_there}
use Rattle.jfr_value.proofs.cursor.enter_array.Goals as goal

pub known_integer-count-requires-clause-known : goal.known_integer-count-requires-clause-known
known_integer-count-requires-clause-known c =
    some_there (int_at c.args.walk.now.bytes.now c.args.cursor.now.at c.args.walk.now.end)
    (array_there c.args.walk.now.classes.now c.args.walk.now.bytes.now c.args.cursor.now.at c.args.walk.now.end c.args.value.shape
    (remaining_shapes c.args.walk.now.classes.now c.args.cursor.now.stack) c.args.value.holder (remaining_holders c.args.walk.now.classes.now c.args.cursor.now.stack) c.requires.remaining.0
    c.requires.remaining.1 c.requires.array)

pub returns-clause-frames : goal.returns-clause-frames
returns-clause-frames c =
    subst (λ (z : List Frame). AreFrames c.args.walk.now.classes.now 0 z) (sym (rw c.item_of.ensures at c.push.ensures.items))
    (frames_push c.args.walk.now.classes.now 0 (suc (length c.args.cursor.now.stack)) c.args.cursor.now.stack
    (Items (record { shape = item_of c.args.value.shape; place = c.args.value.place; levels = c.args.value.levels; holder = c.args.value.holder }) c.items_to_walk.result)
    (omega arith) c.requires.frames (omega (arith, c.requires.height), c.requires.placed, c.requires.depth))

pub returns-clause-remaining : goal.returns-clause-remaining
returns-clause-remaining c = λ vs r.
    (let t = array_found c.args.walk.now.classes.now c.args.walk.now.bytes.now c.args.cursor.now.at c.args.walk.now.end c.args.value.shape
    (remaining_shapes c.args.walk.now.classes.now c.args.cursor.now.stack) c.args.value.holder (remaining_holders c.args.walk.now.classes.now c.args.cursor.now.stack) vs c.known_integer-count.result
    c.args.value.place c.items_to_walk.result r c.requires.array c.known_integer-count.ensures.exact c.requires.placed c.items_to_walk.ensures in
    let item : Frame = Items (record { shape = item_of c.args.value.shape; place = c.args.value.place; levels = c.args.value.levels; holder = c.args.value.holder }) c.items_to_walk.result in
    let e = ap (remaining_shapes c.args.walk.now.classes.now) (rw c.item_of.ensures at c.push.ensures.items)
    ∙ shapes_push c.args.walk.now.classes.now c.args.cursor.now.stack
    (Items (record { shape = item_of c.args.value.shape; place = c.args.value.place; levels = c.args.value.levels; holder = c.args.value.holder }) c.items_to_walk.result) in (
      t.others,
      subst (λ (z : List Shape). AreValues c.args.walk.now.classes.now c.args.walk.now.bytes.now c.known_integer-count.result.end c.args.walk.now.end z t.others) (sym e) t.row,
      t.leaves
          ∙ (ap (λ z. z ∷ leaves_held (replicate c.items_to_walk.result c.args.value.holder ++ remaining_holders c.args.walk.now.classes.now c.args.cursor.now.stack) c.known_integer-count.result.end
          t.others) (sym c.leaf_to-leaf.ensures)
          ∙ ap (λ z. leaf_of c.leaf_to-leaf.result ∷ leaves_held z c.known_integer-count.result.end t.others)
          (sym (ap (remaining_holders c.args.walk.now.classes.now) (rw c.item_of.ensures at c.push.ensures.items) ∙ holders_push c.args.walk.now.classes.now c.args.cursor.now.stack item))),
    ))
