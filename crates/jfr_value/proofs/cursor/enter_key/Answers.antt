use Rattle.std.proofs.Common.{ap, ◌∙◌, sym}
use Rattle.std.specs.Prelude.{◌∷◌}
use Rattle.jfr_base.specs.Formats.{int_at}
use Rattle.jfr_value.specs.Walks.{leaves_held, remaining_holders, remaining_shapes}
use Rattle.jfr_value.proofs.WalkLaws.{key_taken, key_there, some_there}
use Rattle.jfr_value.proofs.cursor.enter_key.Goals as goal

pub known_integer-key-requires-clause-known : goal.known_integer-key-requires-clause-known
known_integer-key-requires-clause-known c =
    some_there (int_at c.args.walk.now.bytes.now c.args.cursor.now.at c.args.walk.now.end)
    (key_there c.args.walk.now.classes.now c.args.walk.now.bytes.now c.args.cursor.now.at c.args.walk.now.end c.args.value.shape
    (remaining_shapes c.args.walk.now.classes.now c.args.cursor.now.stack) c.args.value.holder (remaining_holders c.args.walk.now.classes.now c.args.cursor.now.stack) c.requires.remaining.0
    c.requires.remaining.1 c.requires.array c.requires.constant)

pub returns-clause-remaining : goal.returns-clause-remaining
returns-clause-remaining c = λ vs r.
    (let t = key_taken c.args.walk.now.classes.now c.args.walk.now.bytes.now c.args.cursor.now.at c.args.walk.now.end c.args.value.shape
    (remaining_shapes c.args.walk.now.classes.now c.args.cursor.now.stack) c.args.value.holder (remaining_holders c.args.walk.now.classes.now c.args.cursor.now.stack) vs c.known_integer-key.result r
    c.requires.array c.requires.constant c.known_integer-key.ensures.exact in (
      t.others,
      t.row,
      t.leaves ∙ ap (λ z. z ∷ leaves_held (remaining_holders c.args.walk.now.classes.now c.args.cursor.now.stack) c.known_integer-key.result.end t.others)
          (sym c.leaf_to-leaf.ensures),
    ))
