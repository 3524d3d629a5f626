use Rattle.std.proofs.Common.{ap, ◌∙◌, sym, subst}
use Rattle.std.specs.Prelude.{◌≡◌, ◌∷◌}
use Rattle.jfr_value.specs.declared.leaf.LeafKind.TheVariants as leaf_kinds
use Rattle.jfr_value.specs.Walks.{leaves_held, remaining_holders, remaining_shapes}
use Rattle.jfr_value.proofs.WalkLaws.{Taken, base_found}
use Rattle.jfr_value.proofs.cursor.enter_base.Goals as goal

pub unreachable-requires : goal.unreachable-requires
unreachable-requires c =
    let t = base_found c.args.walk.now.classes.now c.args.walk.now.bytes.now c.args.cursor.now.at c.args.walk.now.end c.args.value.shape
    (remaining_shapes c.args.walk.now.classes.now c.args.cursor.now.stack) c.args.value.holder (remaining_holders c.args.walk.now.classes.now c.args.cursor.now.stack) c.requires.remaining.0
    c.requires.class.0 c.args.kind c.requires.remaining.1 c.requires.array c.requires.constant c.requires.class.1 c.requires.class.2 c.requires.base in
    cc (sym c.in_default.is ∙ (c.base_end.ensures.exact ∙ t.1))

pub returns-clause-remaining : goal.returns-clause-remaining
returns-clause-remaining c = λ vs r.
    (let b = base_found c.args.walk.now.classes.now c.args.walk.now.bytes.now c.args.cursor.now.at c.args.walk.now.end c.args.value.shape
    (remaining_shapes c.args.walk.now.classes.now c.args.cursor.now.stack) c.args.value.holder (remaining_holders c.args.walk.now.classes.now c.args.cursor.now.stack) vs c.requires.class.0 c.args.kind
    r c.requires.array c.requires.constant c.requires.class.1 c.requires.class.2 c.requires.base in
    let e : b.0 ≡ c.in-Ok.to = cc (sym c.in-Ok.is ∙ (c.base_end.ensures.exact ∙ b.1)) in
    let t = subst (λ z. Taken c.args.walk.now.classes.now c.args.walk.now.bytes.now c.args.cursor.now.at c.args.walk.now.end z (leaf_kinds.Base c.args.kind) c.args.value.shape.class
    (remaining_shapes c.args.walk.now.classes.now c.args.cursor.now.stack) vs c.args.value.holder (remaining_holders c.args.walk.now.classes.now c.args.cursor.now.stack)
    (remaining_holders c.args.walk.now.classes.now c.args.cursor.now.stack)) e b.2 in
    (t.others, t.row, t.leaves ∙ ap (λ z. z ∷ leaves_held (remaining_holders c.args.walk.now.classes.now c.args.cursor.now.stack) c.in-Ok.to t.others) (sym c.leaf_to-leaf.ensures)))
