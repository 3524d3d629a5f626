-- The loop is at the start of a field, and each field ends where the next begins.
use Rattle.std.proofs.Common.{◌≡◌, get_or, sym, ◌∙◌, ap, arith}
use Rattle.std.specs.Prelude.{Some, map}
use Rattle.jfr_value.specs.Nodes.{node_at}
use Rattle.jfr_value.proofs.PartLaws.{part_there}
use Rattle.jfr_value.proofs.RowLaws.{start_of, shapes_get}
use Rattle.jfr_value.proofs.LayoutLaws.{no_layout, placed_at, layout_there}
use Rattle.jfr_value.proofs.part.nth_field.Goals as goal

pub part_end-at-requires-clause-placed : goal.part_end-at-requires-clause-placed
part_end-at-requires-clause-placed c = placed_at c.args.classes.now c.args.layouts.now c.loop-i.i c.requires.layouts (omega arith)

pub part_end-at-requires-clause-order : goal.part_end-at-requires-clause-order
part_end-at-requires-clause-order c =
    let t = part_there c.args.classes.now c.args.node.now.bytes.now c.args.node.now.at c.args.node.now.end (map (λ s. s.shape) c.args.layouts.now) c.requires.row.0 c.loop-i.i
    (get_or c.args.layouts.now c.loop-i.i no_layout).shape c.loop-i.at c.requires.row.1
    (shapes_get c.args.layouts.now c.loop-i.i (get_or c.args.layouts.now c.loop-i.i no_layout) (layout_there c.args.layouts.now c.loop-i.i (omega arith)))
    (c.loop-i.invariant c.requires.row.0 c.requires.row.1) in
    omega (arith, t.order, t.within)

pub part_end-at-requires-clause-holds : goal.part_end-at-requires-clause-holds
part_end-at-requires-clause-holds c =
    let t = part_there c.args.classes.now c.args.node.now.bytes.now c.args.node.now.at c.args.node.now.end (map (λ s. s.shape) c.args.layouts.now) c.requires.row.0 c.loop-i.i
    (get_or c.args.layouts.now c.loop-i.i no_layout).shape c.loop-i.at c.requires.row.1
    (shapes_get c.args.layouts.now c.loop-i.i (get_or c.args.layouts.now c.loop-i.i no_layout) (layout_there c.args.layouts.now c.loop-i.i (omega arith)))
    (c.loop-i.invariant c.requires.row.0 c.requires.row.1) in
    (t.to, t.ends, t.within)

pub loop-i-preserved : goal.loop-i-preserved
loop-i-preserved c = λ vs r.
    (let t = part_there c.args.classes.now c.args.node.now.bytes.now c.args.node.now.at c.args.node.now.end (map (λ s. s.shape) c.args.layouts.now) vs c.loop-i.i
    (get_or c.args.layouts.now c.loop-i.i no_layout).shape c.loop-i.at r
    (shapes_get c.args.layouts.now c.loop-i.i (get_or c.args.layouts.now c.loop-i.i no_layout) (layout_there c.args.layouts.now c.loop-i.i (omega arith))) (c.loop-i.invariant vs r) in
    c.part_end-at.ensures t.to t.ends t.within ∙ t.next)

pub part_end-requires-clause-placed : goal.part_end-requires-clause-placed
part_end-requires-clause-placed c = placed_at c.args.classes.now c.args.layouts.now c.args.number c.requires.layouts c.requires.is_field

pub part_end-requires-clause-order : goal.part_end-requires-clause-order
part_end-requires-clause-order c =
    let e : c.loop-i.i ≡ c.args.number = omega arith in
    let t = part_there c.args.classes.now c.args.node.now.bytes.now c.args.node.now.at c.args.node.now.end (map (λ s. s.shape) c.args.layouts.now) c.requires.row.0 c.args.number
    (get_or c.args.layouts.now c.args.number no_layout).shape c.loop-i.at c.requires.row.1
    (shapes_get c.args.layouts.now c.args.number (get_or c.args.layouts.now c.args.number no_layout) (layout_there c.args.layouts.now c.args.number (omega arith)))
    (c.loop-i.invariant c.requires.row.0 c.requires.row.1 ∙ ap (start_of c.args.node.now.at c.requires.row.0) e) in
    omega (arith, t.order, t.within)

pub part_end-requires-clause-holds : goal.part_end-requires-clause-holds
part_end-requires-clause-holds c =
    let e : c.loop-i.i ≡ c.args.number = omega arith in
    let t = part_there c.args.classes.now c.args.node.now.bytes.now c.args.node.now.at c.args.node.now.end (map (λ s. s.shape) c.args.layouts.now) c.requires.row.0 c.args.number
    (get_or c.args.layouts.now c.args.number no_layout).shape c.loop-i.at c.requires.row.1
    (shapes_get c.args.layouts.now c.args.number (get_or c.args.layouts.now c.args.number no_layout) (layout_there c.args.layouts.now c.args.number (omega arith)))
    (c.loop-i.invariant c.requires.row.0 c.requires.row.1 ∙ ap (start_of c.args.node.now.at c.requires.row.0) e) in
    (t.to, t.ends, t.within)

pub returns-clause-exact : goal.returns-clause-exact
returns-clause-exact c = λ vs r.
    (let e : c.loop-i.i ≡ c.args.number = omega arith in
    let t = part_there c.args.classes.now c.args.node.now.bytes.now c.args.node.now.at c.args.node.now.end (map (λ s. s.shape) c.args.layouts.now) vs c.args.number
    (get_or c.args.layouts.now c.args.number no_layout).shape c.loop-i.at r
    (shapes_get c.args.layouts.now c.args.number (get_or c.args.layouts.now c.args.number no_layout) (layout_there c.args.layouts.now c.args.number (omega arith)))
    (c.loop-i.invariant vs r ∙ ap (start_of c.args.node.now.at vs) e) in
    let q = c.part_end.ensures t.to t.ends t.within in
    t.is ∙ ap (λ z. Some (node_at (get_or c.args.layouts.now c.args.number no_layout).shape c.loop-i.at z)) (sym q))
