-- The loop is at the start of an item, and each item ends where the next begins.
use Rattle.std.proofs.Common.{◌≡◌, ◌<◌, sym, ◌∙◌, ap, arith}
use Rattle.std.specs.Prelude.{Some, replicate}
use Rattle.jfr_value.specs.Nodes.{node_at}
use Rattle.jfr_value.proofs.PartLaws.{part_there, hollow_part, not_so}
use Rattle.jfr_value.proofs.RowLaws.{start_of, replicate_get}
use Rattle.jfr_value.proofs.LayoutLaws.{layout_within}
use Rattle.jfr_value.proofs.part.nth_item.Goals as goal

pub is_hollow-requires : goal.is_hollow-requires
is_hollow-requires c = layout_within c.args.classes.now c.args.layout.now (c.requires.placed.of_class (not_so c.args.layout.now.shape.constant c.if-not-shape.true))

pub returns-then-is_hollow-clause-exact : goal.returns-then-is_hollow-clause-exact
returns-then-is_hollow-clause-exact c = λ vs r.
    hollow_part c.args.classes.now c.args.node.now.bytes.now c.args.count.end c.args.node.now.end c.args.layout.now c.args.count.value c.args.number vs c.is_hollow.result c.requires.placed
    c.requires.item (not_so c.args.layout.now.shape.constant c.if-not-shape.true) c.is_hollow.ensures c.if-is_hollow.true r c.requires.is_item

pub part_end-at-requires-clause-order : goal.part_end-at-requires-clause-order
part_end-at-requires-clause-order c =
    let l : c.loop.counter < c.args.count.value = omega arith in
    let t = part_there c.args.classes.now c.args.node.now.bytes.now c.args.count.end c.args.node.now.end
    (replicate c.args.count.value c.args.layout.now.shape) c.requires.row.0 c.loop.counter c.args.layout.now.shape c.loop.at c.requires.row.1
    (replicate_get c.args.count.value c.loop.counter c.args.layout.now.shape l) (c.loop.invariant c.requires.row.0 c.requires.row.1) in
    omega (arith, t.order, t.within)

pub part_end-at-requires-clause-holds : goal.part_end-at-requires-clause-holds
part_end-at-requires-clause-holds c =
    let l : c.loop.counter < c.args.count.value = omega arith in
    let t = part_there c.args.classes.now c.args.node.now.bytes.now c.args.count.end c.args.node.now.end
    (replicate c.args.count.value c.args.layout.now.shape) c.requires.row.0 c.loop.counter c.args.layout.now.shape c.loop.at c.requires.row.1
    (replicate_get c.args.count.value c.loop.counter c.args.layout.now.shape l) (c.loop.invariant c.requires.row.0 c.requires.row.1) in
    (t.to, t.ends, t.within)

pub loop-preserved : goal.loop-preserved
loop-preserved c = λ vs r.
    (let l : c.loop.counter < c.args.count.value = omega arith in
    let t = part_there c.args.classes.now c.args.node.now.bytes.now c.args.count.end c.args.node.now.end
    (replicate c.args.count.value c.args.layout.now.shape) vs c.loop.counter c.args.layout.now.shape c.loop.at r (replicate_get c.args.count.value c.loop.counter c.args.layout.now.shape l)
    (c.loop.invariant vs r) in
    c.part_end-at.ensures t.to t.ends t.within ∙ t.next)

pub part_end-requires-clause-order : goal.part_end-requires-clause-order
part_end-requires-clause-order c =
    let e : c.loop.counter ≡ c.args.number = omega arith in
    let t = part_there c.args.classes.now c.args.node.now.bytes.now c.args.count.end c.args.node.now.end
    (replicate c.args.count.value c.args.layout.now.shape) c.requires.row.0 c.args.number c.args.layout.now.shape c.loop.at c.requires.row.1
    (replicate_get c.args.count.value c.args.number c.args.layout.now.shape c.requires.is_item)
    (c.loop.invariant c.requires.row.0 c.requires.row.1 ∙ ap (start_of c.args.count.end c.requires.row.0) e) in
    omega (arith, t.order, t.within)

pub part_end-requires-clause-holds : goal.part_end-requires-clause-holds
part_end-requires-clause-holds c =
    let e : c.loop.counter ≡ c.args.number = omega arith in
    let t = part_there c.args.classes.now c.args.node.now.bytes.now c.args.count.end c.args.node.now.end
    (replicate c.args.count.value c.args.layout.now.shape) c.requires.row.0 c.args.number c.args.layout.now.shape c.loop.at c.requires.row.1
    (replicate_get c.args.count.value c.args.number c.args.layout.now.shape c.requires.is_item)
    (c.loop.invariant c.requires.row.0 c.requires.row.1 ∙ ap (start_of c.args.count.end c.requires.row.0) e) in
    (t.to, t.ends, t.within)

pub returns-clause-exact : goal.returns-clause-exact
returns-clause-exact c = λ vs r.
    (let e : c.loop.counter ≡ c.args.number = omega arith in
    let t = part_there c.args.classes.now c.args.node.now.bytes.now c.args.count.end c.args.node.now.end
    (replicate c.args.count.value c.args.layout.now.shape) vs c.args.number c.args.layout.now.shape c.loop.at r
    (replicate_get c.args.count.value c.args.number c.args.layout.now.shape c.requires.is_item)
    (c.loop.invariant vs r ∙ ap (start_of c.args.count.end vs) e) in
    let q = c.part_end.ensures t.to t.ends t.within in
    t.is ∙ ap (λ z. Some (node_at c.args.layout.now.shape c.loop.at z)) (sym q))
