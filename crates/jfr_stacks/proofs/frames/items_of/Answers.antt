use Rattle.std.proofs.Common.{◌≡◌, ◌+◌, ◌-◌, arith, refl, subst, sym}
use Rattle.std.specs.Prelude.{IsSome}
use Rattle.jfr_base.specs.declared.integer.Var.{Var}
use Rattle.jfr_layout.specs.Classes.{item_of}
use Rattle.jfr_layout.specs.declared.shape.Shape.{Shape}
use Rattle.jfr_value.specs.Laws.{ItemsCover}
use Rattle.jfr_value.specs.declared.node.Node.{Node}
use Rattle.jfr_value.specs.Nodes.{IsNode, children, node_of}
use Rattle.jfr_stacks.proofs.ItemLaws.{Going, first_left, item_next, items_first, more_left}
use Rattle.jfr_stacks.proofs.frames.items_of.Goals as goal

pub integer_at-count-requires-clause-holds : goal.integer_at-count-requires-clause-holds
integer_at-count-requires-clause-holds c =
    let p = c.args.chunk.now in
    let n = node_of c.args.array.now in
    let v = c.requires.value in
    let i : IsNode p.classes p.bytes n v.0 = subst (λ z. IsNode p.classes z n v.0) c.requires.of_chunk v.1 in
    let k : ItemsCover p.classes p.bytes n = c.children_are_parts.ensures.items p.classes p.bytes n v.0 c.parts_are_valid.ensures.sound i c.requires.array in
    subst (λ z. IsSome {T = Var} z) (sym k.counted) refl

pub items-init : goal.items-init
items-init c =
    let p = c.args.chunk.now in
    let n = node_of c.args.array.now in
    let v = c.requires.value in
    let i : IsNode p.classes p.bytes n v.0 = subst (λ z. IsNode p.classes z n v.0) c.requires.of_chunk v.1 in
    let k : ItemsCover p.classes p.bytes n = c.children_are_parts.ensures.items p.classes p.bytes n v.0 c.parts_are_valid.ensures.sound i c.requires.array in
    let s : Shape = item_of n.shape in
    let count = c.integer_at-count.result in
    let z : count.value - 0 ≡ count.value = omega arith in
    subst (λ m. Going p s n.end (children p.classes p.bytes n) m count.end c.new-items.result.items) (sym z)
    (subst (λ xs. Going p s n.end (children p.classes p.bytes n) count.value count.end xs) (sym c.new-items.ensures.items) (items_first p n s count k c.integer_at-count.ensures refl))

pub item_end-end-requires-clause-order : goal.item_end-end-requires-clause-order
item_end-end-requires-clause-order c =
    let p = c.args.chunk.now in
    let n = node_of c.args.array.now in
    let s : Shape = item_of n.shape in
    let count = c.integer_at-count.result in
    let g : Going p s n.end (children p.classes p.bytes n) _ c.items.at c.items.items.items =
    subst (λ m. Going p s n.end (children p.classes p.bytes n) m c.items.at c.items.items.items) (more_left count.value c.items.counter c.items-test.true) c.items.invariant in
    let f = first_left p s n.end (children p.classes p.bytes n) (count.value - (c.items.counter + 1)) c.items.at c.items.items.items g in
    let a = f.order in
    let b = f.within in
    omega arith

pub item_end-end-requires-clause-holds : goal.item_end-end-requires-clause-holds
item_end-end-requires-clause-holds c =
    let p = c.args.chunk.now in
    let n = node_of c.args.array.now in
    let s : Shape = item_of n.shape in
    let count = c.integer_at-count.result in
    let g : Going p s n.end (children p.classes p.bytes n) _ c.items.at c.items.items.items =
    subst (λ m. Going p s n.end (children p.classes p.bytes n) m c.items.at c.items.items.items) (more_left count.value c.items.counter c.items-test.true) c.items.invariant in
    let f = first_left p s n.end (children p.classes p.bytes n) (count.value - (c.items.counter + 1)) c.items.at c.items.items.items g in
    (f.to, f.ends, f.within)

pub items-preserved : goal.items-preserved
items-preserved c =
    let p = c.args.chunk.now in
    let n = node_of c.args.array.now in
    let s : Shape = item_of n.shape in
    let count = c.integer_at-count.result in
    let g : Going p s n.end (children p.classes p.bytes n) _ c.items.at c.items.items.items =
    subst (λ m. Going p s n.end (children p.classes p.bytes n) m c.items.at c.items.items.items) (more_left count.value c.items.counter c.items-test.true) c.items.invariant in
    let x : Node = record { shape = s; bytes = c.args.array.now.bytes; at = c.items.at; end = c.item_end-end.result } in
    subst (λ xs. Going p s n.end (children p.classes p.bytes n) (count.value - (c.items.counter + 1)) c.item_end-end.result xs) (sym c.in_ok-push.ensures.items)
    (item_next p s n.end (children p.classes p.bytes n) (count.value - (c.items.counter + 1)) c.items.at c.items.items.items x c.requires.of_chunk refl refl c.item_end-end.ensures g)
