use Rattle.std.proofs.Common.{◌≡◌, ◌<◌, length, take, slice_index_or, slice_set, true, false, arith, ap, refl, sym, ◌∙◌}
use Rattle.jfr_verify.specs.declared.line.Line.{Line}
use Rattle.jfr_verify.specs.declared.line.Parent.TheVariants.{OfEvent}
use Rattle.jfr_verify.specs.Parents.{IsOrdered, is_next}
use Rattle.jfr_verify.proofs.ParentLaws.{after, get_here, next_ordered, owners_next, owners_stop, owners_end}
use Rattle.jfr_verify.proofs.parents.parents_of.Goals as goal

abbrev none : Line
none = record { entry = 0; parent = OfEvent 0 }

pub returns-then-not-can_follow : goal.returns-then-not-can_follow
returns-then-not-can_follow c =
    let l : Line = slice_index_or c.args.lines.now c.loop-line.line-index none in
    let h : c.loop-line.line-index < length c.args.lines.now = omega arith in
    let e : is_next c.loop-line.seen.items l ≡ false = ap (λ z. is_next z l) (sym c.deref.ensures.value) ∙ (sym c.can_follow.ensures ∙ c.if-not-can_follow.true) in
    owners_stop c.args.count c.args.lines.now c.loop-line.line-index l c.loop-line.seen.items c.loop-line.parents.items
    (get_here c.args.lines.now c.loop-line.line-index l none h refl) c.loop-line.invariant e

pub index_mut-requires : goal.index_mut-requires
index_mut-requires c =
    let l : Line = slice_index_or c.args.lines.now c.loop-line.line-index none in
    let e : is_next c.loop-line.seen.items l ≡ true = ap (λ z. is_next z l) (sym c.deref.ensures.value) ∙ (sym c.can_follow.ensures ∙ c.if-not-can_follow.false) in
    let i : IsOrdered c.args.count (after _ (take c.loop-line.line-index c.args.lines.now)) l =
    next_ordered c.args.count (take c.loop-line.line-index c.args.lines.now) c.loop-line.seen.items c.loop-line.parents.items c.loop-line.invariant l e in
    omega (arith, i.below, c.loop-line.invariant.size)

pub index_mut-requires-in-loop-line : goal.index_mut-requires-in-loop-line
index_mut-requires-in-loop-line c =
    let l : Line = slice_index_or c.args.lines.now c.loop-line.line-index none in
    let e : is_next c.loop-line.seen.items l ≡ true = ap (λ z. is_next z l) (sym c.deref.ensures.value) ∙ (sym c.can_follow.ensures ∙ c.if-not-can_follow.false) in
    let i : IsOrdered c.args.count (after _ (take c.loop-line.line-index c.args.lines.now)) l =
    next_ordered c.args.count (take c.loop-line.line-index c.args.lines.now) c.loop-line.seen.items c.loop-line.parents.items c.loop-line.invariant l e in
    omega (arith, i.below, c.loop-line.invariant.parents_size)

pub loop-line-preserved : goal.loop-line-preserved
loop-line-preserved c =
    let l : Line = slice_index_or c.args.lines.now c.loop-line.line-index none in
    let h : c.loop-line.line-index < length c.args.lines.now = omega arith in
    let e : is_next c.loop-line.seen.items l ≡ true = ap (λ z. is_next z l) (sym c.deref.ensures.value) ∙ (sym c.can_follow.ensures ∙ c.if-not-can_follow.false) in
    owners_next c.args.count c.args.lines.now c.loop-line.line-index l c.loop-line.seen.items (slice_set c.loop-line.seen.items l.entry true) c.loop-line.parents.items
    (slice_set c.loop-line.parents.items l.entry l.parent)
    (get_here c.args.lines.now c.loop-line.line-index l none h refl) c.loop-line.invariant e refl refl

pub returns : goal.returns
returns c =
    let h : c.loop-line.line-index ≡ length c.args.lines.now = omega arith in
    owners_end c.args.count c.args.lines.now c.loop-line.line-index c.loop-line.seen.items c.loop-line.parents.items h c.loop-line.invariant
