use Rattle.std.proofs.Common.{◌≡◌, ◌∙◌, length, false, replicate, ap, arith, sym, rules}
use Rattle.jfr_verify.proofs.CopyLaws.{copies_start, copies_next, none_copied, found_within}
use Rattle.jfr_verify.proofs.copies.marks_of_copies.Goals as goal

pub loop-number-init : goal.loop-number-init
loop-number-init c =
    let n : c.len.result ≡ length c.args.a.now.entries = c.len.ensures ∙ ap length c.pools.ensures in
    let e : c.resize.new.self.items ≡ replicate c.len.result false = search (rules, c.in_ok-resize.ensures.items, c.new-marks.ensures.items) in
    copies_start c.args.a.now c.args.b.now c.resize.new.self.items (e ∙ ap (λ z. replicate z false) n)

pub returns-in_default : goal.returns-in_default
returns-in_default c = none_copied c.args.a.now c.args.b.now c.loop-number.number c.loop-number.from c.loop-number.marks.items
    (omega (arith, c.len-number-end.ensures, ap length c.pools-2.ensures)) c.loop-number.invariant (sym c.in_default.ensures)

pub index_mut-requires : goal.index_mut-requires
index_mut-requires c = omega (
  arith,
  found_within c.args.a.now c.args.b.now c.loop-number.number c.loop-number.from c.in-Some.original c.loop-number.marks.items c.loop-number.invariant
      (sym c.in-Some.ensures),
)

pub overflow_add-from : goal.overflow_add-from
overflow_add-from c =
    let h = found_within c.args.a.now c.args.b.now c.loop-number.number c.loop-number.from c.in-Some.original c.loop-number.marks.items c.loop-number.invariant (sym c.in-Some.ensures) in
    omega (arith, h, c.loop-number.marks.small, c.loop-number.marks.ok)

pub loop-number-preserved : goal.loop-number-preserved
loop-number-preserved c = copies_next c.args.a.now c.args.b.now c.loop-number.number c.loop-number.from c.in-Some.original c.loop-number.marks.items c.loop-number.invariant (sym c.in-Some.ensures)
