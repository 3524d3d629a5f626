use Rattle.std.proofs.Common.{subst, Some, None}
use Rattle.jfr_verify.specs.Checks.{HasClasses, MarksOfCopies}
use Rattle.jfr_verify.specs.Decided.{Decided}
use Rattle.jfr_verify.specs.Prefix.{ReceiptPrefix}
use Rattle.jfr_verify.proofs.ForceLaws.{all_in_force}
use Rattle.jfr_verify.proofs.checker.check_kept.Goals as goal

pub returns-then-not-known : goal.returns-then-not-known
returns-then-not-known c = subst (Decided (HasClasses c.args.a.now.classes c.args.b.now.classes)) c.if-not-known.true c.in_ok-known.ensures

pub returns-then-not-same_events : goal.returns-then-not-same_events
returns-then-not-same_events c =
    let has = subst (Decided (HasClasses c.args.a.now.classes c.args.b.now.classes)) c.if-not-known.false c.in_ok-known.ensures in
    (has, c.if-not-same_events.ensures)

pub returns-in_default : goal.returns-in_default
returns-in_default c =
    let has = subst (Decided (HasClasses c.args.a.now.classes c.args.b.now.classes)) c.if-not-known.false c.in_ok-known.ensures in
    (has, c.if-not-same_events.ensures, (let z : MarksOfCopies c.args.a.now c.args.b.now None = subst (MarksOfCopies c.args.a.now c.args.b.now) c.in_default.is c.in_ok-marks.ensures in z))

pub is_closed-requires : goal.is_closed-requires
is_closed-requires c =
    let m : MarksOfCopies c.args.a.now c.args.b.now (Some c.in-Some.marks) = subst (MarksOfCopies c.args.a.now c.args.b.now) c.in-Some.is c.in_ok-marks.ensures in
    record { kept = c.requires; size = m.1 }

pub returns-then-not-is_closed : goal.returns-then-not-is_closed
returns-then-not-is_closed c =
    let has = subst (Decided (HasClasses c.args.a.now.classes c.args.b.now.classes)) c.if-not-known.false c.in_ok-known.ensures in
    let m : MarksOfCopies c.args.a.now c.args.b.now (Some c.in-Some.marks) = subst (MarksOfCopies c.args.a.now c.args.b.now) c.in-Some.is c.in_ok-marks.ensures in
    (has, c.if-not-same_events.ensures, c.in-Some.marks.items, m.0, c.if-not-is_closed.ensures)

pub receipt_prefix-requires : goal.receipt_prefix-requires
receipt_prefix-requires c =
    let m : MarksOfCopies c.args.a.now c.args.b.now (Some c.in-Some.marks) = subst (MarksOfCopies c.args.a.now c.args.b.now) c.in-Some.is c.in_ok-marks.ensures in
    all_in_force c.args.a.now c.args.b.now c.in-Some.marks.items m.0

pub returns-in-Some-2 : goal.returns-in-Some-2
returns-in-Some-2 c =
    let has = subst (Decided (HasClasses c.args.a.now.classes c.args.b.now.classes)) c.if-not-known.false c.in_ok-known.ensures in
    let m : MarksOfCopies c.args.a.now c.args.b.now (Some c.in-Some.marks) = subst (MarksOfCopies c.args.a.now c.args.b.now) c.in-Some.is c.in_ok-marks.ensures in
    let s : ReceiptPrefix c.args.b.now c.args.receipt.now (Some c.in-Some-2.end) = subst (ReceiptPrefix c.args.b.now c.args.receipt.now) c.in-Some-2.is c.in_ok-end.ensures in (
      s.0,
      record {
        classes = has;
        events = c.if-not-same_events.ensures;
        marks = c.in-Some.marks.items;
        among = m.0;
        closed = c.if-not-is_closed.ensures;
        shown = s.1;
      },
    )

pub returns-in-None : goal.returns-in-None
returns-in-None c =
    let has = subst (Decided (HasClasses c.args.a.now.classes c.args.b.now.classes)) c.if-not-known.false c.in_ok-known.ensures in
    let m : MarksOfCopies c.args.a.now c.args.b.now (Some c.in-Some.marks) = subst (MarksOfCopies c.args.a.now c.args.b.now) c.in-Some.is c.in_ok-marks.ensures in
    let s : ReceiptPrefix c.args.b.now c.args.receipt.now None = subst (ReceiptPrefix c.args.b.now c.args.receipt.now) c.in-None.is c.in_ok-end.ensures in
    (has, c.if-not-same_events.ensures, c.in-Some.marks.items, m.0, c.if-not-is_closed.ensures, s)
