use Rattle.std.proofs.Common.{rules}
use Rattle.jfr_outside.proofs.HeldLaws.{grown_map, kept_map, held_same, held_grown, not_held}
use Rattle.jfr_outside.proofs.files.grow_file.Goals as goal

pub returns-in_err-extend_from_slice-clause-unchanged : goal.returns-in_err-extend_from_slice-clause-unchanged
returns-in_err-extend_from_slice-clause-unchanged c =
    let h = c.get_mut.follows.holds c.extend_from_slice.new.self in
    let same = kept_map c.args.files.now (c.get_mut.follows.lender c.extend_from_slice.new.self) c.args.name.now c.in-Some.file.now c.extend_from_slice.new.self c.in-Some.ensures.value h.3
    c.in_err-extend_from_slice.ensures.items in search (rules, same)

pub returns-in_ok-extend_from_slice-clause-ok : goal.returns-in_ok-extend_from_slice-clause-ok
returns-in_ok-extend_from_slice-clause-ok c =
    let h = c.get_mut.follows.holds c.extend_from_slice.new.self in
    grown_map c.args.files.now (c.get_mut.follows.lender c.extend_from_slice.new.self) c.args.name.now c.in-Some.file.now c.extend_from_slice.new.self c.args.bytes.now c.in-Some.ensures.value h.3
    c.in_ok-extend_from_slice.ensures.items

pub returns-in_err-extend_from_slice-clause-holds : goal.returns-in_err-extend_from_slice-clause-holds
returns-in_err-extend_from_slice-clause-holds c =
    let h = c.get_mut.follows.holds c.extend_from_slice.new.self in
    held_same _ _ (kept_map c.args.files.now (c.get_mut.follows.lender c.extend_from_slice.new.self) c.args.name.now c.in-Some.file.now c.extend_from_slice.new.self c.in-Some.ensures.value h.3
    c.in_err-extend_from_slice.ensures.items)

pub returns-in_ok-extend_from_slice-clause-holds : goal.returns-in_ok-extend_from_slice-clause-holds
returns-in_ok-extend_from_slice-clause-holds c =
    let h = c.get_mut.follows.holds c.extend_from_slice.new.self in
    held_grown _ _ _ _ (grown_map c.args.files.now (c.get_mut.follows.lender c.extend_from_slice.new.self) c.args.name.now c.in-Some.file.now c.extend_from_slice.new.self c.args.bytes.now
    c.in-Some.ensures.value h.3 c.in_ok-extend_from_slice.ensures.items)

pub returns-in_default-clause-ok : goal.returns-in_default-clause-ok
returns-in_default-clause-ok c = absurd (not_held c.args.files.now c.args.name.now c.in_default.ensures.value c.requires)
