-- A number that isn't marked has room, and is one more.
use Rattle.std.proofs.Common.{◌≡◌, ◌≤◌, length, slice_index_or, slice_set, false, true, vec_len, vec_capacity, arith, ap, sym, ◌∙◌}
use Rattle.std.proofs.lemmas.List.{length-set}
use Rattle.jfr_worklist.specs.Marks.{is_marked}
use Rattle.jfr_worklist.specs.Worklists.{marked_count}
use Rattle.jfr_worklist.proofs.Counts.{count_set, count_le}
use Rattle.jfr_worklist.proofs.worklist.Worklist.put.Goals as goal

pub push_within-requires : goal.push_within-requires
push_within-requires c =
    let u : is_marked c.args.self.now.flags.items c.args.number ≡ false =
    ap (slice_index_or c.args.self.now.flags.items c.args.number) (sym c.if-not-index.true) ∙ (sym c.index.ensures ∙ c.if-not-index.true) in
    let l : length (slice_set c.args.self.now.flags.items c.args.number true) ≡ length c.args.self.now.flags.items = length-set c.args.self.now.flags.items c.args.number true in
    let k = count_le (slice_set c.args.self.now.flags.items c.args.number true) in
    let s = count_set c.args.self.now.flags.items c.args.number c.requires u in
    let a : vec_len c.args.self.now.order ≡ marked_count c.args.self.now.flags.items = c.args.self.now.each in
    let b : length c.args.self.now.flags.items ≤ vec_capacity c.args.self.now.order = c.args.self.now.room in
    omega arith

pub invariant_of-self : goal.invariant_of-self
invariant_of-self c =
    let u : is_marked c.args.self.now.flags.items c.args.number ≡ false =
    ap (slice_index_or c.args.self.now.flags.items c.args.number) (sym c.if-not-index.true) ∙ (sym c.index.ensures ∙ c.if-not-index.true) in
    let l : length (slice_set c.args.self.now.flags.items c.args.number true) ≡ length c.args.self.now.flags.items = length-set c.args.self.now.flags.items c.args.number true in
    let s = count_set c.args.self.now.flags.items c.args.number c.requires u in
    let a : vec_len c.args.self.now.order ≡ marked_count c.args.self.now.flags.items = c.args.self.now.each in
    let b : length c.args.self.now.flags.items ≤ vec_capacity c.args.self.now.order = c.args.self.now.room in
    let d = c.push_within.ensures in
    record { room = omega arith; each = omega arith }
