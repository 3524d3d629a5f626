-- An entry without a line has room for one.
use Rattle.std.proofs.Common.{◌≡◌, ◌≤◌, ◌^◌, length, slice_index_or, slice_set, false, true, vec_len, vec_capacity, arith, ap, sym, ◌∙◌}
use Rattle.std.proofs.lemmas.List.{length-set}
use Rattle.jfr_worklist.specs.Marks.{is_marked}
use Rattle.jfr_worklist.specs.Worklists.{marked_count}
use Rattle.jfr_worklist.proofs.Counts.{count_set, count_le}
use Rattle.jfr_verify.specs.declared.line.Line.{Line}
use Rattle.jfr_verify.proofs.AddedLaws.{listed_more}
use Rattle.jfr_verify.proofs.lines.Lines.put.Goals as goal

pub push_within-requires : goal.push_within-requires
push_within-requires c =
    let u : is_marked c.args.self.now.flags.items c.args.number ≡ false =
    ap (slice_index_or c.args.self.now.flags.items c.args.number) (sym c.if-not-index.true) ∙ (sym c.index.ensures ∙ c.if-not-index.true) in
    let l : length (slice_set c.args.self.now.flags.items c.args.number true) ≡ length c.args.self.now.flags.items = length-set c.args.self.now.flags.items c.args.number true in
    let k = count_le (slice_set c.args.self.now.flags.items c.args.number true) in
    let s = count_set c.args.self.now.flags.items c.args.number c.requires u in
    let a : vec_len c.args.self.now.items ≡ marked_count c.args.self.now.flags.items = c.args.self.now.each in
    let b : length c.args.self.now.flags.items ≤ vec_capacity c.args.self.now.items = c.args.self.now.room in
    omega arith

pub invariant_of-self : goal.invariant_of-self
invariant_of-self c =
    let u : is_marked c.args.self.now.flags.items c.args.number ≡ false =
    ap (slice_index_or c.args.self.now.flags.items c.args.number) (sym c.if-not-index.true) ∙ (sym c.index.ensures ∙ c.if-not-index.true) in
    let l : length (slice_set c.args.self.now.flags.items c.args.number true) ≡ length c.args.self.now.flags.items = length-set c.args.self.now.flags.items c.args.number true in
    let s = count_set c.args.self.now.flags.items c.args.number c.requires u in
    let a : vec_len c.args.self.now.items ≡ marked_count c.args.self.now.flags.items = c.args.self.now.each in
    let b : length c.args.self.now.flags.items ≤ vec_capacity c.args.self.now.items = c.args.self.now.room in
    let d = c.push_within.ensures in
    let f : length c.args.self.now.flags.items ≤ 2 ^ 31 = c.args.self.now.few in
    record {
      room = omega arith;
      each = omega arith;
      listed = listed_more c.args.self.now.flags.items c.args.self.now.items.items c.push_within.new.list.items c.args.number c.of.result c.args.self.now.listed c.push_within.ensures.items
          (ap (λ (l : Line). l.entry) c.of.ensures);
      few = omega arith;
      low = c.args.self.now.low;
    }
