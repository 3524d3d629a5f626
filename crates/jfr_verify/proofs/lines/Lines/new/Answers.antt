-- Nothing is marked, and there is room.
use Rattle.std.proofs.Common.{rules, ◌≡◌, length, false, replicate, vec_len, vec_capacity, arith, ap, ◌∙◌}
use Rattle.std.proofs.lemmas.List.{length-replicate}
use Rattle.jfr_worklist.specs.Worklists.{marked_count}
use Rattle.jfr_worklist.proofs.Counts.{count_none}
use Rattle.jfr_verify.proofs.AddedLaws.{listed_none}
use Rattle.jfr_verify.proofs.lines.Lines.new.Goals as goal

pub invariant_of-result : goal.invariant_of-result
invariant_of-result c =
    let e : c.resize.new.self.items ≡ replicate c.args.count false = search (rules, c.in_ok-resize.ensures.items, c.new-flags.ensures.items) in
    let l : length c.resize.new.self.items ≡ c.args.count = ap length e ∙ length-replicate c.args.count false in
    let k : vec_capacity c.in_ok-items.items ≡ c.args.count = c.in_ok-items.ensures.exact in
    let n : vec_len c.in_ok-items.items ≡ 0 = c.in_ok-items.ensures.len in
    let m : marked_count c.resize.new.self.items ≡ 0 = ap marked_count e ∙ count_none c.args.count in
    record {
      room = omega arith;
      each = omega arith;
      listed = listed_none c.resize.new.self.items c.in_ok-items.items.items c.args.count e l c.in_ok-items.ensures.items;
      few = omega
          (arith, c.requires);
      low = omega arith;
    }
