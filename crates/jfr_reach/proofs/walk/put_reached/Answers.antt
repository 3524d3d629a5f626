use Rattle.std.proofs.Common.{◌≡◌, [], ◌<◌, ◌≤◌, length, slice_index, vec_len, arith, ap, ◌∙◌}
use Rattle.std.proofs.lemmas.List.{nil_from_length}
use Rattle.std.proofs.lemmas.Grind.{get_or_default_zero}
use Rattle.jfr_worklist.specs.Worklists.{marked_count}
use Rattle.jfr_worklist.proofs.Counts.{count_le, count_none}
use Rattle.jfr_reach.proofs.EntryWalk.{going_starts, going_on, going_ends, going_cost}
use Rattle.jfr_reach.proofs.walk.put_reached.Goals as goal

pub loop-next-init : goal.loop-next-init
loop-next-init g c =
    let n : marked_count c.args.list.now.flags.items ≡ 0 = ap marked_count c.requires ∙ count_none (length c.args.chunk.now.entries) in
    let a : vec_len c.args.list.now.order ≡ marked_count c.args.list.now.flags.items = c.args.list.now.each in
    let o : c.args.list.now.order.items ≡ [] = nil_from_length c.args.list.now.order.items (omega arith) in
    going_starts c.args.chunk.now c.args.kept.now c.args.steps.now c.args.list.now.flags.items c.put_roots.new.list.flags.items c.args.list.now.order.items c.put_roots.new.list.order.items
    c.put_roots.new.steps
    c.requires o c.put_roots.ensures.puts.marks c.put_roots.ensures.puts.order c.put_roots.ensures.cost

pub loop-next-smaller : goal.loop-next-smaller
loop-next-smaller g c =
    let a : vec_len c.loop-next.list.order ≡ marked_count c.loop-next.list.flags.items = c.loop-next.list.each in
    let b = count_le c.loop-next.list.flags.items in
    let s : length c.loop-next.list.flags.items ≡ length c.args.chunk.now.entries = c.loop-next.invariant.size in
    omega arith

pub loop-next-preserved : goal.loop-next-preserved
loop-next-preserved g c =
    let h : c.loop-next.next < length c.loop-next.list.order.items = omega arith in
    let e : c.index-number.result.now ≡ slice_index c.loop-next.list.order.items c.loop-next.next =
    c.index-number.ensures ∙ get_or_default_zero c.loop-next.list.order.items c.loop-next.next c.index-number.result.now h in
    going_on c.args.chunk.now c.args.kept.now c.args.steps.now c.loop-next.list.flags.items c.put_entry.new.list.flags.items c.loop-next.list.order.items c.put_entry.new.list.order.items
    c.loop-next.next c.loop-next.steps c.put_entry.new.steps c.index-number.result.now h c.loop-next.invariant e c.put_entry.ensures.puts.marks c.put_entry.ensures.puts.order c.put_entry.ensures.cost

pub returns-clause-exact : goal.returns-clause-exact
returns-clause-exact g c =
    let h : length c.loop-next.list.order.items ≤ c.loop-next.next = omega arith in
    going_ends c.args.chunk.now c.args.kept.now c.args.steps.now c.loop-next.list.flags.items c.loop-next.list.order.items c.loop-next.next c.loop-next.steps h c.loop-next.invariant

pub returns-clause-cost : goal.returns-clause-cost
returns-clause-cost g c =
    let h : length c.loop-next.list.order.items ≤ c.loop-next.next = omega arith in
    going_cost c.args.chunk.now c.args.kept.now c.parts_are_valid.ensures.parts c.args.steps.now c.loop-next.list.flags.items c.loop-next.list.order.items c.loop-next.next c.loop-next.steps h
    c.loop-next.invariant
