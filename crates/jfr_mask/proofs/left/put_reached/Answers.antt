use Rattle.std.proofs.Common.{◌≡◌, [], ◌<◌, ◌≤◌, ◌∙◌, ap, arith, length, slice_index, vec_len}
use Rattle.std.proofs.lemmas.Grind.{get_or_default_zero}
use Rattle.std.proofs.lemmas.List.{nil_from_length}
use Rattle.jfr_worklist.specs.Worklists.{marked_count}
use Rattle.jfr_worklist.proofs.Counts.{count_le, count_none}
use Rattle.jfr_chunk.specs.Reach.{kept_by}
use Rattle.jfr_mask.specs.Masked.{is_held_masked, is_masked_string}
use Rattle.jfr_mask.proofs.WalkBut.{going_ends, going_on, going_starts}
use Rattle.jfr_mask.proofs.left.put_reached.Goals as goal

pub loop-next-init : goal.loop-next-init
loop-next-init c =
    let p = c.args.chunk.now in
    let n : marked_count c.args.reaching.now.list.flags.items ≡ 0 = ap marked_count c.requires.fresh ∙ count_none (length p.entries) in
    let a : vec_len c.args.reaching.now.list.order ≡ marked_count c.args.reaching.now.list.flags.items = c.args.reaching.now.list.each in
    let o : c.args.reaching.now.list.order.items ≡ [] = nil_from_length c.args.reaching.now.list.order.items (omega arith) in
    record { listed = c.put_events.ensures.listed; going = going_starts (is_masked_string (is_held_masked c.args.masked.now p.classes)) p (kept_by p c.args.kept.now) c.args.reaching.now.list c.put_events.new.reaching.list c.requires.fresh o c.put_events.ensures.puts }

pub loop-next-smaller : goal.loop-next-smaller
loop-next-smaller c =
    let a : vec_len c.loop-next.reaching.list.order ≡ marked_count c.loop-next.reaching.list.flags.items = c.loop-next.reaching.list.each in
    let b = count_le c.loop-next.reaching.list.flags.items in
    let s : length c.loop-next.reaching.list.flags.items ≡ length c.args.chunk.now.entries = c.loop-next.invariant.going.size in
    omega arith

pub loop-next-preserved : goal.loop-next-preserved
loop-next-preserved c =
    let p = c.args.chunk.now in
    let h : c.loop-next.next < length c.loop-next.reaching.list.order.items = omega arith in
    let e : c.index-number.result.now ≡ slice_index c.loop-next.reaching.list.order.items c.loop-next.next =
    c.index-number.ensures ∙ get_or_default_zero c.loop-next.reaching.list.order.items c.loop-next.next c.index-number.result.now h in
    record {
      listed = c.loop-next.invariant.listed;
      going = going_on (is_masked_string (is_held_masked c.args.masked.now p.classes)) p (kept_by p c.args.kept.now) c.loop-next.reaching.list c.put_entry.new.list c.loop-next.next c.index-number.result.now h
          c.loop-next.invariant.going e c.put_entry.ensures;
    }

pub returns : goal.returns
returns c =
    let p = c.args.chunk.now in
    let h : length c.loop-next.reaching.list.order.items ≤ c.loop-next.next = omega arith in
    record { listed = c.loop-next.invariant.listed; marks = going_ends (is_masked_string (is_held_masked c.args.masked.now p.classes)) p (kept_by p c.args.kept.now) c.loop-next.reaching.list c.loop-next.next h c.loop-next.invariant.going }
