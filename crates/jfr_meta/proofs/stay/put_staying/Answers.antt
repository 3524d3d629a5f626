use Rattle.std.proofs.Common.{◌≡◌, [], ◌<◌, ◌≤◌, length, map, slice_index, vec_len, arith, ap, ◌∙◌}
use Rattle.std.proofs.lemmas.List.{nil_from_length}
use Rattle.std.proofs.lemmas.Grind.{get_or_default_zero}
use Rattle.jfr_meta.specs.Stays.{is_in}
use Rattle.jfr_worklist.specs.Worklists.{marked_count}
use Rattle.jfr_worklist.proofs.Counts.{count_le, count_none}
use Rattle.jfr_meta.proofs.PutsLaws.{going_starts, going_on, going_ends}
use Rattle.jfr_meta.proofs.stay.put_staying.Goals as goal

pub loop-next-init : goal.loop-next-init
loop-next-init c =
    let n : marked_count c.args.list.now.flags.items ≡ 0 = ap marked_count c.requires.fresh ∙ count_none (length c.args.classes.now) in
    let a : vec_len c.args.list.now.order ≡ marked_count c.args.list.now.flags.items = c.args.list.now.each in
    let o : c.args.list.now.order.items ≡ [] = nil_from_length c.args.list.now.order.items (omega arith) in
    going_starts c.args.strings.now (map (λ e. e.now) c.args.elements.now) c.args.classes.now (is_in c.args.used.now) c.args.list.now c.put_first.new.list c.requires.fresh o c.put_first.ensures.puts

pub put_number-requires : goal.put_number-requires
put_number-requires c = record { size = c.loop-next.invariant.size }

pub loop-next-smaller : goal.loop-next-smaller
loop-next-smaller c =
    let a : vec_len c.loop-next.list.order ≡ marked_count c.loop-next.list.flags.items = c.loop-next.list.each in
    let b = count_le c.loop-next.list.flags.items in
    let s : length c.loop-next.list.flags.items ≡ length c.args.classes.now = c.loop-next.invariant.size in
    omega arith

pub loop-next-preserved : goal.loop-next-preserved
loop-next-preserved c =
    let h : c.loop-next.next < length c.loop-next.list.order.items = omega arith in
    let e : c.index-number.result.now ≡ slice_index c.loop-next.list.order.items c.loop-next.next =
    c.index-number.ensures ∙ get_or_default_zero c.loop-next.list.order.items c.loop-next.next c.index-number.result.now h in
    going_on c.args.strings.now (map (λ e. e.now) c.args.elements.now) c.args.classes.now (is_in c.args.used.now) c.loop-next.list c.put_number.new.list c.loop-next.next c.index-number.result.now h
    c.loop-next.invariant e c.put_number.ensures.puts

pub returns : goal.returns
returns c =
    let h : length c.loop-next.list.order.items ≤ c.loop-next.next = omega arith in
    record { exact = going_ends c.args.strings.now (map (λ e. e.now) c.args.elements.now) c.args.classes.now (is_in c.args.used.now) c.loop-next.list c.loop-next.next h c.loop-next.invariant }
