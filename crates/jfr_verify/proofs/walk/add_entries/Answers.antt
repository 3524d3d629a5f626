use Rattle.std.proofs.Common.{◌≡◌, ◌<◌, ◌≤◌, length, slice_get, Some, vec_len, arith, ap, sym, ◌∙◌}
use Rattle.jfr_worklist.specs.Worklists.{marked_count}
use Rattle.jfr_worklist.proofs.Counts.{count_le}
use Rattle.jfr_verify.proofs.WalkLaws.{in_lines_next, in_lines_ends}
use Rattle.jfr_verify.proofs.walk.add_entries.Goals as goal
use Rattle.jfr_verify.proofs.ParentLaws.{get_here}

pub loop-next-smaller : goal.loop-next-smaller
loop-next-smaller c =
    let a : vec_len c.loop-next.lines.items ≡ marked_count c.loop-next.lines.flags.items = c.loop-next.lines.each in
    let b = count_le c.loop-next.lines.flags.items in
    let s : length c.loop-next.lines.flags.items ≡ length c.args.chunk.now.entries = c.loop-next.invariant.size in
    omega arith

pub loop-next-preserved : goal.loop-next-preserved
loop-next-preserved c =
    let a : vec_len c.loop-next.lines.items ≡ marked_count c.loop-next.lines.flags.items = c.loop-next.lines.each in
    let b = count_le c.loop-next.lines.flags.items in
    let s : length c.loop-next.lines.flags.items ≡ length c.args.chunk.now.entries = c.loop-next.invariant.size in
    let h : c.loop-next.next < length c.args.chunk.now.entries = omega arith in
    let e : slice_get c.loop-next.lines.items.items c.loop-next.next ≡ Some c.line-line.result =
    get_here c.loop-next.lines.items.items c.loop-next.next c.index.result.now c.index.result.now (omega arith) c.index.ensures ∙ ap (λ z. Some z) (sym c.line-line.ensures.exact) in
    in_lines_next c.args.chunk.now c.args.lines.now.flags.items c.loop-next.lines.flags.items c.add_entry.new.lines.flags.items c.args.lines.now.items.items c.loop-next.lines.items.items
    c.add_entry.new.lines.items.items
    c.loop-next.next c.line-line.result e h c.loop-next.invariant c.add_entry.ensures.marks c.add_entry.ensures.lines

pub returns-clause-lines : goal.returns-clause-lines
returns-clause-lines c =
    let h : length c.loop-next.lines.items.items ≤ c.loop-next.next = omega arith in
    in_lines_ends c.args.chunk.now c.args.lines.now.flags.items c.loop-next.lines.flags.items c.args.lines.now.items.items c.loop-next.lines.items.items c.loop-next.next h c.loop-next.invariant
