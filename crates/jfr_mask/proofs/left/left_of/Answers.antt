use Rattle.std.proofs.Common.{◌∙◌, ap, length, sym}
use Rattle.jfr_chunk.specs.Reach.{kept_by}
use Rattle.jfr_mask.specs.Masked.{is_held_masked, is_masked_string}
use Rattle.jfr_mask.proofs.WalkBut.{left_are, marks_size}
use Rattle.jfr_mask.proofs.left.left_of.Goals as goal

pub marked_entries-requires : goal.marked_entries-requires
marked_entries-requires c =
    let p = c.args.chunk.now in
    ap length c.put_reached.ensures.marks ∙ (marks_size (is_masked_string (is_held_masked c.args.masked.now p.classes)) p (kept_by p c.args.kept.now) ∙ sym (ap length c.pools-2.ensures))

pub returns-clause-entries : goal.returns-clause-entries
returns-clause-entries c =
    let p = c.args.chunk.now in
    left_are (is_masked_string (is_held_masked c.args.masked.now p.classes)) p (kept_by p c.args.kept.now) c.put_reached.new.reaching.list.flags.items c.pools-2.result.now c.in_ok-entries.entries.items
    c.put_reached.ensures.marks c.pools-2.ensures c.in_ok-entries.ensures.ok

pub returns-clause-events : goal.returns-clause-events
returns-clause-events c = c.put_reached.ensures.listed c.if-reaching.false
