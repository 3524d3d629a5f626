use Rattle.jfr_chunk.specs.Reach.{kept_by, roots}
use Rattle.jfr_verify.proofs.KeptWalkLaws.{kept_lines_end}
use Rattle.jfr_verify.proofs.WalkLaws.{no_marks_size}
use Rattle.jfr_verify.proofs.walk.kept_lines_in.Goals as goal

pub add_entries-requires : goal.add_entries-requires
add_entries-requires c = record {
  size = no_marks_size c.args.chunk.now c.add_kept_events.new.lines.flags.items
      (roots c.args.chunk.now (kept_by c.args.chunk.now c.args.kept.now)) c.add_kept_events.ensures.marks;
}

pub returns-clause-lines : goal.returns-clause-lines
returns-clause-lines c = kept_lines_end c.args.chunk.now (kept_by c.args.chunk.now c.args.kept.now) c.add_kept_events.new.lines.flags.items c.add_kept_events.new.lines.items.items
    c.add_entries.new.lines.items.items c.add_kept_events.ensures.marks c.add_kept_events.ensures.lines c.add_entries.ensures.lines
