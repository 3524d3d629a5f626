use Rattle.jfr_chunk.specs.Parts.{events_of}
use Rattle.jfr_chunk.specs.Reach.{roots}
use Rattle.jfr_verify.proofs.WalkLaws.{no_marks_size, lines_end}
use Rattle.jfr_verify.proofs.walk.lines_in.Goals as goal

pub add_entries-requires : goal.add_entries-requires
add_entries-requires c = record { size = no_marks_size c.args.chunk.now c.add_events.new.lines.flags.items (roots c.args.chunk.now (events_of c.args.chunk.now)) c.add_events.ensures.marks }

pub returns : goal.returns
returns c = lines_end c.args.chunk.now c.add_events.new.lines.flags.items c.add_events.new.lines.items.items c.add_entries.new.lines.items.items c.add_events.ensures.marks c.add_events.ensures.lines
    c.add_entries.ensures.lines
