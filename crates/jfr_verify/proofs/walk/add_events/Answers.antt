use Rattle.std.proofs.Common.{◌<◌, length, arith}
use Rattle.jfr_chunk.specs.Parts.{events_of}
use Rattle.jfr_verify.proofs.WalkLaws.{in_events_size, in_events_next}
use Rattle.jfr_verify.proofs.walk.add_events.Goals as goal
use Rattle.jfr_layout.proofs.Lists.{present}

pub add_event-requires : goal.add_event-requires
add_event-requires c = record {
  size = in_events_size c.args.chunk.now c.loop-number.number c.loop-number.lines.flags.items c.loop-number.lines.items.items c.loop-number.invariant;
  low = omega
      (arith, c.requires.few);
}

pub loop-number-preserved : goal.loop-number-preserved
loop-number-preserved c =
    let h : c.loop-number.number < length (events_of c.args.chunk.now) = omega arith in
    let e = present (events_of c.args.chunk.now) c.loop-number.number h in
    let a = c.add_event.ensures.adds e.0 e.1 in
    in_events_next c.args.chunk.now c.loop-number.number e.0 c.loop-number.lines.flags.items c.add_event.new.lines.flags.items c.loop-number.lines.items.items c.add_event.new.lines.items.items e.1
    c.loop-number.invariant a.marks a.lines
