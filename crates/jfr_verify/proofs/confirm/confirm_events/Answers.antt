use Rattle.std.proofs.Common.{◌<◌, length, arith}
use Rattle.jfr_chunk.specs.Parts.{events_of}
use Rattle.jfr_verify.proofs.ClaimLaws.{events_next}
use Rattle.jfr_verify.proofs.confirm.confirm_events.Goals as goal
use Rattle.jfr_layout.proofs.Lists.{present}

pub loop-number-preserved : goal.loop-number-preserved
loop-number-preserved c =
    let h : c.loop-number.number < length (events_of c.args.chunk.now) = omega arith in
    let e = present (events_of c.args.chunk.now) c.loop-number.number h in
    events_next c.args.chunk.now c.loop-number.number e.0 c.args.claims.now c.loop-number.claims c.confirm_event.new.claims e.1 c.requires.size c.loop-number.invariant
    (c.confirm_event.ensures e.0 e.1)
