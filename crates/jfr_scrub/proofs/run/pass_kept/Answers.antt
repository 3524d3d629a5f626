use Rattle.std.proofs.Common.{arith, sym, ◌∙◌}
use Rattle.jfr_scrub.specs.Runs.{HasRoom}
use Rattle.jfr_scrub.proofs.GallopingLaws.{room_behind}
use Rattle.jfr_scrub.proofs.RunLaws.{AllKept, ends_events, passes_events}
use Rattle.jfr_scrub.proofs.run.pass_kept.Goals as goal

pub overflow_add-cursor : goal.overflow_add-cursor
overflow_add-cursor c =
    let r : HasRoom c.args.cursor.now 0 = record { event = omega arith; frame = omega arith } in
    let s = room_behind c.args.chunk.now c.args.cursor.now c.requires.accepted r _ c.events_ahead-count.ensures.each in
    omega (arith, s.frame)

pub overflow_add-cursor-then-len-event_count : goal.overflow_add-cursor-then-len-event_count
overflow_add-cursor-then-len-event_count c =
    let r : HasRoom c.args.cursor.now 0 = record { event = omega arith; frame = omega arith } in
    let s = room_behind c.args.chunk.now c.args.cursor.now c.requires.accepted r _ c.events_ahead-count.ensures.each in
    omega (arith, s.event)

pub returns-then-len-event_count-clause-passed : goal.returns-then-len-event_count-clause-passed
returns-then-len-event_count-clause-passed c =
    let a : AllKept c.args.chunk.now c.args.kept.now = record { set = sym c.are_all.ensures ∙ c.if-are_all.true; each = sym c.len.ensures ∙ (c.if-len-event_count.true ∙ c.event_count.ensures) } in
    passes_events _ _ _ c.requires.cursor a _ c.events_ahead-count.ensures.each

pub returns-then-len-event_count-clause-all : goal.returns-then-len-event_count-clause-all
returns-then-len-event_count-clause-all c =
    let u = returns-then-len-event_count-clause-passed c in
    ends_events _ _ _ _ u.cursor c.events_ahead-count.ensures.last
