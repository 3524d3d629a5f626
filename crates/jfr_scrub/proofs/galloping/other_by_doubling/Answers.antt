use Rattle.std.proofs.Common.{arith}
use Rattle.jfr_scrub.proofs.GallopingLaws.{ahead_within, events_before, room_doubled}
use Rattle.jfr_scrub.proofs.galloping.other_by_doubling.Goals as goal

pub overflow_mul-high : goal.overflow_mul-high
overflow_mul-high c =
    let r = room_doubled c.args.chunk.now c.args.cursor.now c.requires.accepted c.doubling.high (c.is_event_at.ensures.0 c.doubling-test.true) in
    omega (arith, r.frame)

pub overflow_add-high : goal.overflow_add-high
overflow_add-high c =
    let r = room_doubled c.args.chunk.now c.args.cursor.now c.requires.accepted c.doubling.high (c.is_event_at.ensures.0 c.doubling-test.true) in
    omega (arith, r.frame)

pub doubling-smaller : goal.doubling-smaller
doubling-smaller c =
    let w = ahead_within c.args.chunk.now c.args.cursor.now c.doubling.high (c.is_event_at.ensures.0 c.doubling-test.true) in
    omega (arith, w.0)

pub doubling-preserved : goal.doubling-preserved
doubling-preserved c =
    let h = c.is_event_at.ensures.0 c.doubling-test.true in
    record {
      room = room_doubled c.args.chunk.now c.args.cursor.now c.requires.accepted c.doubling.high h;
      before = λ k l. events_before c.args.chunk.now c.args.cursor.now c.requires c.doubling.high h k (omega (arith, l));
    }
