use Rattle.std.proofs.Common.{◌≡◌, arith, subst}
use Rattle.jfr_scrub.specs.Runs.{HasEventAt}
use Rattle.jfr_scrub.proofs.GallopingLaws.{events_before}
use Rattle.jfr_scrub.proofs.galloping.other_by_halving.Goals as goal

pub halving-preserved-then-is_event_at : goal.halving-preserved-then-is_event_at
halving-preserved-then-is_event_at c =
    let h = c.is_event_at.ensures.0 c.if-is_event_at.true in
    record {
      room = c.halving.invariant.room;
      order = omega (arith, c.halving-test.true);
      before = λ k l. events_before c.args.chunk.now c.args.cursor.now c.requires.at _ h k (omega (arith, l));
      past = c.halving.invariant.past;
    }

pub returns-clause-last : goal.returns-clause-last
returns-clause-last c =
    let e : c.halving.high ≡ c.halving.low = omega (arith, c.halving-test.false, c.halving.invariant.order) in
    subst (λ n. HasEventAt c.args.chunk.now c.args.cursor.now n → ⊥) e c.halving.invariant.past
