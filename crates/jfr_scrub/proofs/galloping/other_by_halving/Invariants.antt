use Rattle.std.proofs.Common.{ℕ, ◌-◌, ◌<◌, ◌≤◌}
use Rattle.jfr_scrub.specs.Runs.{HasEventAt, HasRoom}
use Rattle.jfr_scrub.proofs.galloping.other_by_halving.Given as goal

abbrev pub invariant-halving : goal.invariant-halving
invariant-halving l = record {
  room : HasRoom l.cursor l.high;
  order : l.low ≤ l.high;
  before : (offset : ℕ) → offset < l.low → HasEventAt l.chunk l.cursor offset;
  past : HasEventAt l.chunk l.cursor l.high → ⊥;
}

abbrev pub decreases-halving : goal.decreases-halving
decreases-halving l = l.high - l.low
