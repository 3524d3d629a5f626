use Rattle.std.proofs.Common.{ℕ, ◌*◌, ◌-◌, ◌<◌, length}
use Rattle.jfr_scrub.specs.Runs.{HasEventAt, HasRoom}
use Rattle.jfr_scrub.proofs.galloping.other_by_doubling.Given as goal

abbrev pub invariant-doubling : goal.invariant-doubling
invariant-doubling l = record {
  room : HasRoom l.cursor l.high;
  before : (offset : ℕ) → 2 * offset < l.high → HasEventAt l.chunk l.cursor offset;
}

abbrev pub decreases-doubling : goal.decreases-doubling
decreases-doubling l = length l.chunk.records - l.high
