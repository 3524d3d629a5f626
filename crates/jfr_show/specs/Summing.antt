-- The totals in a summary, and how large they can be.
use Rattle.std.specs.Prelude.{◌*◌, ◌^◌, ◌≤◌}
use Rattle.jfr_show.specs.declared.summary.Summary.TheInside.{Inside}
use Rattle.jfr_show.specs.Counting.{AreBelow}
use Rattle.jfr_show.specs.Held.{tallies_in}
use Rattle.jfr_show.specs.Totals.{Totals}

-- The totals in a summary's fields.
abbrev pub totals_in : Inside → Totals
totals_in s = record {
  first = s.first;
  chunks = s.chunks;
  bytes = s.bytes;
  duration = s.duration;
  events = s.events;
  checkpoints = s.checkpoints;
  constants = s.constants;
  inert = s.inert;
  tallies = tallies_in s.tallies;
}

-- The totals are so small that no sum wraps. A chunk has less than 2^30 bytes, and no more events,
-- checkpoints, entries or other records than bytes. So no sum over fewer than 17000000000 chunks wraps in 64
-- bits, and no sum of durations in 128.
pub record IsBounded (t : Totals) : Type 0 where
  pub chunks : t.chunks ≤ 17000000000
  pub bytes : t.bytes ≤ 2 ^ 30 * t.chunks
  pub duration : t.duration ≤ 2 ^ 64 * t.chunks
  pub events : t.events ≤ t.bytes
  pub checkpoints : t.checkpoints ≤ t.bytes
  pub constants : t.constants ≤ t.bytes
  pub inert : t.inert ≤ t.bytes
  pub tallies : AreBelow t.bytes t.tallies
