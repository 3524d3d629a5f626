-- The counts in a Stacks, and how large they can be.
use Rattle.std.specs.Prelude.{◌*◌, ◌^◌, ◌≤◌}
use Rattle.jfr_stacks.specs.declared.stacks.Stacks.TheInside.{Inside}
use Rattle.jfr_stacks.specs.Adding.{AreBelow, most_events}
use Rattle.jfr_stacks.specs.Held.{counts_in}
use Rattle.jfr_stacks.specs.Folded.{Folded}

-- The folded stacks in the fields of a Stacks.
abbrev pub folded_in : Inside → Folded
folded_in s = record { chunks = s.chunks; stacks = counts_in s.counts }

-- A chunk has fewer than 2^30 bytes, so it has fewer events. So no count over at most 2^34 chunks has more
-- than 64 bits.
pub record IsBounded (f : Folded) : Type 0 where
  pub chunks : f.chunks ≤ 2 ^ 34
  pub counts : AreBelow (most_events * f.chunks) f.stacks
