-- When a checkpoint of the output is no longer than it was in the chunk.
use Rattle.std.specs.Prelude.{ℕ, ◌+◌, ◌-◌, ◌≤◌, List, length}
use Rattle.jfr_frame.specs.Records.{IsRecord}
use Rattle.jfr_pool.specs.declared.link.Link.{Link}
use Rattle.jfr_chunk.specs.Written.{Group, checkpoint_tail}

-- The checkpoint's record and its delta are in the chunk, and with this delta and these pools the record
-- isn't longer.
pub record LinkFits (c : List ℕ) (l : Link) (delta : ℕ) (gs : List Group) : Type 0 where
  pub framed : IsRecord c l.frame
  pub behind : l.frame.body ≤ l.delta_at
  pub order : l.delta_at ≤ l.delta_end
  pub kind : l.delta_end + 1 ≤ length c
  pub room : (l.frame.type_at - l.frame.at) + length (checkpoint_tail c l delta gs) ≤ l.frame.size
