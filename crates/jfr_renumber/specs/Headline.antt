-- The output of a renumbering: a recording with a chunk for each chunk before the first that is refused.
use Rattle.std.specs.Prelude.{◌≡◌, ℕ, List}
use Rattle.jfr_filter.specs.Filters.{Given, describes}
use Rattle.jfr_outside.specs.World.{World}
use Rattle.jfr_chunk.specs.Parts.{Parts, AreParts}
use Rattle.jfr_chunk.specs.Chosen.{kept_of}
use Rattle.jfr_chunk.specs.Refusal.{refusal_of}
use Rattle.jfr_output.specs.Recordings.{HasOutput}
use Rattle.jfr_renumber.specs.Meaning.{IsRenumbered}
use Rattle.jfr_renumber.specs.Renumber.{renumber_of}

-- The chunk c has parts, and b is its output with new keys: a chunk that is whole and accepted, has
-- exactly the events that the filter keeps and, of the entries that they reach, the first of each group, and
-- means the same except for the keys.
pub record IsRenumberedOutput (g : Given) (c b : List ℕ) : Type 0 where
  pub parts : Parts
  pub bytes : parts.bytes ≡ c
  pub valid : AreParts parts
  pub becomes : b ≡ renumber_of (describes g) parts (kept_of g parts)
  pub renumbered : IsRenumbered (describes g) parts (kept_of g parts)

-- The output file is the renumbering of the input.
abbrev pub Renumbers : Given → List ℕ → List ℕ → World → World → Type 0
Renumbers g = HasOutput refusal_of (IsRenumberedOutput g)
