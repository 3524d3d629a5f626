-- The output of a scrub: a recording with a chunk for each chunk before the first that is refused.
use Rattle.std.specs.Prelude.{◌≡◌, ℕ, List, [], ◌∷◌, ⊤}
use Rattle.jfr_filter.specs.Filters.{Given, describes}
use Rattle.jfr_outside.specs.World.{World}
use Rattle.jfr_chunk.specs.Parts.{Parts, AreParts}
use Rattle.jfr_chunk.specs.Chosen.{kept_of}
use Rattle.jfr_chunk.specs.Scrub.{scrub_of}
use Rattle.jfr_chunk.specs.Refusal.{refusal_of}
use Rattle.jfr_laws.specs.Laws.{IsSettled}
use Rattle.jfr_output.specs.Recordings.{HasOutput, IsOutputOf, recording_output}
use Rattle.jfr_scrub.specs.Scrubs.{scrubbed}

-- The chunk c is whole and accepted, and b is its output: a chunk that is accepted again, has exactly the
-- events that the filter keeps and exactly the constants that they reach, and means the same. Scrubbed once
-- more it doesn't change.
pub record IsScrubbed (g : Given) (c b : List ℕ) : Type 0 where
  pub parts : Parts
  pub bytes : parts.bytes ≡ c
  pub valid : AreParts parts
  pub becomes : b ≡ scrub_of (describes g) parts (kept_of g parts)
  pub settled : IsSettled g parts

-- The bytes y are the scrubs of the chunks of x before the first refused one: a recording of exactly these
-- chunks.
abbrev pub IsScrubOf : Given → List ℕ → List ℕ → Type 0
IsScrubOf g = IsOutputOf refusal_of (IsScrubbed g)

-- The output of a recording: the chunks before the first that is refused, each scrubbed, one after another.
abbrev pub recording_scrubbed : Given → List ℕ → List ℕ
recording_scrubbed g = recording_output refusal_of (scrubbed g)

-- `Good` holds for each part before the last.
abbrev pub AllButLast : (List ℕ → Type 0) → List (List ℕ) → Type 0
AllButLast Good [] = ⊤
AllButLast Good (x ∷ []) = ⊤
AllButLast Good (x ∷ y ∷ parts) = Good x × AllButLast Good (y ∷ parts)

-- The output file is the scrub of the input.
abbrev pub Scrubs : Given → List ℕ → List ℕ → World → World → Type 0
Scrubs g = HasOutput refusal_of (IsScrubbed g)
