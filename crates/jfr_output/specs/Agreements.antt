-- When two recordings agree on all that remains of them.
use Rattle.std.specs.Prelude.{◌≡◌, ℕ, List, [], ◌∷◌, true, ⊤}
use Rattle.jfr_filter.specs.Filters.{Given, describes}
use Rattle.jfr_header.specs.Cuts.{cut}
use Rattle.jfr_chunk.specs.Parts.{Parts, AreParts}
use Rattle.jfr_chunk.specs.Chosen.{kept_of}
use Rattle.jfr_chunk.specs.Metas.{new_metadata}
use Rattle.jfr_chunk.specs.Refusal.{refusal_of}
use Rattle.jfr_laws.specs.SameKept.{SameKept}
use Rattle.jfr_output.specs.Recordings.{before_refused}

-- Two accepted chunks agree on all that remains of them with this filter.
pub record ChunksAgree (g : Given) (c d : List ℕ) : Type 0 where
  pub parts : Parts
  pub others : Parts
  pub bytes : parts.bytes ≡ c
  pub other_bytes : others.bytes ≡ d
  pub valid : AreParts parts
  pub others_valid : AreParts others
  pub same : SameKept (new_metadata (describes g) parts (kept_of g parts)) (new_metadata (describes g) others (kept_of g others)) parts others (kept_of g parts) (kept_of g others)

-- The chunks agree one to one, in order.
abbrev pub EachAgree : Given → List (List ℕ) → List (List ℕ) → Type 0
EachAgree g [] [] = ⊤
EachAgree g (c ∷ cs) (d ∷ ds) = ChunksAgree g c d × EachAgree g cs ds
EachAgree g [] (d ∷ ds) = ⊥
EachAgree g (c ∷ cs) [] = ⊥

-- Two recordings agree on all that remains of them with this filter: their chunks before the first that is refused
-- agree one to one.
abbrev pub RecordingsAgree : Given → List ℕ → List ℕ → Type 0
RecordingsAgree g x y = EachAgree g (before_refused refusal_of (cut x 0 true).chunks) (before_refused refusal_of (cut y 0 true).chunks)
