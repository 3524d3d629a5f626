-- Texts that are collected in a page, and written several at a time.
use Rattle.std.specs.Prelude.{◌≡◌, ℕ, List, ◌∷◌, ◌++◌, take, Option, option_map, Result, Ok, Err}
use Rattle.std.specs.List.{concat}
use Rattle.jfr_header.specs.declared.ending.Ending.{Ending}
use Rattle.jfr_header.specs.declared.ending.Ending.TheVariants.{Done, Refused, ReadFault, WriteFault, TooManyParts, MaskTooLong, Memory}
use Rattle.jfr_outside.specs.World.{added}
use Rattle.jfr_plan.specs.Outcomes.{Unchanged, Rises}

-- These bytes were added to the sink, if its bytes are known.
abbrev pub Grew : List ℕ → Option (List ℕ) → Option (List ℕ) → Type 0
Grew bytes before now = now ≡ option_map (added bytes) before

-- Of all these texts the first have been written, the next are in the page, and the rest are still to come.
pub record IsGathered (all : List (List ℕ)) (before now : Option (List ℕ)) (gathered : List ℕ) (rest : List (List ℕ)) : Type 0 where
  pub written : List (List ℕ)
  pub waiting : List (List ℕ)
  pub parts : all ≡ written ++ (waiting ++ rest)
  pub holds : Grew (concat written) before now
  pub gathers : gathered ≡ concat waiting

-- The first of the texts have been written, and a prefix of the next.
pub record TearsText (all : List (List ℕ)) (before now : Option (List ℕ)) : Type 0 where
  pub first : List (List ℕ)
  pub torn : List ℕ
  pub rest : List (List ℕ)
  pub bytes : ℕ
  pub parts : all ≡ first ++ torn ∷ rest
  pub holds : Grew (concat first ++ take bytes torn) before now

-- The first of the texts have been written.
pub record WritesSome (all : List (List ℕ)) (before now : Option (List ℕ)) : Type 0 where
  pub first : List (List ℕ)
  pub rest : List (List ℕ)
  pub parts : all ≡ first ++ rest
  pub holds : Grew (concat first) before now

-- What has been written after a call that writes these texts, for each result: all of them, or some and
-- perhaps a prefix of one.
abbrev pub TextLeaves : List (List ℕ) → Result (Unit {0}) Ending → Option (List ℕ) → Option (List ℕ) → Type 0
TextLeaves all (Ok x) before now = Grew (concat all) before now
TextLeaves all (Err WriteFault) before now = TearsText all before now
TextLeaves all (Err Memory) before now = WritesSome all before now
TextLeaves all (Err Done) before now = ⊥
TextLeaves all (Err (Refused r)) before now = ⊥
TextLeaves all (Err ReadFault) before now = ⊥
TextLeaves all (Err TooManyParts) before now = ⊥
TextLeaves all (Err (MaskTooLong n)) before now = ⊥

-- The sink's count of faults after such a call, for each result.
abbrev pub TextCounted : Result (Unit {0}) Ending → ℕ → ℕ → Type 0
TextCounted (Ok x) before now = Unchanged before now
TextCounted (Err WriteFault) before now = Rises before now
TextCounted (Err Memory) before now = Unchanged before now
TextCounted (Err Done) before now = ⊥
TextCounted (Err (Refused r)) before now = ⊥
TextCounted (Err ReadFault) before now = ⊥
TextCounted (Err TooManyParts) before now = ⊥
TextCounted (Err (MaskTooLong n)) before now = ⊥

-- What has been written and collected after a call that adds texts to the page, for each result: the rest is
-- still to come, or the command has ended.
abbrev pub PageLeaves : List (List ℕ) → Option (List ℕ) → Result (Unit {0}) Ending → List ℕ → List (List ℕ) → Option (List ℕ) → Type 0
PageLeaves all before (Ok x) gathered rest now = IsGathered all before now gathered rest
PageLeaves all before (Err e) gathered rest now = TextLeaves all (Err e) before now
