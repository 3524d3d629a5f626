-- The output of a recording: an output chunk for each chunk before the first that is refused.
use Rattle.std.specs.Prelude.{◌≡◌, ℕ, List, [], ◌∷◌, map, Option, Some, None, true, ⊤}
use Rattle.jfr_base.specs.declared.flaw.Flaw.{Flaw}
use Rattle.jfr_outside.specs.World.{World, file}
use Rattle.jfr_header.specs.Cuts.{cut, joined}
use Rattle.jfr_header.specs.declared.ending.Ending.{Ending}
use Rattle.jfr_header.specs.declared.ending.Ending.TheVariants.{Done, Refused, ReadFault, WriteFault, TooManyParts, MaskTooLong, Memory}

-- These chunks if there is no flaw, else none.
abbrev pub unless_refused : Option Flaw → List (List ℕ) → List (List ℕ)
unless_refused None cs = cs
unless_refused (Some flaw) cs = []

-- The chunks before the first that is refused.
abbrev pub before_refused : (List ℕ → Option Flaw) → List (List ℕ) → List (List ℕ)
before_refused refusal [] = []
before_refused refusal (c ∷ cs) = unless_refused (refusal c) (c ∷ before_refused refusal cs)

-- The bytes y are cut into exactly these chunks, up to the end; without a chunk there are no bytes.
abbrev pub AreChunksOf : List (List ℕ) → List ℕ → Type 0
AreChunksOf [] y = y ≡ []
AreChunksOf (c ∷ cs) y = cut y 0 true ≡ record { chunks = c ∷ cs; flaw = None }

-- These are the outputs of the chunks, one for each, in order. `Is c b` says that b is the output of c.
abbrev pub AreOutputs : (List ℕ → List ℕ → Type 0) → List (List ℕ) → List (List ℕ) → Type 0
AreOutputs Is [] [] = ⊤
AreOutputs Is (c ∷ cs) (b ∷ bs) = Is c b × AreOutputs Is cs bs
AreOutputs Is [] (b ∷ bs) = ⊥
AreOutputs Is (c ∷ cs) [] = ⊥

-- The bytes y are the outputs of the chunks of the recording x before the first that is refused, one after
-- another: a recording of exactly these chunks.
pub record IsOutputOf (refusal : List ℕ → Option Flaw) (Is : List ℕ → List ℕ → Type 0) (x y : List ℕ) : Type 0 where
  pub results : List (List ℕ)
  pub outputs : AreOutputs Is (before_refused refusal (cut x 0 true).chunks) results
  pub bytes : y ≡ joined results
  pub chunks : AreChunksOf results y

-- The output of a recording, given what each chunk becomes.
abbrev pub recording_output : (List ℕ → Option Flaw) → (List ℕ → List ℕ) → List ℕ → List ℕ
recording_output refusal becomes x = joined (map becomes (before_refused refusal (cut x 0 true).chunks))

-- The output file has the output of the recording in the input file.
pub record HasOutput (refusal : List ℕ → Option Flaw) (Is : List ℕ → List ℕ → Type 0) (input output : List ℕ) (w v : World) : Type 0 where
  pub recording : List ℕ
  pub read : file w input ≡ Some recording
  pub written : List ℕ
  pub holds : file v output ≡ Some written
  pub made : IsOutputOf refusal Is recording written

-- The command ended as its plan says: all chunks were handled, or one was refused.
abbrev pub IsByPlan : Ending → Type 0
IsByPlan Done = ⊤
IsByPlan (Refused refusal) = ⊤
IsByPlan ReadFault = ⊥
IsByPlan WriteFault = ⊥
IsByPlan TooManyParts = ⊥
IsByPlan (MaskTooLong n) = ⊥
IsByPlan Memory = ⊥
