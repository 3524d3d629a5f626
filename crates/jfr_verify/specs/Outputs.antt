-- How the chunks of an output are kept and compared.
use Rattle.std.specs.Prelude.{◌≡◌, ℕ, ◌++◌, List, [], ◌∷◌, Vec, Option, None, Result, Ok, Err, ⊤, IsSomeAnd}
use Rattle.std.specs.List.{AllByRecursion}
use Rattle.std.specs.declared.alloc.Global.{Global}
use Rattle.jfr_outside.specs.World.{World, file}
use Rattle.jfr_header.specs.Cutters.{Cutter}
use Rattle.jfr_header.specs.Fronts.{Whole}
use Rattle.jfr_header.specs.Taking.{IsKept}
use Rattle.jfr_chunk.specs.Parts.{Parts}
use Rattle.jfr_chunk.specs.Refusal.{read_parts}
use Rattle.jfr_verify.specs.Recordings.{recording_of, HasUnread}
use Rattle.jfr_verify.specs.declared.doubt.Doubt.TheVariants.{OutRefused}
use Rattle.jfr_verify.specs.declared.verdict.Verdict.{Verdict}
use Rattle.jfr_verify.specs.declared.verdict.Verdict.TheVariants.{Doubted, ReadFault, Memory}

-- All these are the bytes of whole chunks.
abbrev pub AllWhole : List (Vec ℕ Global) → Type 0
AllWhole bs = AllByRecursion (λ b. Whole b.items) bs

-- The bytes are those of chunks with these parts, one for each.
abbrev pub AreOutputs : List (Vec ℕ Global) → List Parts → Type 0
AreOutputs [] [] = ⊤
AreOutputs [] (q ∷ qs) = ⊥
AreOutputs (b ∷ bs) [] = ⊥
AreOutputs (b ∷ bs) (q ∷ qs) = (read_parts b.items ≡ Ok q) × AreOutputs bs qs

-- These bytes of a chunk were added.
pub record IsAdded (bytes : List ℕ) (old new : List (Vec ℕ Global)) : Type 0 where
  pub chunk : Vec ℕ Global
  pub is : chunk.items ≡ bytes
  pub items : new ≡ old ++ chunk ∷ []
  pub parts : Parts
  pub read : read_parts bytes ≡ Ok parts

-- A file was opened, and a cutter is at its start; or it could not be opened.
abbrev pub OpenedIn : List ℕ → Result Cutter Verdict → World → World → Type 0
OpenedIn name (Ok c) w v = IsSomeAnd (file w name) (λ x. HasUnread c (λ k. recording_of x ≡ k) w v)
OpenedIn name (Err ReadFault) w v = IsKept w v
OpenedIn name (Err Memory) w v = IsKept w v
OpenedIn name (Err e) w v = ⊥

-- Why the output wasn't read to its end: a chunk is refused, a read failed, or memory ran out.
abbrev pub IsOutputFault : Verdict → Option (List ℕ) → Type 0
IsOutputFault (Doubted chunk OutRefused) file = IsSomeAnd file (λ x. IsSomeAnd (recording_of x).refusal (λ r. r.chunk ≡ chunk))
IsOutputFault ReadFault file = ⊤
IsOutputFault Memory file = ⊤
IsOutputFault _ file = ⊥

-- The chunks of the output, if it was read to its end; otherwise why it wasn't.
abbrev pub OutputRead : List ℕ → Result (Vec (Vec ℕ Global) Global) Verdict → World → World → Type 0
OutputRead name (Ok bs) w v = IsKept w v × IsSomeAnd (file w name) (λ x. ((recording_of x).refusal ≡ None) × AreOutputs bs.items (recording_of x).parts)
OutputRead name (Err e) w v = IsKept w v × IsOutputFault e (file w name)
