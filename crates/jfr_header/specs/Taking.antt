-- How bytes are read from the open input.
use Rattle.std.specs.Prelude.{◌≡◌, ℕ, ◌≤◌, List, ◌++◌, length, Option, option_map, IfSome}
use Rattle.jfr_outside.specs.World.{World, State, IfKnown}
use Rattle.jfr_header.specs.Fronts.{reach}

-- The bytes in a buffer, followed by those left of the open input.
abbrev pub ahead : List ℕ → World → Option (List ℕ)
ahead bytes w = option_map (λ left. bytes ++ left) w.input

-- Reading from the input, and nothing else, changed the bytes in a buffer from old to new.
pub record Moved (old new : List ℕ) (w v : World) : Type 0 where
  pub files : v.files ≡ w.files
  pub output : v.output ≡ w.output
  pub kept : ahead new v ≡ ahead old w

-- Bytes were read after those in the buffer, up to `until` in all; the buffer may have lost them since.
abbrev pub MovedWithin : List ℕ → ℕ → World → World → Type 0
MovedWithin old until w v = (new : List ℕ) × Moved old new w v × (length new ≤ until)

-- These bytes were read from the open input, and nothing else changed.
pub record Took (bytes : List ℕ) (w v : World) : Type 0 where
  pub files : v.files ≡ w.files
  pub output : v.output ≡ w.output
  pub input : ahead bytes v ≡ w.input

-- Bytes were read from the input, and their number is related by Fits to the length of the header at the
-- front and its chunk.
abbrev pub Takes : (ℕ → ℕ → Type 0) → World → World → Type 0
Takes Fits w v = (bytes : List ℕ) × Took bytes w v × IfSome w.input (λ rest. Fits (length bytes) (reach rest))

-- A claim about the world of a place before and after, if contracts see it.
abbrev pub IfContentsKnown : State → State → (World → World → Type 0) → Type 0
IfContentsKnown old new Claim = IfKnown old.contents new.contents Claim

-- A claim about what is left of the open input, if contracts see it.
abbrev pub IfUnread : State → (List ℕ → Type 0) → Type 0
IfUnread place Claim = IfSome place.contents (λ w. IfSome w.input Claim)

-- The files and the output are unchanged.
abbrev pub IsKept : World → World → Type 0
IsKept w v = (v.files ≡ w.files) × (v.output ≡ w.output)
