-- How a recording is cut: its chunks, and its end or a flaw of the next one.
use Rattle.std.specs.Prelude.{◌≡◌, ℕ, zero, suc, ◌+◌, ◌-◌, Bool, false, List, [], ◌∷◌, ◌++◌, length, drop, Option, Some, None, nat_le, if◌then◌else◌}
use Rattle.jfr_base.specs.declared.flaw.Flaw.{Flaw}
use Rattle.jfr_header.specs.Fronts.{Front, Bad, End, Chunk, front}

-- The chunks of a recording, and the flaw of what follows them, if they don't end it.
pub record Cuts : Type 0 where
  pub chunks : List (List ℕ)
  pub flaw : Option Flaw

-- A chunk followed by later ones.
abbrev pub more : List ℕ → Cuts → Cuts
more c later = record { chunks = c ∷ later.chunks; flaw = later.flaw }

-- How bytes are cut, by what is at their front and by how the bytes after its chunk are cut.
abbrev pub cut_by : Front → (List ℕ → Cuts) → Cuts
cut_by (Bad f) next = record { chunks = []; flaw = Some f }
cut_by End next = record { chunks = []; flaw = None }
cut_by (Chunk c) next = more c (next c)

-- How bytes are cut, for at most n chunks.
unfoldable pub cut_within : ℕ → List ℕ → ℕ → Bool → Cuts
cut_within zero rest start first = record { chunks = []; flaw = None }
cut_within (suc n) rest start first = cut_by (front rest start first) (λ c. cut_within n (drop (length c) rest) (start + length c) false)

-- How the bytes from a start are cut. Each chunk takes at least a byte, so a bound of one more than their
-- length is enough.
unfoldable pub cut : List ℕ → ℕ → Bool → Cuts
cut rest start first = cut_within (suc (length rest)) rest start first

-- The chunks come one after another from the front, and then the end or this flaw.
abbrev pub AreCut : List (List ℕ) → Option Flaw → List ℕ → ℕ → Bool → Type 0
AreCut [] None rest start first = front rest start first ≡ End
AreCut [] (Some f) rest start first = front rest start first ≡ Bad f
AreCut (c ∷ cs) flaw rest start first = (front rest start first ≡ Chunk c) × AreCut cs flaw (drop (length c) rest) (start + length c) false

-- The bytes of chunks, one after another.
abbrev pub joined : List (List ℕ) → List ℕ
joined [] = []
joined (c ∷ cs) = c ++ joined cs

-- The number of chunks that the first n bytes hold whole.
abbrev pub whole_in : ℕ → List (List ℕ) → ℕ
whole_in n [] = 0
whole_in n (c ∷ cs) = if nat_le (length c) n then whole_in (n - length c) cs + 1 else 0
