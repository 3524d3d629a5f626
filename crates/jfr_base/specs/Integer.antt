-- A compressed integer: little-endian groups of seven bits, a ninth byte with eight.
use Rattle.std.specs.Prelude.{◌≡◌, ℕ, zero, suc, ◌+◌, ◌*◌, ◌%◌, ◌/◌, ◌^◌, ◌<◌, ◌≤◌, ◌⊎◌, List, [], ◌∷◌, length, slice_range, nat_lt, if◌then◌else◌}

-- The bytes of an integer, at most k of which carry seven bits. Each byte that isn't the last has its top bit
-- set; a byte that comes after k of them is the last, and carries eight bits.
abbrev pub IsSpellingWithin : ℕ → List ℕ → Type 0
IsSpellingWithin k [] = ⊥
IsSpellingWithin zero (b ∷ bs) = bs ≡ []
IsSpellingWithin (suc k) (b ∷ []) = b < 128
IsSpellingWithin (suc k) (b ∷ c ∷ bs) = (128 ≤ b) × IsSpellingWithin k (c ∷ bs)

-- The value of these bytes: the sum of their groups, each worth 128 times the one before.
abbrev pub worth_within : ℕ → List ℕ → ℕ
worth_within k [] = 0
worth_within zero (b ∷ bs) = b
worth_within (suc k) (b ∷ bs) = b % 128 + 128 * worth_within k bs

-- These bytes are exactly one compressed integer, with this value.
pub record Spells (bytes : List ℕ) (value : ℕ) : Type 0 where
  pub form : IsSpellingWithin 8 bytes
  pub worth : value ≡ worth_within 8 bytes

-- The bytes of x from p up to q are the compressed integer with this value.
pub record IntAt (x : List ℕ) (p q value : ℕ) : Type 0 where
  pub order : p ≤ q
  pub within : q ≤ length x
  pub spelled : Spells (slice_range x p q) value

-- The shortest spelling of a value, at most k bytes of which carry seven bits.
abbrev pub spell_within : ℕ → ℕ → List ℕ
spell_within zero v = v ∷ []
spell_within (suc k) v = if nat_lt v 128 then v ∷ [] else (v % 128 + 128) ∷ spell_within k (v / 128)

-- The shortest spelling of a value.
unfoldable pub spell : ℕ → List ℕ
spell v = spell_within 8 v

-- The spelling of a value in n bytes, for n of at least 1.
abbrev pub spell_as : ℕ → ℕ → List ℕ
spell_as zero v = []
spell_as (suc zero) v = v ∷ []
spell_as (suc (suc n)) v = (v % 128 + 128) ∷ spell_as (suc n) (v / 128)

-- A value below 2^64 fits in `count` bytes: it needs at most seven bits a byte, or there are nine bytes.
abbrev pub FitsIn : ℕ → ℕ → Type 0
FitsIn value count = (value < 2 ^ (7 * count)) ⊎ (count ≡ 9)

-- The spelling of a value in n bytes, padded if it needs fewer.
unfoldable pub spell_in : ℕ → ℕ → List ℕ
spell_in n v = spell_as n v
