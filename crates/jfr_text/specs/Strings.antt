-- How a string is spelled, as a kind byte and what follows it, and which text it has.
use Rattle.std.specs.Prelude.{◌≡◌, ℕ, ◌%◌, ◌^◌, Bool, List, [], ◌∷◌, ◌++◌, length, map, Option, Some, None, ◌==◌, nat_lt, if◌then◌else◌, false, ⊤}
use Rattle.std.specs.Char.Utf16.{utf16_lossy_chars}
use Rattle.bstr.specs.Utf8.{lossy_chars}
use Rattle.jfr_base.specs.Integer.{Spells}
use Rattle.jfr_base.specs.Formats.{Format, Done, Int, Byte, Run, times, ◌>>=◌, integer, unchecked}
use Rattle.jfr_base.specs.declared.reason.Reason.{Reason}
use Rattle.jfr_base.specs.declared.reason.Reason.TheVariants.{StringKind}

-- The content of a string: nothing, no characters, a key into the pool of its class, or what spells its text:
-- bytes that should be UTF-8, integers whose low 16 bits are a UTF-16 unit, or bytes that are each a
-- character.
pub data Content : Type 0 where
  Null : Content
  Empty : Content
  Key : (key : ℕ) → Content
  Utf8 : (bytes : List ℕ) → Content
  Units : (units : List ℕ) → Content
  Latin : (bytes : List ℕ) → Content

-- The bytes are the spellings of the integers, one after another.
abbrev pub SpellAll : List ℕ → List ℕ → Type 0
SpellAll bytes [] = bytes ≡ []
SpellAll bytes (v ∷ vs) = (front rest : List ℕ) × (bytes ≡ front ++ rest) × Spells front v × SpellAll rest vs

-- The bytes are the spelling of a count, followed by what it counts.
abbrev pub Counted : List ℕ → ℕ → (List ℕ → Type 0) → Type 0
Counted bytes n P = (front rest : List ℕ) × (bytes ≡ front ++ rest) × Spells front n × P rest

-- The kind byte determines what follows it: nothing for 0 and 1, a key for 2, a length and this many bytes
-- for 3 and 5, a count and this many integers for 4.
abbrev pub IsBody : Content → ℕ → List ℕ → Type 0
IsBody Null kind rest = (kind ≡ 0) × (rest ≡ [])
IsBody Empty kind rest = (kind ≡ 1) × (rest ≡ [])
IsBody (Key key) kind rest = (kind ≡ 2) × Spells rest key
IsBody (Utf8 bytes) kind rest = (kind ≡ 3) × Counted rest (length bytes) (λ r. r ≡ bytes)
IsBody (Units units) kind rest = (kind ≡ 4) × Counted rest (length units) (λ r. SpellAll r units)
IsBody (Latin bytes) kind rest = (kind ≡ 5) × Counted rest (length bytes) (λ r. r ≡ bytes)

-- These bytes are exactly one string with this content: a kind byte, and what follows it.
abbrev pub IsString : List ℕ → Content → Type 0
IsString [] content = ⊥
IsString (kind ∷ rest) content = IsBody content kind rest

-- The low 16 bits of each integer.
abbrev pub low_units : List ℕ → List ℕ
low_units integers = map (λ v. v % 2 ^ 16) integers

-- The null string and a key have no text, and the empty string has no characters. Bytes that aren't UTF-8
-- read as U+FFFD, and so does a surrogate without a partner. A byte of Latin-1 is the code of a character.
abbrev pub text_of : Content → Option (List ℕ)
text_of Null = None
text_of Empty = Some []
text_of (Key key) = None
text_of (Utf8 bytes) = Some (lossy_chars bytes)
text_of (Units integers) = Some (utf16_lossy_chars (low_units integers))
text_of (Latin bytes) = Some bytes

-- A kind above 5 is refused, and so is a key if keys aren't allowed.
abbrev pub kind_fault : Bool → ℕ → Option Reason
kind_fault keyed kind = if nat_lt 5 kind then Some StringKind else if keyed then None else if kind == 2 then Some StringKind else None

-- The format of a length and this many bytes.
abbrev pub counted_bytes : Format (List ℕ)
counted_bytes = Int unchecked (λ n spelled. Run n (λ bytes. Done bytes))

-- The format of a count and this many integers.
abbrev pub counted_integers : Format (List ℕ)
counted_integers = Int unchecked (λ n spelled. times n integer)

-- The content of a string that is only a kind byte, 0 or 1.
abbrev pub bare_content : ℕ → Content
bare_content kind = if kind == 0 then Null else Empty

-- The format of a key, after its kind byte.
abbrev pub key_format : Format Content
key_format = integer >>= λ key. Done (Key key)

-- The format of what follows a kind byte.
abbrev pub after_kind : ℕ → Format Content
after_kind kind =
    if kind == 0 then Done Null
    else if kind == 1 then Done Empty
    else if kind == 2 then key_format
    else if kind == 3 then (counted_bytes >>= λ bytes. Done (Utf8 bytes))
    else if kind == 4 then (counted_integers >>= λ units. Done (Units units))
    else (counted_bytes >>= λ bytes. Done (Latin bytes))

-- The format of a string, with keys or without.
unfoldable pub string_format : Bool → Format Content
string_format keyed = Byte (kind_fault keyed) after_kind

-- The string isn't a key, unless keys are allowed.
abbrev pub IsAllowed : Bool → Content → Type 0
IsAllowed false (Key key) = ⊥
IsAllowed keyed content = ⊤
