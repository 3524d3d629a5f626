-- A string in the bytes from which it was read.
use Rattle.std.specs.Prelude.{◌≡◌, ℕ, zero, suc, ◌+◌, ◌-◌, ◌<◌, ◌≤◌, List, [], ◌∷◌, length, drop, slice_index, slice_range, Result, Ok, Err}
use Rattle.std.specs.Option.{option_map_or}
use Rattle.jfr_base.specs.declared.flaw.Flaw.{Flaw}
use Rattle.jfr_base.specs.Formats.{Answer, int_at}
use Rattle.jfr_text.specs.declared.span.StringSpan.{StringSpan}
use Rattle.jfr_text.specs.declared.span.StringKind.{StringKind}
use Rattle.jfr_text.specs.declared.span.StringKind.TheVariants as kinds
use Rattle.jfr_text.specs.Strings.{Content, Null, Empty, Key, Utf8, Units, Latin, SpellAll}

-- The values of the first n integers of the bytes, or of all that are there.
unfoldable pub first_integers : ℕ → List ℕ → List ℕ
first_integers zero bytes = []
first_integers (suc n) bytes = option_map_or (λ v. v.value ∷ first_integers n (drop v.end bytes)) (int_at bytes 0 (length bytes)) []

-- Each byte from one offset up to another is below 128, so that it is an integer by itself.
abbrev pub AreShort : List ℕ → ℕ → ℕ → Type 0
AreShort bytes from to = (place : ℕ) → from ≤ place → place < to → slice_index bytes place < 128

-- The bytes from one offset up to another are a string of kind 4 in short integers: its count has one byte,
-- and so has each of its integers.
pub record IsShortUnits (bytes : List ℕ) (at to : ℕ) : Type 0 where
  pub kind : slice_index bytes at ≡ 4
  pub count : slice_index bytes (at + 1) < 128
  pub ends : to ≡ at + 2 + slice_index bytes (at + 1)
  pub short : AreShort bytes (at + 2) to

-- The content of a string of this kind.
abbrev pub content_by : StringKind → StringSpan → Content
content_by kinds.Null span = Null
content_by kinds.Empty span = Empty
content_by kinds.Key span = Key span.key
content_by kinds.Utf8 span = Utf8 span.payload.now
content_by kinds.Units span = Units (first_integers span.count span.payload.now)
content_by kinds.Latin span = Latin span.payload.now

-- The content of the string with this span.
abbrev pub content_of : StringSpan → Content
content_of span = content_by span.kind span

-- The payload is what the count says: this many bytes, or the spellings of this many integers. It is empty if
-- there is no count, and the key is 0 if there is no key.
abbrev pub CountsPayload : StringKind → StringSpan → Type 0
CountsPayload kinds.Null span = (span.payload.now ≡ []) × (span.count ≡ 0) × (span.key ≡ 0)
CountsPayload kinds.Empty span = (span.payload.now ≡ []) × (span.count ≡ 0) × (span.key ≡ 0)
CountsPayload kinds.Key span = (span.payload.now ≡ []) × (span.count ≡ 0)
CountsPayload kinds.Utf8 span = (length span.payload.now ≡ span.count) × (span.key ≡ 0)
CountsPayload kinds.Units span = (integers : List ℕ) × SpellAll span.payload.now integers × (length integers ≡ span.count) × (span.key ≡ 0)
CountsPayload kinds.Latin span = (length span.payload.now ≡ span.count) × (span.key ≡ 0)

-- The span is of the string that starts at an offset of the bytes, and its payload is the last of the
-- string's bytes.
pub record IsSpanAt (bytes : List ℕ) (at : ℕ) (span : StringSpan) : Type 0 where
  pub begins : span.at ≡ at
  pub counted : CountsPayload span.kind span
  pub holds : span.payload.now ≡ slice_range bytes (span.end - length span.payload.now) span.end

-- The answer of reading a string, as an answer of the string format.
abbrev pub answer_of : Result StringSpan Flaw → Answer Content
answer_of (Ok span) = Ok (record { value = content_of span; place = span.end })
answer_of (Err flaw) = Err flaw
