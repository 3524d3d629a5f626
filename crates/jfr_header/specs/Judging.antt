-- What the first bytes that are left of a recording determine.
use Rattle.std.specs.Prelude.{◌≡◌, ℕ, ◌<◌, ◌^◌, Bool, true, not, List, [], ◌++◌, length, None}
use Rattle.jfr_header.specs.Fronts as fronts
use Rattle.jfr_header.specs.Fronts.{front, header_flaw, size_of}
use Rattle.jfr_header.specs.Nexts.{is_header}
use Rattle.jfr_header.specs.declared.judge.NextChunk.{NextChunk}
use Rattle.jfr_header.specs.declared.judge.NextChunk.TheVariants.{End, Bad, Sized}

-- The bytes that are left after the first ones: none if the first ones are fewer than 68.
abbrev pub Follows : List ℕ → List ℕ → Type 0
Follows bytes left = length bytes < 68 → left ≡ []

-- What is known of the first bytes that are left, which start at this byte of the recording, if this comes next.
abbrev pub IsJudged : List ℕ → ℕ → Bool → NextChunk → Type 0
IsJudged bytes start given End = (given ≡ true) × (bytes ≡ [])
IsJudged bytes start given (Bad f) =
    ((left : List ℕ) → Follows bytes left → front (bytes ++ left) start (not given) ≡ fronts.Bad f)
    × (is_header f.reason ≡ true → length bytes ≡ 68)
IsJudged bytes start given (Sized size) = (start < 2 ^ 40) × (length bytes ≡ 68) × (header_flaw bytes ≡ None) × (size ≡ size_of bytes)
