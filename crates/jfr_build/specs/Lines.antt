-- What a line of a text means, and the lines of a whole text.
use Rattle.std.specs.Prelude.{◌≡◌, ⊤, ℕ, ◌+◌, ◌==◌, ◌&&◌, not, Bool, true, false, List, [], ◌∷◌, ◌++◌, length, Option, Some, None, Result, Ok, Err, option_map, option_and_then, if◌then◌else◌, codes}
use Rattle.std.specs.List.{list_any}
use Rattle.std.specs.Str.{bytes_eq, chars, is_utf8}
use Rattle.jfr_meta.specs.Attributes.{id_of, not_empty}
use Rattle.jfr_build.specs.declared.line.BuildLine.{BuildLine}
use Rattle.jfr_build.specs.declared.line.BuildLine.TheVariants.{Class, Field, Constant, Record, Region}
use Rattle.jfr_build.specs.declared.lines.NumberedLine.{NumberedLine}
use Rattle.jfr_build.specs.declared.reason.BuildFault.{BuildFault}
use Rattle.jfr_build.specs.declared.reason.BuildFault.TheVariants.{Refused, Memory}
use Rattle.jfr_build.specs.declared.reason.BuildReason.TheVariants.{LineBad}
use Rattle.jfr_build.specs.LeafWords.{number_of}
use Rattle.jfr_build.specs.Pieces.{lines_of, words_of}

-- Reads the first word, and goes on with its meaning and the words after it.
abbrev pub with_word : {A B : Type 0} → (List ℕ → Option A) → (A → List (List ℕ) → Option B) → List (List ℕ) → Option B
with_word says next [] = None
with_word says next (w ∷ ws) = option_and_then (λ a. next a ws) (says w)

-- This, if no word is left.
abbrev pub at_end : {A : Type 0} → A → List (List ℕ) → Option A
at_end a [] = Some a
at_end a (w ∷ ws) = None

-- A name is a word that isn't empty, as its characters.
abbrev pub name_of : List ℕ → Option (List ℕ)
name_of word = option_map chars (not_empty word)

-- The constant mark and the array mark.
abbrev pub marks_of : List ℕ → Option (Bool × Bool)
marks_of word =
    if bytes_eq word (codes "-") then Some (false, false)
    else if bytes_eq word (codes "c") then Some (true, false)
    else if bytes_eq word (codes "a") then Some (false, true)
    else if bytes_eq word (codes "ca") then Some (true, true)
    else None

-- A class: its id and its name.
abbrev pub class_line : Bool → List (List ℕ) → Option BuildLine
class_line event ws = with_word id_of (λ id us. with_word name_of (λ name vs. at_end (Class id name event) vs) us) ws

-- A field: its name, the id of its class and its marks.
abbrev pub field_line : List (List ℕ) → Option BuildLine
field_line ws = with_word name_of (λ name us. with_word id_of (λ id vs. with_word marks_of (λ marks rest. at_end (Field name (record { class = id; constant = marks.0; array = marks.1 })) rest) vs) us)
    ws

-- A constant: the id of its class, its key, and the words of its leaves.
abbrev pub constant_line : List (List ℕ) → Option BuildLine
constant_line ws = with_word id_of (λ id us. with_word id_of (λ key leaves. Some (Constant id key leaves)) us) ws

-- An event: the id of its class, and the words of its leaves.
abbrev pub record_line : List (List ℕ) → Option BuildLine
record_line ws = with_word id_of (λ id leaves. Some (Record id leaves)) ws

-- The region: its locale, and its offset from UTC, a number of milliseconds.
abbrev pub region_line : List (List ℕ) → Option BuildLine
region_line ws = with_word name_of (λ locale us. with_word number_of (λ offset vs. at_end (Region (record { locale = locale; offset = offset })) vs) us) ws

-- The first word determines what the line is.
abbrev pub line_by : List ℕ → List (List ℕ) → Option BuildLine
line_by word ws =
    if bytes_eq word (codes "class") then class_line false ws
    else if bytes_eq word (codes "event") then class_line true ws
    else if bytes_eq word (codes "field") then field_line ws
    else if bytes_eq word (codes "constant") then constant_line ws
    else if bytes_eq word (codes "record") then record_line ws
    else if bytes_eq word (codes "region") then region_line ws
    else None

-- The line of these words.
abbrev pub line_in : List (List ℕ) → Option BuildLine
line_in [] = None
line_in (w ∷ ws) = line_by w ws

-- What a line means, with the words of its leaves still unread; none if it isn't UTF-8 or has no known form.
unfoldable pub line_of : List ℕ → Option BuildLine
line_of bytes = if is_utf8 bytes then line_in (words_of bytes) else None

-- The line is a class.
abbrev pub is_class : BuildLine → Bool
is_class (Class id name event) = true
is_class (Field name shape) = false
is_class (Constant class key words) = false
is_class (Record class words) = false
is_class (Region region) = false

-- The line has a value: it is a constant or an event.
abbrev pub has_value : BuildLine → Bool
has_value (Class id name event) = false
has_value (Field name shape) = false
has_value (Constant class key words) = true
has_value (Record class words) = true
has_value (Region region) = false

-- The line is a region.
abbrev pub is_region : BuildLine → Bool
is_region (Class id name event) = false
is_region (Field name shape) = false
is_region (Constant class key words) = false
is_region (Record class words) = false
is_region (Region region) = true

-- Some of these lines is a class.
abbrev pub any_class : List NumberedLine → Bool
any_class ls = list_any (λ l. is_class l.line) ls

-- Some of these lines has a value.
abbrev pub any_value : List NumberedLine → Bool
any_value ls = list_any (λ l. has_value l.line) ls

-- Some of these lines is a region.
abbrev pub any_region : List NumberedLine → Bool
any_region ls = list_any (λ l. is_region l.line) ls

-- Classes and fields come before the first value, a field comes after a class, and there is one region at most.
abbrev pub is_allowed : List NumberedLine → BuildLine → Bool
is_allowed before (Class id name event) = not (any_value before)
is_allowed before (Field name shape) = any_class before && not (any_value before)
is_allowed before (Constant class key words) = true
is_allowed before (Record class words) = true
is_allowed before (Region region) = not (any_region before)

-- What a line means, if it has a known form and is allowed after those before it.
abbrev pub line_after : List NumberedLine → Option BuildLine → Option BuildLine
line_after before None = None
line_after before (Some line) = if is_allowed before line then Some line else None

-- Goes on with one more line; refused with its number if it is bad.
abbrev pub with_line : ℕ → List NumberedLine → Option BuildLine → (List NumberedLine → Result (List NumberedLine) ℕ) → Result (List NumberedLine) ℕ
with_line n before None next = Err n
with_line n before (Some line) next = next (before ++ record { number = n; line = line } ∷ [])

-- The lines, or the number of the first that is bad, if these came before. Empty lines count, but have
-- no meaning.
abbrev pub read_from : ℕ → List NumberedLine → List (List ℕ) → Result (List NumberedLine) ℕ
read_from n before [] = Ok before
read_from n before (bytes ∷ rest) =
    if length bytes == 0 then read_from (n + 1) before rest
    else with_line n before (line_after before (line_of bytes)) (λ lines. read_from (n + 1) lines rest)

-- The lines of a text that aren't empty, numbered from 1, or the number of the first that is bad.
unfoldable pub read_lines : List ℕ → Result (List NumberedLine) ℕ
read_lines text = read_from 1 [] (lines_of text)

-- The fault is that the line with this number is bad, or memory ran out.
abbrev pub IsBadLine : Result (List NumberedLine) ℕ → BuildFault → Type 0
IsBadLine lines (Refused line reason) = (lines ≡ Err line) × (reason ≡ LineBad)
IsBadLine lines Memory = ⊤
