-- The words of leaves: which bytes a word spells.
use Rattle.std.specs.Prelude.{◌≡◌, ⊤, ℕ, ◌+◌, ◌-◌, ◌*◌, ◌^◌, Bool, true, false, ◌&&◌, ◌||◌, not, ◌==◌, nat_le, List, [], ◌∷◌, ◌++◌, length, Option, Some, None, option_map, option_and_then, if◌then◌else◌, codes}
use Rattle.std.specs.Option.{option_to_list}
use Rattle.std.specs.Str.{bytes_eq}
use Rattle.jfr_base.specs.Decimal.{below, decimal_number}
use Rattle.jfr_base.specs.Integer.{spell}
use Rattle.jfr_text.specs.Strings.{Content, Null, Empty, Key, Utf8, Units, Latin}
use Rattle.jfr_layout.specs.declared.kind.Kind.{Kind}
use Rattle.jfr_layout.specs.declared.kind.Kind.TheVariants as kinds
use Rattle.jfr_value.specs.declared.leaf.LeafKind.{LeafKind}
use Rattle.jfr_value.specs.declared.leaf.LeafKind.TheVariants as leaf_kinds
use Rattle.jfr_value.specs.Leaves.{LeafAt}
use Rattle.jfr_meta.specs.Attributes.{id_of}
use Rattle.jfr_build.specs.declared.quoted.Quoted.{Quoted}
use Rattle.jfr_build.specs.declared.quoted.Quoted.TheVariants.{Open, Escape, FirstZero, SecondZero, High, Low, Closed}

-- `-n`, in two's complement, for a kind of which `half` values are negative.
abbrev pub negated : ℕ → ℕ → ℕ
negated half n = if n == 0 then 0 else 2 * half - n

-- The number from `-half` to `half - 1` that a word spells, in two's complement.
abbrev pub signed_of : ℕ → List ℕ → Option ℕ
signed_of half [] = None
signed_of half (c ∷ cs) =
    if c == 45 then option_map (negated half) (option_and_then (below (half + 1)) (decimal_number cs))
    else option_and_then (below half) (decimal_number (c ∷ cs))

-- The digits of a number, after its `-`, if it has one.
abbrev pub digits_of : List ℕ → List ℕ
digits_of [] = []
digits_of (c ∷ cs) = if c == 45 then cs else c ∷ cs

-- A number, as it is spelled: one to nineteen digits, optionally after `-`.
abbrev pub number_of : List ℕ → Option (List ℕ)
number_of word = option_map (λ n. word) (decimal_number (digits_of word))

-- The value of a hexadecimal digit, in lower case.
abbrev pub hex_digit : ℕ → Option ℕ
hex_digit c = if nat_le 48 c && nat_le c 57 then Some (c - 48) else if nat_le 97 c && nat_le c 102 then Some (c - 87) else None

-- The byte of two digits.
abbrev pub hex_byte : ℕ → ℕ → Option ℕ
hex_byte c d = option_and_then (λ a. option_map (λ b. 16 * a + b) (hex_digit d)) (hex_digit c)

-- This byte followed by the others, if none of them is missing.
abbrev pub byte_before : Option ℕ → Option (List ℕ) → Option (List ℕ)
byte_before None bytes = None
byte_before (Some b) bytes = option_map (λ bs. b ∷ bs) bytes

-- Bytes, two digits each.
abbrev pub hex_bytes : List ℕ → Option (List ℕ)
hex_bytes [] = Some []
hex_bytes (c ∷ []) = None
hex_bytes (c ∷ d ∷ cs) = byte_before (hex_byte c d) (hex_bytes cs)

-- This many bytes, after 0x.
abbrev pub hex_of : ℕ → List ℕ → Option (List ℕ)
hex_of n [] = None
hex_of n (c ∷ []) = None
hex_of n (c ∷ d ∷ cs) = if (c == 48) && (d == 120) && (length cs == 2 * n) then hex_bytes cs else None

-- The byte of a character that is written by its number: a space, those below it, and U+007F.
abbrev pub is_coded : ℕ → Bool
is_coded c = nat_le c 32 || (c == 127)

-- A byte that is written as itself between quotes.
abbrev pub is_plain : ℕ → Bool
is_plain c = not (is_coded c || ((c == 34) || (c == 92)))

-- The state in which a quoted text goes on, and the byte of the text, if one is complete.
abbrev pub Onward : Type 0
Onward = Option (Quoted × Option ℕ)

-- The step at the character after a backslash.
abbrev pub escaped_by : ℕ → Onward
escaped_by c = if (c == 34) || (c == 92) then Some (Open, Some c) else if c == 117 then Some (FirstZero, None) else None

-- The step at a number's third digit.
abbrev pub high_by : Option ℕ → Onward
high_by None = None
high_by (Some digit) = Some (Low digit, None)

-- The step at a number's last digit, given the value of the third one.
abbrev pub low_by : ℕ → Option ℕ → Onward
low_by high None = None
low_by high (Some digit) = if is_coded (16 * high + digit) then Some (Open, Some (16 * high + digit)) else None

-- One byte of a quoted text, in this state.
abbrev pub quoted_step : Quoted → ℕ → Onward
quoted_step Open c = if c == 34 then Some (Closed, None) else if c == 92 then Some (Escape, None) else if is_plain c then Some (Open, Some c) else None
quoted_step Escape c = escaped_by c
quoted_step FirstZero c = if c == 48 then Some (SecondZero, None) else None
quoted_step SecondZero c = if c == 48 then Some (High, None) else None
quoted_step High c = high_by (hex_digit c)
quoted_step (Low high) c = low_by high (hex_digit c)
quoted_step Closed c = None

-- Whether the second quote, which ends a quoted text, was read.
abbrev pub is_closed : Quoted → Bool
is_closed Closed = true
is_closed Open = false
is_closed Escape = false
is_closed FirstZero = false
is_closed SecondZero = false
is_closed High = false
is_closed (Low high) = false

-- The text that a step gives, followed by the text from the next state on.
abbrev pub go_on : Onward → (Quoted → Option (List ℕ)) → Option (List ℕ)
go_on None next = None
go_on (Some o) next = option_map (λ text. option_to_list o.1 ++ text) (next o.0)

-- The rest of a quoted text, read from this state on.
abbrev pub quoted_from : Quoted → List ℕ → Option (List ℕ)
quoted_from state [] = if is_closed state then Some [] else None
quoted_from state (c ∷ cs) = go_on (quoted_step state c) (λ next. quoted_from next cs)

-- The text of a quoted word, as its bytes.
abbrev pub unquoted : List ℕ → Option (List ℕ)
unquoted [] = None
unquoted (c ∷ cs) = if c == 34 then quoted_from Open cs else None

-- The id after a mark.
abbrev pub id_after : ℕ → List ℕ → Option ℕ
id_after mark [] = None
id_after mark (c ∷ cs) = if c == mark then id_of cs else None

-- A text as a string.
abbrev pub content_of : List ℕ → Content
content_of [] = Empty
content_of (c ∷ cs) = Utf8 (c ∷ cs)

-- The key, if there is one; otherwise the text.
abbrev pub or_text : Option ℕ → Option Content → Option Content
or_text (Some key) text = Some (Key key)
or_text None text = text

-- The string of a word: null, a key, or a text.
abbrev pub string_of : List ℕ → Option Content
string_of word = if bytes_eq word (codes "null") then Some Null else or_text (id_after 35 word) (option_map content_of (unquoted word))

-- The bytes of a string that a word can give.
abbrev pub spelled_content : Content → List ℕ
spelled_content Null = 0 ∷ []
spelled_content Empty = 1 ∷ []
spelled_content (Key key) = 2 ∷ spell key
spelled_content (Utf8 bytes) = 3 ∷ (spell (length bytes) ++ bytes)
spelled_content (Units units) = []
spelled_content (Latin bytes) = []

-- A truth value, as a byte.
abbrev pub truth_of : List ℕ → Option (List ℕ)
truth_of word = if bytes_eq word (codes "true") then Some (1 ∷ []) else if bytes_eq word (codes "false") then Some (0 ∷ []) else None

-- The bytes of the value of a base name.
abbrev pub base_of : Kind → List ℕ → Option (List ℕ)
base_of kinds.Boolean word = truth_of word
base_of kinds.Byte word = option_map (λ n. n ∷ []) (signed_of (2 ^ 7) word)
base_of kinds.Char word = option_map spell (option_and_then (below (2 ^ 16)) (decimal_number word))
base_of kinds.Short word = option_map spell (signed_of (2 ^ 15) word)
base_of kinds.Int word = option_map spell (signed_of (2 ^ 31) word)
base_of kinds.Long word = option_map spell (signed_of (2 ^ 63) word)
base_of kinds.Float word = hex_of 4 word
base_of kinds.Double word = hex_of 8 word
base_of kinds.Text word = option_map spelled_content (string_of word)
base_of kinds.Composite word = None

-- The word is that of a leaf of this kind with these bytes.
abbrev pub IsWordOf : List ℕ → LeafKind → List ℕ → Type 0
IsWordOf word (leaf_kinds.Key key) spelled = (id_after 35 word ≡ Some key) × (spelled ≡ spell key)
IsWordOf word (leaf_kinds.Count n) spelled = (id_after 91 word ≡ Some n) × (spelled ≡ spell n)
IsWordOf word (leaf_kinds.Base kind) spelled = base_of kind word ≡ Some spelled

-- The words are those of the leaves, one for each, in order.
abbrev pub AreWordsOf : List (List ℕ) → List LeafAt → Type 0
AreWordsOf [] [] = ⊤
AreWordsOf (w ∷ ws) (l ∷ ls) = IsWordOf w l.kind l.spelled × AreWordsOf ws ls
AreWordsOf [] (l ∷ ls) = ⊥
AreWordsOf (w ∷ ws) [] = ⊥
