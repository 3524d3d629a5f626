-- The attributes of an element, as texts. The first attribute with a key counts.
use Rattle.std.specs.Prelude.{ℕ, zero, suc, ◌+◌, ◌^◌, Bool, true, false, List, [], ◌∷◌, ◌++◌, length, filter, find, get_or, Option, Some, None, option_map, option_and_then, if◌then◌else◌, codes, IsTrue}
use Rattle.std.specs.List.{list_all}
use Rattle.std.specs.Option.{option_map_or, option_to_list}
use Rattle.std.specs.Str.{bytes_eq}
use Rattle.std.specs.Char.{is_ascii}
use Rattle.std.specs.Fmt.{decimal}
use Rattle.jfr_base.specs.Decimal.{below, decimal_number}
use Rattle.jfr_meta.specs.Trees.{Tree, name_of, pairs_of}

-- A word, which is a key or a name of the format's own, has only ASCII characters. So its bytes are its
-- characters.
abbrev pub IsWord : List ℕ → Type 0
IsWord word = IsTrue (list_all is_ascii word)

-- The text of the string with this index; empty if there is no such string.
abbrev pub text_at : List (List ℕ) → ℕ → List ℕ
text_at texts i = get_or texts i []

-- The value of the first attribute with this key.
abbrev pub first_value : List (List ℕ) → List ℕ → List (ℕ × ℕ) → Option (List ℕ)
first_value texts key ps = option_map (λ p. text_at texts p.1) (find (λ p. bytes_eq (text_at texts p.0) key) ps)

-- The text, unless it is empty: an empty value counts as absent.
abbrev pub not_empty : List ℕ → Option (List ℕ)
not_empty [] = None
not_empty (c ∷ cs) = Some (c ∷ cs)

-- The value of the attribute with this key, if there is one and it isn't empty.
abbrev pub attribute : List (List ℕ) → Tree → List ℕ → Option (List ℕ)
attribute texts t key = option_and_then not_empty (first_value texts key (pairs_of t))

-- The elements with this name, in order.
abbrev pub named : List (List ℕ) → List ℕ → List Tree → List Tree
named texts name ts = filter (λ t. bytes_eq (text_at texts (name_of t)) name) ts

-- The id that a text spells with one to nineteen digits, if its value is below 2 ^ 63.
unfoldable pub id_of : List ℕ → Option ℕ
id_of text = option_and_then (below (2 ^ 63)) (decimal_number text)

-- The value of a mark: set or clear according to its text, clear if it is absent, none for any other text.
abbrev pub flag_of : Option (List ℕ) → List ℕ → List ℕ → Option Bool
flag_of None set clear = Some false
flag_of (Some text) set clear = if bytes_eq text set then Some true else if bytes_eq text clear then Some false else None

-- The values numbered from i on, up to the first that is absent.
abbrev pub values_from : (ℕ → Option (List ℕ)) → ℕ → ℕ → List (List ℕ)
values_from value i zero = []
values_from value i (suc n) = option_map_or (λ v. v ∷ values_from value (i + 1) n) (value i) []

-- The key of the value with this number.
abbrev pub value_key : ℕ → List ℕ
value_key i = codes "value-" ++ decimal i

-- The first list, or the other if it is empty.
abbrev pub or_else : List (List ℕ) → List (List ℕ) → List (List ℕ)
or_else [] others = others
or_else (v ∷ vs) others = v ∷ vs

-- The values of an annotation: value-0, value-1 and so on up to the first that is absent; if there are none,
-- value.
abbrev pub values_of : List (List ℕ) → Tree → List (List ℕ)
values_of texts t = or_else (values_from (λ i. attribute texts t (value_key i)) 0 (length (pairs_of t))) (option_to_list (attribute texts t (codes "value")))
