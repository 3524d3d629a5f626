-- The attributes of an element by their keys.
use Rattle.std.specs.Prelude.{◌≡◌, ◌≤◌, ℕ, List, find, length, option_map}
use Rattle.std.specs.Borrow.{Bor}
use Rattle.std.specs.BTreeMap.{BTreeMap}
use Rattle.std.specs.Str.{bytes_eq, encode_utf8_all}
use Rattle.jfr_layout.specs.Names.{value_under}
use Rattle.jfr_meta.specs.Attributes.{text_at}

-- The key is short enough to be looked up: `value-` and a number below 2 ^ 64 take at most 26 bytes.
abbrev pub CanBeAsked : List ℕ → Type 0
CanBeAsked key = length (encode_utf8_all key) ≤ 26

-- The map has, for each key that is short enough, the value of the first attribute with this key.
abbrev pub HasFirst : List (List ℕ) → List (ℕ × ℕ) → BTreeMap (Bor (List ℕ)) ℕ → Type 0
HasFirst texts ps values = (key : List ℕ) → CanBeAsked key → value_under values key ≡ option_map (λ p. p.1) (find (λ p. bytes_eq (text_at texts p.0) key) ps)
