-- A leaf with its new key.
use Rattle.std.specs.Prelude.{ℕ, List, ◌∷◌}
use Rattle.jfr_base.specs.Integer.{spell}
use Rattle.jfr_value.specs.Leaves.{LeafAt}
use Rattle.jfr_renumber.specs.declared.rewriting.NewKey.{NewKey}
use Rattle.jfr_renumber.specs.declared.rewriting.NewKey.TheVariants as new_keys
use Rattle.jfr_renumber.specs.Rekeyed.{rekeyed_leaf}

-- The bytes of a leaf, with its new key if it has a key.
abbrev pub leaf_with : (ℕ × ℕ → ℕ) → LeafAt → List ℕ
leaf_with new l = (rekeyed_leaf new l).spelled

-- The bytes of a reference or a string with its new key.
abbrev pub spelled_anew : NewKey → List ℕ
spelled_anew (new_keys.Reference key) = spell key
spelled_anew (new_keys.StringKey key) = 2 ∷ spell key
