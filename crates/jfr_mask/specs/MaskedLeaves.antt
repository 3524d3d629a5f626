-- Masked values, leaf by leaf.
use Rattle.std.specs.Prelude.{ℕ, Bool, ◌&&◌, List, [], Option, if◌then◌else◌}
use Rattle.std.specs.Option.{option_map}
use Rattle.jfr_value.specs.declared.leaf.Holder.{Holder}
use Rattle.jfr_value.specs.Leaves.{LeafAt, leaf_key}
use Rattle.jfr_chunk.specs.Parts.{Parts}
use Rattle.jfr_mask.specs.Masked.{is_string_leaf, numbered_text, string_bytes, string_text}

-- The leaf is a masked string, given which holders' strings are masked.
abbrev pub is_masked_leaf : (Option Holder → Bool) → LeafAt → Bool
is_masked_leaf masked l = masked l.holder && is_string_leaf l.kind

-- The text of a leaf that is a string.
abbrev pub leaf_text : Parts → LeafAt → Option (List ℕ)
leaf_text p l = string_text p l.class l.spelled (leaf_key l.kind l.spelled)

-- The text of a masked string, unless it is shown as it is; nothing for any other leaf.
abbrev pub leaf_texts : (Option Holder → Bool) → (List ℕ → Bool) → Parts → LeafAt → List (List ℕ)
leaf_texts masked known p l = if is_masked_leaf masked l then numbered_text known (leaf_text p l) else []

-- The bytes of a leaf in the masked value: those of a string with what is shown for its text, or its own if it isn't a
-- masked string.
abbrev pub leaf_bytes : (Option Holder → Bool) → (List ℕ → List ℕ) → Parts → LeafAt → List ℕ
leaf_bytes masked show p l = if is_masked_leaf masked l then string_bytes (option_map show (leaf_text p l)) else l.spelled
