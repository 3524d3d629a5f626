-- What the leaves of values refer to, unless they are masked strings.
use Rattle.std.specs.Prelude.{ℕ, Bool, false, ◌&&◌, List, Option, None, slice_get, unwrap_or, if◌then◌else◌}
use Rattle.jfr_value.specs.declared.leaf.Holder.{Holder}
use Rattle.jfr_value.specs.Leaves.{LeafAt, leaf_target}
use Rattle.jfr_mask.specs.Masked.{is_string_leaf}

-- The class and the key to which a leaf refers, unless it is a masked string, given which holders' strings are masked.
abbrev pub target_left : (Option Holder → Bool) → LeafAt → Option (ℕ × ℕ)
target_left masked l = if masked l.holder && is_string_leaf l.kind then None else leaf_target l

-- The member with this number, if it is marked.
abbrev pub marked_get : {X : Type 0} → List Bool → List X → ℕ → Option X
marked_get flags xs i = if unwrap_or (slice_get flags i) false then slice_get xs i else None
