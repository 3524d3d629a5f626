-- The texts that a cache has.
use Rattle.std.specs.Prelude.{◌≡◌, ◌<◌, ◌-◌, ◌++◌, ℕ, List, Option, Some, None, length, map, replicate, option_and_then, slice_get, String, string_bytes}
use Rattle.std.specs.Option.{option_map}
use Rattle.std.specs.declared.alloc.Global.{Global}

-- The text with this index, if there is one.
abbrev pub text_at : List (String Global) → Option ℕ → Option (List ℕ)
text_at texts index = option_and_then (λ i. option_map string_bytes (slice_get texts i)) index

-- For each entry, the text with its index, if it has one.
abbrev pub texts_at : List (String Global) → List (Option ℕ) → List (Option (List ℕ))
texts_at texts indices = map (text_at texts) indices

-- Each index is that of a text.
pub record AreIndices (texts : List (String Global)) (indices : List (Option ℕ)) : Type 0 where
  pub each : (number index : ℕ) → slice_get indices number ≡ Some (Some index) → index < length texts

-- A cache with room for n entries.
abbrev pub sized : ℕ → List (Option (List ℕ)) → List (Option (List ℕ))
sized n texts = texts ++ replicate (n - length texts) None
