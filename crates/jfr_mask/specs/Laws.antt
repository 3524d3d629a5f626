-- What the laws say of dictionaries and of pseudonyms.
use Rattle.std.specs.Prelude.{◌≡◌, ℕ, ◌-◌, Bool, true, false, List, slice_get, Some}
use Rattle.std.specs.List.{AllByRecursion}
use Rattle.jfr_mask.specs.Pseudonyms.{IsDictionary, has_text, number_of, with_texts, is_descriptor, is_unmasked, shown}

-- The dictionary with these texts added is one, and has them all. The texts that were there have the same numbers as
-- before. In a dictionary each text is at its number, and equal numbers are of equal texts.
pub record AreNumbered (d : List (List ℕ)) (ts : List (List ℕ)) : Type 0 where
  pub distinct : IsDictionary d → IsDictionary (with_texts d ts)
  pub there : AllByRecursion (λ t. has_text (with_texts d ts) t ≡ true) ts
  pub kept : (t : List ℕ) → has_text d t ≡ true → has_text (with_texts d ts) t ≡ true
  pub stable : (t : List ℕ) → has_text d t ≡ true → number_of (with_texts d ts) t ≡ number_of d t
  pub at_number : (t : List ℕ) → has_text d t ≡ true → slice_get d (number_of d t - 1) ≡ Some t
  pub one : (t u : List ℕ) → has_text d t ≡ true → has_text d u ≡ true → number_of d t ≡ number_of d u → t ≡ u

-- On the texts of a dictionary, what is shown is one to one. No text that is shown as it is equals what is shown for
-- one that isn't. What is shown for a descriptor, and for no other text, begins as one.
pub record AreDistinct (known : List ℕ → Bool) (d : List (List ℕ)) : Type 0 where
  pub one : (t u : List ℕ) → has_text d t ≡ true → has_text d u ≡ true → shown known d t ≡ shown known d u → t ≡ u
  pub apart : (t u : List ℕ) → is_unmasked known t ≡ true → is_unmasked known u ≡ false → shown known d t ≡ shown known d u → ⊥
  pub descriptors : (t : List ℕ) → is_descriptor (shown known d t) ≡ is_descriptor t
