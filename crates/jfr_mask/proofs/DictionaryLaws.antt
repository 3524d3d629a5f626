-- The dictionary after the last chunk of a recording has the texts of all chunks, with the numbers that they have there.
use Rattle.std.specs.Prelude.{◌≡◌, ℕ, true, List, [], ◌∷◌}
use Rattle.std.specs.List.{AllByRecursion}
use Rattle.std.proofs.Common.{refl, sym, ◌∙◌}
use Rattle.jfr_mask.specs.Headline.{AllNumbered}
use Rattle.jfr_mask.specs.Laws.{AreNumbered}
use Rattle.jfr_mask.specs.MaskOf.{Chosen, Masking, chunk_texts, events_kept, last_dictionary, next_dictionary}
use Rattle.jfr_mask.specs.Pseudonyms.{IsDictionary, has_text, number_of}
use Rattle.jfr_mask.proofs.NumberLaws.{are_numbered, distinct_nil}

all_so : {A : Type 0} (P Q : A → Type 0) → ((x : A) → P x → Q x) → (xs : List A) → AllByRecursion P xs → AllByRecursion Q xs
all_so P Q f [] a = tt
all_so P Q f (x ∷ xs) a = (f x a.0, all_so P Q f xs a.1)

module _ (m : Masking) where
  after : (d : List (List ℕ)) (c : Chosen) → AreNumbered d (chunk_texts m c.parts (events_kept c))
  after d c = are_numbered d (chunk_texts m c.parts (events_kept c))

  distinct_last : (cs : List Chosen) (d : List (List ℕ)) → IsDictionary d → IsDictionary (last_dictionary m d cs)
  distinct_last [] d h = h
  distinct_last (c ∷ cs) d h = distinct_last cs (next_dictionary m d c) ((after d c).distinct h)

  -- A text of a dictionary is in the last one, at the same number.
  has_last : (cs : List Chosen) (d : List (List ℕ)) (t : List ℕ) → has_text d t ≡ true → has_text (last_dictionary m d cs) t ≡ true
  has_last [] d t h = h
  has_last (c ∷ cs) d t h = has_last cs (next_dictionary m d c) t ((after d c).kept t h)

  number_last : (cs : List Chosen) (d : List (List ℕ)) (t : List ℕ) → has_text d t ≡ true → number_of d t ≡ number_of (last_dictionary m d cs) t
  number_last [] d t h = refl
  number_last (c ∷ cs) d t h = sym ((after d c).stable t h) ∙ number_last cs (next_dictionary m d c) t ((after d c).kept t h)

  pub all_numbered : (cs : List Chosen) (d : List (List ℕ)) → AllNumbered m (last_dictionary m d cs) d cs
  all_numbered [] d = tt
  all_numbered (c ∷ cs) d =
      let e : List (List ℕ) = next_dictionary m d c in (
        all_so (λ t. has_text e t ≡ true) (λ t. (has_text (last_dictionary m e cs) t ≡ true) × (number_of e t ≡ number_of (last_dictionary m e cs) t))
            (λ t h. (has_last cs e t h, number_last cs e t h))
            (chunk_texts m c.parts (events_kept c)) (after d c).there,
        all_numbered cs e,
      )

  pub is_dictionary : (cs : List Chosen) → IsDictionary (last_dictionary m [] cs)
  is_dictionary cs = distinct_last cs [] distinct_nil
