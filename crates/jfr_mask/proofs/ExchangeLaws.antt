-- Texts that are exchanged one to one have the same numbers, and the same is shown for them.
use Rattle.std.specs.Prelude.{◌≡◌, ℕ, ◌+◌, ◌||◌, not, Bool, true, false, cond, List, [], ◌∷◌, ◌++◌, map, Option, None, Some, if◌then◌else◌}
use Rattle.std.specs.List.{position_or_len}
use Rattle.std.specs.Option.{option_map}
use Rattle.std.specs.Str.{bytes_eq}
use Rattle.std.proofs.Common.{ap, refl, sym, ◌∙◌}
use Rattle.std.proofs.lemmas.List.{map-append}
use Rattle.jfr_mask.specs.Masked.{numbered_text}
use Rattle.jfr_mask.specs.Pseudonyms.{has_text, is_descriptor, number_of, pseudonym, shown, is_unmasked, with_text, with_texts}
use Rattle.jfr_mask.specs.Secrecy.{IsExchange}
use Rattle.jfr_mask.proofs.NumberLaws.{eq_is, eq_self}

module _ (known : List ℕ → Bool) (g : List ℕ → List ℕ) (ex : IsExchange known g) where
  same_test : (t u : List ℕ) → bytes_eq (g t) (g u) ≡ bytes_eq t u
  same_test t u = by_tests (bytes_eq (g t) (g u)) (bytes_eq t u) refl refl
    where
      by_tests : (a b : Bool) → bytes_eq (g t) (g u) ≡ a → bytes_eq t u ≡ b → a ≡ b
      by_tests true true e f = refl
      by_tests false false e f = refl
      by_tests true false e f = let h : t ≡ u = ex.one t u (eq_is (g t) (g u) e) in sym (eq_self t) ∙ (ap (bytes_eq t) h ∙ f)
      by_tests false true e f = let h : g t ≡ g u = ap g (eq_is t u f) in sym e ∙ (ap (λ z. bytes_eq z (g u)) h ∙ eq_self (g u))

  abbrev index_of : List (List ℕ) → List ℕ → ℕ
  index_of d t = position_or_len (λ u. bytes_eq u t) d

  same_index : (d : List (List ℕ)) (t : List ℕ) → index_of (map g d) (g t) ≡ index_of d t
  same_index [] t = refl
  same_index (u ∷ us) t = ap (λ b. cond (not b) (1 + index_of (map g us) (g t)) 0) (same_test u t) ∙ ap (λ n. cond (not (bytes_eq u t)) (1 + n) 0) (same_index us t)

  same_number : (d : List (List ℕ)) (t : List ℕ) → number_of (map g d) (g t) ≡ number_of d t
  same_number d t = ap (λ n. n + 1) (same_index d t)

  same_there : (d : List (List ℕ)) (t : List ℕ) → has_text (map g d) (g t) ≡ has_text d t
  same_there [] t = refl
  same_there (u ∷ us) t = ap (λ b. b || has_text (map g us) (g t)) (same_test u t) ∙ ap (λ b. bytes_eq u t || b) (same_there us t)

  one_mapped : (d : List (List ℕ)) (t : List ℕ) → with_text (map g d) (g t) ≡ map g (with_text d t)
  one_mapped d t = ap (λ b. if b then map g d else map g d ++ g t ∷ []) (same_there d t) ∙ by_there (has_text d t)
    where
      by_there : (b : Bool) → (if b then map g d else map g d ++ g t ∷ []) ≡ map g (if b then d else d ++ t ∷ [])
      by_there true = refl
      by_there false = sym (map-append g d (t ∷ []))

  pub all_mapped : (d ts : List (List ℕ)) → with_texts (map g d) (map g ts) ≡ map g (with_texts d ts)
  all_mapped d [] = refl
  all_mapped d (t ∷ ts) = ap (λ z. with_texts z (map g ts)) (one_mapped d t) ∙ all_mapped (with_text d t) ts

  -- The texts that get numbers are the exchanged ones.
  pub numbered_exchanged : (o : Option (List ℕ)) → numbered_text known (option_map g o) ≡ map g (numbered_text known o)
  numbered_exchanged None = refl
  numbered_exchanged (Some t) = ap (λ b. if b then [] else g t ∷ []) (ex.others t) ∙ by_stays (is_unmasked known t)
    where
      by_stays : (b : Bool) → (if b then [] else g t ∷ []) ≡ map g (if b then [] else t ∷ [])
      by_stays true = refl
      by_stays false = refl

  -- With the exchanged dictionary, the same is shown.
  pub shown_alike : (d : List (List ℕ)) (t : List ℕ) → shown known (map g d) (g t) ≡ shown known d t
  shown_alike d t = ap (λ b. if b then g t else pseudonym (is_descriptor (g t)) (number_of (map g d) (g t))) (ex.others t) ∙ by_stays (is_unmasked known t) refl
    where
      by_stays : (b : Bool) → is_unmasked known t ≡ b
          → (if b then g t else pseudonym (is_descriptor (g t)) (number_of (map g d) (g t))) ≡ (if b then t else pseudonym (is_descriptor t) (number_of d t))
      by_stays true e = ex.same t e
      by_stays false e = ap (λ z. pseudonym z (number_of (map g d) (g t))) (ex.descriptor t) ∙ ap (pseudonym (is_descriptor t)) (same_number d t)

  pub text_alike : (d : List (List ℕ)) (o : Option (List ℕ)) → option_map (shown known (map g d)) (option_map g o) ≡ option_map (shown known d) o
  text_alike d None = refl
  text_alike d (Some t) = ap Some (shown_alike d t)
