-- A binary search among rising classes and keys.
use Rattle.std.specs.Prelude.{◌≡◌, ◌⊎◌, ℕ, ◌<◌, ◌≤◌, List, length, slice_get, slice_index_or, Option, Some, None, Result, Ok, Err, Contains, IfSome}
use Rattle.std.specs.List.Sorted.{IsBinarySearchResult, IsNonDecreasingBy, IsSearchInRange}
use Rattle.std.specs.Ordering.{ordering_index}
use Rattle.std.specs.Result.{result_ok}
use Rattle.std.proofs.Common.{ap, arith, sym, ◌∙◌, subst, inl, inr}
use Rattle.std.proofs.lemmas.Option.{get_or_from_slice_get, slice_get-get_or, slice_get_within}
use Rattle.jfr_worklist.proofs.Members.{contains_in}
use Rattle.jfr_renumber.specs.Missing.{Earlier, IsRising, pair_cmp}
use Rattle.jfr_meta.proofs.StayLaws.{in_get}
use Rattle.jfr_renumber.proofs.OrderLaws.{as_early, earlier, never, not_earlier, rising_at}

-- Compared with a pair, an earlier one gives no more than a later one.
grows : (t u v : ℕ × ℕ) → Earlier u v → ordering_index (pair_cmp u t) ≤ ordering_index (pair_cmp v t)
grows t u v (inl a) = grind (arith, a)
grows t u v (inr a) = grind (arith, a.0, a.1)

not_falling : (ps : List (ℕ × ℕ)) (t : ℕ × ℕ) → IsRising ps → IsNonDecreasingBy (λ u. ordering_index (pair_cmp u t)) ps
not_falling ps t r i j d h w = by_order (split i j h)
  where
    split : (i j : ℕ) → i ≤ j → (i < j) ⊎ (i ≡ j)
    split i j h = grind arith

    by_order : (i < j) ⊎ (i ≡ j) → ordering_index (pair_cmp (slice_index_or ps i d) t) ≤ ordering_index (pair_cmp (slice_index_or ps j d) t)
    by_order (inl a) =
        grows t (slice_index_or ps i d) (slice_index_or ps j d)
        (rising_at ps i j (slice_index_or ps i d) (slice_index_or ps j d) r a (slice_get-get_or ps i d (omega (arith, a, w))) (slice_get-get_or ps j d w))
    by_order (inr e) = subst (λ k. ordering_index (pair_cmp (slice_index_or ps i d) t) ≤ ordering_index (pair_cmp (slice_index_or ps k d) t)) e (omega arith)

-- The pair is at the index that was found.
pub found_by : (ps : List (ℕ × ℕ)) (t : ℕ × ℕ) (r : Result ℕ ℕ) (o : Option ℕ) → IsSearchInRange r (length ps) → IsBinarySearchResult (λ u. pair_cmp u t) ps r → o ≡ result_ok r
    → IfSome o (λ i. slice_get ps i ≡ Some t)
found_by ps t (Ok i) o w h e = subst (λ z. IfSome z (λ i. slice_get ps i ≡ Some t)) (sym e) (slice_get-get_or ps i t w ∙ ap (λ z. Some z) (as_early (slice_index_or ps i t) t (h t)))
found_by ps t (Err i) o w h e = subst (λ z. IfSome z (λ i. slice_get ps i ≡ Some t)) (sym e) tt

-- If none was found, the pair isn't there.
pub none_by : (ps : List (ℕ × ℕ)) (t : ℕ × ℕ) (r : Result ℕ ℕ) (o : Option ℕ) → IsRising ps → IsBinarySearchResult (λ u. pair_cmp u t) ps r → o ≡ result_ok r → o ≡ None → Contains ps t → ⊥
none_by ps t (Ok i) o rising h e n c = cc
none_by ps t (Err i) o rising h e n c = by_place (either place i)
  where
    there : (k : ℕ) × (slice_get ps k ≡ Some t)
    there = in_get ps t (contains_in ps t c)

    place : ℕ
    place = there.0

    own : slice_index_or ps place t ≡ t
    own = get_or_from_slice_get ps place t t there.1

    either : (a b : ℕ) → (a < b) ⊎ (b ≤ a)
    either a b = grind arith

    by_place : (place < i) ⊎ (i ≤ place) → ⊥
    by_place (inl a) = never t (earlier t t (ap (λ z. pair_cmp z t) (sym own) ∙ (h (not_falling ps t rising)).0 place t (omega arith) a))
    by_place (inr a) = never t (not_earlier t t (ap (λ z. pair_cmp z t) (sym own) ∙ (h (not_falling ps t rising)).1 place t a (slice_get_within ps place t there.1)))
