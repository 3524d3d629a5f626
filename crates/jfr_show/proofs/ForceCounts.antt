-- How many entries are in force, when they are asked one after another.
use Rattle.std.specs.Prelude.{◌≡◌, ℕ, zero, suc, ◌+◌, ◌<◌, ◌≤◌, ◌==◌, Bool, true, false, List, [], ◌∷◌, length, count_by, take, Option, None, Some, slice_get}
use Rattle.std.specs.Option.{option_map_or}
use Rattle.std.specs.List.{enumerate_from}
use Rattle.std.proofs.Common.{ap, arith, refl, sym, subst, ◌∙◌, get_or}
use Rattle.std.proofs.lemmas.Bool.{eqb-true}
use Rattle.std.proofs.lemmas.Bool.Decides.{Decides-eqb}
use Rattle.std.proofs.lemmas.List.{take_all}
use Rattle.std.proofs.lemmas.List.FromFn.{get_or-enumerate_from, length-enumerate_from}
use Rattle.std.proofs.lemmas.List.Sums.{count_by_more_yes, count_by_more_no}
use Rattle.std.proofs.lemmas.Option.{get_or_from_slice_get, slice_get_within}
use Rattle.jfr_pool.specs.declared.entry.EntryAt.{EntryAt}
use Rattle.jfr_pool.specs.Entries.{IsInForce, number_in_force}
use Rattle.jfr_show.specs.Totals.{count_in_force, is_in_force}

module _ (es : List EntryAt) (n : ℕ) (e : EntryAt) (there : slice_get es n ≡ Some e) where
  in_force_true : IsInForce es n → is_in_force es (n, e) ≡ true
  in_force_true i =
      let q : Some i.entry ≡ Some e = sym i.holds ∙ there in
      let same : i.entry ≡ e = cc in
      let last : number_in_force es (e.class, e.key) ≡ Some n = subst (λ (z : EntryAt). number_in_force es (z.class, z.key) ≡ Some n) same i.last in
      ap (λ o. option_map_or (λ m. m == n) o false) last ∙ (Decides-eqb n n).1 refl

  true_in_force : is_in_force es (n, e) ≡ true → IsInForce es n
  true_in_force q = by_number (number_in_force es (e.class, e.key)) refl q
    where
      by_number : (o : Option ℕ) → number_in_force es (e.class, e.key) ≡ o → option_map_or (λ m. m == n) o false ≡ true → IsInForce es n
      by_number None f g = cc
      by_number (Some m) f g = record { entry = e; holds = there; last = f ∙ ap Some (eqb-true m n g) }

  false_in_force : (IsInForce es n → ⊥) → is_in_force es (n, e) ≡ false
  false_in_force no_force = by_test (is_in_force es (n, e)) refl
    where
      by_test : (b : Bool) → is_in_force es (n, e) ≡ b → is_in_force es (n, e) ≡ false
      by_test true q = absurd (no_force (true_in_force q))
      by_test false q = q

  -- What is asked next.
  numbered : get_or (enumerate_from 0 es) n (0, e) ≡ (n, e)
  numbered =
      let p : 0 + n ≡ n = omega arith in
      let q : get_or es n e ≡ e = get_or_from_slice_get es n e e there in
      get_or-enumerate_from 0 es n (0, e) (slice_get_within es n e there) ∙ (λ i. (p i, q i))

-- There is an entry at each index below the length.
entry_within : (es : List EntryAt) (n : ℕ) → n < length es → (e : EntryAt) × (slice_get es n ≡ Some e)
entry_within [] n h = absurd (omega arith)
entry_within (x ∷ xs) zero h = (x, refl)
entry_within (x ∷ xs) (suc n) h = entry_within xs n (omega arith)

-- The number of the first n entries that are in force.
pub record IsCount (es : List EntryAt) (n count : ℕ) : Type 0 where
  pub exact : count ≡ count_by (is_in_force es) (take n (enumerate_from 0 es))
  pub most : count ≤ n

module _ (es : List EntryAt) (n count : ℕ) (within : n < length es) (so : IsCount es n count) where
  pub one_more : IsInForce es n → IsCount es (n + 1) (count + 1)
  one_more i =
      let l : n < length (enumerate_from 0 es) = let h = length-enumerate_from 0 es in omega arith in
      let m = so.most in
      record {
        exact = ap (λ z. z + 1) so.exact ∙ sym (count_by_more_yes (is_in_force es) (enumerate_from 0 es) n (0, i.entry) l
            (ap (is_in_force es) (numbered es n i.entry i.holds) ∙ in_force_true es n i.entry i.holds i));
        most = omega arith;
      }

  pub no_more : (IsInForce es n → ⊥) → IsCount es (n + 1) count
  no_more no_force =
      let at = entry_within es n within in
      let e : EntryAt = at.0 in
      let there : slice_get es n ≡ Some e = at.1 in
      let l : n < length (enumerate_from 0 es) = let h = length-enumerate_from 0 es in omega arith in
      let m = so.most in
      record {
        exact = so.exact ∙ sym (count_by_more_no (is_in_force es) (enumerate_from 0 es) n (0, e) l (ap (is_in_force es) (numbered es n e there) ∙ false_in_force es n e there no_force));
        most = omega arith;
      }

-- All are counted.
pub all_counted : (es : List EntryAt) (n count : ℕ) → length es ≤ n → IsCount es n count → count ≡ count_in_force es
all_counted es n count all so = so.exact ∙ ap (count_by (is_in_force es)) (take_all n (enumerate_from 0 es) (let h = length-enumerate_from 0 es in omega arith))
