-- New keys depend only on the order of the old ones, and on which are together.
use Rattle.std.specs.Prelude.{◌≡◌, ◌⊎◌, ℕ, zero, suc, ◌<◌, ◌≤◌, Bool, true, List, Contains}
use Rattle.std.proofs.Common.{ap, arith, sym, ◌∙◌, subst, inl, inr}
use Rattle.jfr_worklist.specs.Members.{In}
use Rattle.jfr_worklist.proofs.Members.{contains_in, in_contains}
use Rattle.jfr_renumber.specs.Keys.{Together, count_below, smallest, begins, group_number}
use Rattle.jfr_renumber.proofs.KeyLaws.{smallest_least, first_of_group, number_same, number_apart, number_order, number_dense}
use Rattle.jfr_chunk.specs.Parts.{Parts, EventAt}
use Rattle.jfr_renumber.specs.Renumber.{new_key, together, used_keys}
use Rattle.jfr_renumber.specs.SameOrder.{SameOrder}
use Rattle.jfr_renumber.proofs.TogetherLaws.{together_is}

module _ (tg th : ℕ × ℕ → ℕ × ℕ → Bool) (a : Together tg) (b : Together th) (us vs : List (ℕ × ℕ)) (to : ℕ × ℕ → ℕ × ℕ) (s : SameOrder tg th us vs to) where
  -- The numbers in the first list, and in the second.
  abbrev N : ℕ × ℕ → ℕ
  N t = group_number tg us t

  abbrev M : ℕ × ℕ → ℕ
  M t = group_number th vs (to t)

  there : (t : ℕ × ℕ) → In us t → In vs (to t)
  there t i = contains_in vs (to t) (s.there t (in_contains us t i))

  same_class : (t u : ℕ × ℕ) → In us t → In us u → t.0 ≡ u.0 → (to t).0 ≡ (to u).0
  same_class t u i j e = s.class t (in_contains us t i) ∙ (e ∙ sym (s.class u (in_contains us u j)))

  alike : (t u : ℕ × ℕ) → In us t → In us u → tg t u ≡ th (to t) (to u)
  alike t u i j = s.alike t u (in_contains us t i) (in_contains us u j)

  -- Members of a group have one number on both sides.
  m_same : (t u : ℕ × ℕ) → In us t → In us u → tg t u ≡ true → M t ≡ M u
  m_same t u i j e = number_same th b vs (to t) (to u) (there t i) (there u j) (sym (alike t u i j) ∙ e)

  -- The smallest keys of groups are in the order of their numbers.
  same_smallest : (t u : ℕ × ℕ) → t.0 ≡ u.0 → smallest tg us t ≡ smallest tg us u → N t ≡ N u
  unfolding group_number
  same_smallest t u c e =
      ap (λ m. count_below m (λ key. begins tg us (t.0, key))) e ∙ ap (λ c. count_below (smallest tg us u) (λ key. begins tg us (c, key))) c

  smallest_order : (t u : ℕ × ℕ) → In us t → In us u → t.0 ≡ u.0 → N t < N u → smallest tg us t < smallest tg us u
  smallest_order t u i j c h = by_order (order (smallest tg us t) (smallest tg us u))
    where
      order : (x y : ℕ) → (x < y) ⊎ ((y < x) ⊎ (x ≡ y))
      order x y = grind arith

      by_order : (smallest tg us t < smallest tg us u) ⊎ ((smallest tg us u < smallest tg us t) ⊎ (smallest tg us t ≡ smallest tg us u)) → smallest tg us t < smallest tg us u
      by_order (inl l) = l
      by_order (inr (inl l)) =
          let f = first_of_group tg a us u j in
          let n = number_order tg a us (u.0, smallest tg us u) t f.0 i (sym c) (λ v k e. (let m = smallest_least tg a us t v k (a.symmetric t v e) in omega arith)) in
          let e = number_same tg a us (u.0, smallest tg us u) u f.0 j f.1 in
          absurd (omega arith)
      by_order (inr (inr e)) = let z = same_smallest t u c e in absurd (omega arith)

  -- So smaller numbers correspond to smaller ones.
  keeps_order : (t u : ℕ × ℕ) → In us t → In us u → t.0 ≡ u.0 → N t < N u → M t < M u
  keeps_order t u i j c h =
      let f = first_of_group tg a us t i in
      let l = smallest_order t u i j c h in
      let first : ℕ × ℕ = (t.0, smallest tg us t) in
      let below : (v : ℕ × ℕ) → In vs v → th (to u) v ≡ true → (to first).1 < v.1 = λ v k e.
      (let w = s.back v (in_contains vs v k) in
      let x : In us w.0 = contains_in us w.0 w.1 in
      let q : tg u w.0 ≡ true = alike u w.0 j x ∙ (ap (th (to u)) w.2 ∙ e) in
      let m : smallest tg us u ≤ w.0.1 = smallest_least tg a us u w.0 x (a.symmetric u w.0 q) in
      let r : (to first).1 < (to w.0).1 = s.rising first w.0 (in_contains us first f.0) w.1 (c ∙ a.class u w.0 q) (omega arith) in
      subst (λ (z : ℕ × ℕ). (to first).1 < z.1) w.2 r) in
      let n = number_order th b vs (to first) (to u) (there first f.0) (there u j) (same_class first u f.0 j c) below in
      let e = m_same first t f.0 i f.1 in
      omega arith

  -- The numbers are equal, by induction on a bound.
  below_bound : (k : ℕ) (t : ℕ × ℕ) → In us t → N t < k → M t ≡ N t
  below_bound zero t i h = absurd (omega arith)
  below_bound (suc k) t i h = by_order (order (M t) (N t)) (λ u j l. below_bound k u j (omega arith))
    where
      order : (x y : ℕ) → (x < y) ⊎ ((y < x) ⊎ (x ≡ y))
      order x y = grind arith

      Earlier : Type 0
      Earlier = (u : ℕ × ℕ) → In us u → N u < N t → M u ≡ N u

      by_number : (w : ℕ × ℕ) → In us w → w.0 ≡ t.0 → M w ≡ N t → N t < M t → Earlier → (N w < N t) ⊎ ((N t < N w) ⊎ (N w ≡ N t)) → ⊥
      by_number w x c q l f (inl h) = let e = f w x h in omega arith
      by_number w x c q l f (inr (inl h)) = let o : M t < M w = keeps_order t w i x (sym c) h in omega arith
      by_number w x c q l f (inr (inr h)) =
          let e = number_apart tg a us w t x i c h in
          let z : M w ≡ M t = m_same w t x i e in
          omega arith

      by_order : (M t < N t) ⊎ ((N t < M t) ⊎ (M t ≡ N t)) → Earlier → M t ≡ N t
      by_order (inr (inr e)) f = e
      by_order (inl l) f =
          let d = number_dense tg a us t (M t) l in
          let e : M d.0 ≡ N d.0 = f d.0 d.1 (omega (arith, d.3)) in
          let o : M d.0 < M t = keeps_order d.0 t d.1 i d.2 (omega (arith, d.3)) in
          absurd (omega (arith, d.3))
      by_order (inr (inl l)) f =
          let d = number_dense th b vs (to t) (N t) l in
          let w = s.back d.0 (in_contains vs d.0 d.1) in
          let x : In us w.0 = contains_in us w.0 w.1 in
          let c : w.0.0 ≡ t.0 = sym (s.class w.0 w.1) ∙ (ap (λ (z : ℕ × ℕ). z.0) w.2 ∙ (d.2 ∙ s.class t (in_contains us t i))) in
          let q : M w.0 ≡ N t = ap (group_number th vs) w.2 ∙ d.3 in
          absurd (by_number w.0 x c q l f (order (N w.0) (N t)))

  -- The law: corresponding keys have equal numbers.
  pub same_numbers : (t : ℕ × ℕ) → Contains us t → group_number tg us t ≡ group_number th vs (to t)
  same_numbers t i = sym (below_bound (suc (N t)) t (contains_in us t i) (omega arith))

-- So corresponding keys of two chunks have equal new keys.
pub same_new_keys : (p q : Parts) (kept others : List EventAt) (to : ℕ × ℕ → ℕ × ℕ) → SameOrder (together p) (together q) (used_keys p kept) (used_keys q others) to → (t : ℕ × ℕ)
    → Contains (used_keys p kept) t → new_key p kept t ≡ new_key q others (to t)
unfolding new_key
same_new_keys p q kept others to s t c = same_numbers (together p) (together q) (together_is p) (together_is q) (used_keys p kept) (used_keys q others) to s t c
