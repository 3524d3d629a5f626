-- Group numbers: equal exactly within a group, never above the key, and dense.
use Rattle.std.specs.Prelude.{◌≡◌, ◌⊎◌, ℕ, zero, suc, min, ◌≤◌, ◌<◌, Bool, true, false, ◌&&◌, ◌||◌, ◌==◌, List, [], ◌∷◌, if◌then◌else◌}
use Rattle.std.specs.List.{list_any}
use Rattle.std.proofs.Common.{ap, arith, refl, sym, ◌∙◌, subst, inl, inr}
use Rattle.std.proofs.lemmas.Map.Views.{exact_unsigned_eq}
use Rattle.std.specs.Cmp.{unsigned_Decides, first_so, second_so}
use Rattle.std.proofs.lemmas.Bool.{or_left, or_right}
use Rattle.std.specs.Cmp.Derive.{both_true}
use Rattle.jfr_worklist.specs.Members.{In}
use Rattle.jfr_renumber.specs.Keys.{count_below, smallest, begins, group_number, Together}

module _ (test : ℕ → Bool) where
  pub count_most : (m : ℕ) → count_below m test ≤ m
  unfolding count_below
  count_most zero = omega arith
  count_most (suc m) = by_test (test m) (count_most m)
    where
      by_test : (b : Bool) → count_below m test ≤ m → (if b then suc (count_below m test) else count_below m test) ≤ suc m
      by_test true h = omega arith
      by_test false h = omega arith

  count_more : (m : ℕ) → count_below m test ≤ count_below (suc m) test
  unfolding count_below
  count_more m = by_test (test m)
    where
      by_test : (b : Bool) → count_below m test ≤ (if b then suc (count_below m test) else count_below m test)
      by_test true = omega arith
      by_test false = omega arith

  -- The count up to a larger number isn't smaller.
  pub count_grows : (m n : ℕ) → m ≤ n → count_below m test ≤ count_below n test
  count_grows m zero h = let e : m ≡ 0 = omega arith in subst (λ z. count_below z test ≤ count_below 0 test) (sym e) (omega arith)
  count_grows m (suc n) h = by_case (let z : (m ≤ n) ⊎ (m ≡ suc n) = split m n h in z) (λ i. count_grows m n i)
    where
      split : (m n : ℕ) → m ≤ suc n → (m ≤ n) ⊎ (m ≡ suc n)
      split m n h = grind arith

      by_case : (m ≤ n) ⊎ (m ≡ suc n) → (m ≤ n → count_below m test ≤ count_below n test) → count_below m test ≤ count_below (suc n) test
      by_case (inl i) f = let a = f i in let b = count_more n in omega arith
      by_case (inr e) f = subst (λ z. count_below z test ≤ count_below (suc n) test) (sym e) (omega arith)

  pub count_this : (m : ℕ) → test m ≡ true → count_below (suc m) test ≡ suc (count_below m test)
  unfolding count_below
  count_this m e = ap (λ b. if b then suc (count_below m test) else count_below m test) e

  -- One that passes is counted after it.
  pub count_passes : (m n : ℕ) → test m ≡ true → m < n → count_below m test < count_below n test
  count_passes m n e h =
      let a : count_below (suc m) test ≡ suc (count_below m test) = count_this m e in
      let b : count_below (suc m) test ≤ count_below n test = count_grows (suc m) n (omega arith) in
      omega arith

  -- If none passes from one number up to another, both have the same count below them.
  pub count_flat : (m n : ℕ) → m ≤ n → ((x : ℕ) → m ≤ x → x < n → test x ≡ false) → count_below n test ≡ count_below m test
  unfolding count_below
  count_flat m zero h f = let e : m ≡ 0 = omega arith in ap (λ z. count_below z test) (sym e)
  count_flat m (suc n) h f = by_case (split m n h) (λ i. count_flat m n i (λ x a b. f x a (omega arith)))
    where
      split : (m n : ℕ) → m ≤ suc n → (m ≤ n) ⊎ (suc n ≡ m)
      split m n h = grind arith

      by_case : (m ≤ n) ⊎ (suc n ≡ m) → (m ≤ n → count_below n test ≡ count_below m test) → count_below (suc n) test ≡ count_below m test
      by_case (inl i) g = ap (λ b. if b then suc (count_below n test) else count_below n test) (f n i (omega arith)) ∙ g i
      by_case (inr e) g = ap (λ z. count_below z test) e

  -- Each smaller count is that of one that passes.
  pub record Counted (n j : ℕ) : Type 0 where
    pub number : ℕ
    pub below : number < n
    pub passes : test number ≡ true
    pub is : count_below number test ≡ j

  pub count_dense : (n j : ℕ) → j < count_below n test → Counted n j
  unfolding count_below
  count_dense zero j h = absurd (omega arith)
  count_dense (suc n) j h = by_test (test n) refl h (λ i. count_dense n j i)
    where
      wider : Counted n j → Counted (suc n) j
      wider c = record { number = c.number; below = let l = c.below in omega arith; passes = c.passes; is = c.is }

      either : (a b : ℕ) → a < suc b → (a < b) ⊎ (b ≡ a)
      either a b h = grind arith

      by_place : test n ≡ true → (j < count_below n test) ⊎ (count_below n test ≡ j) → (j < count_below n test → Counted n j) → Counted (suc n) j
      by_place q (inl l) f = wider (f l)
      by_place q (inr e) f = record { number = n; below = omega arith; passes = q; is = e }

      by_test : (b : Bool) → test n ≡ b → j < (if b then suc (count_below n test) else count_below n test) → (j < count_below n test → Counted n j) → Counted (suc n) j
      by_test true q h f = by_place q (either j (count_below n test) h) f
      by_test false q h f = wider (f h)

module _ (together : ℕ × ℕ → ℕ × ℕ → Bool) (same : Together together) where
  -- The smallest key of a group is that of a member, or the key itself.
  pub record Least (us : List (ℕ × ℕ)) (t : ℕ × ℕ) : Type 0 where
    pub pair : ℕ × ℕ
    pub from : (t ≡ pair) ⊎ In us pair
    pub together_with : together pair t ≡ true
    pub key : smallest together us t ≡ pair.1

  pub least_is : (us : List (ℕ × ℕ)) (t : ℕ × ℕ) → Least us t
  least_is [] t = record { pair = t; from = inl refl; together_with = same.reflexive t; key = refl }
  least_is (u ∷ us) t = by_test (together u t) refl (least_is us t)
    where
      either : (a b : ℕ) → (a ≤ b) ⊎ (b ≤ a)
      either a b = grind arith

      later : (l : Least us t) → (t ≡ l.pair) ⊎ In us l.pair → (t ≡ l.pair) ⊎ In (u ∷ us) l.pair
      later l (inl e) = inl e
      later l (inr i) = inr (inr i)

      by_order : (l : Least us t) → together u t ≡ true → (u.1 ≤ smallest together us t) ⊎ (smallest together us t ≤ u.1) → Least (u ∷ us) t
      by_order l q (inl h) = record { pair = u; from = inr (inl refl); together_with = q; key = ap (λ b. if b then min u.1 (smallest together us t) else smallest together us t) q ∙ omega arith }
      by_order l q (inr h) = record {
        pair = l.pair;
        from = later l l.from;
        together_with = l.together_with;
        key = ap (λ b. if b then min u.1 (smallest together us t) else smallest together us t) q
            ∙ (let e : min u.1 (smallest together us t) ≡ smallest together us t = omega arith in e ∙ l.key);
      }

      by_test : (b : Bool) → together u t ≡ b → Least us t → Least (u ∷ us) t
      by_test true q l = by_order l q (either u.1 (smallest together us t))
      by_test false q l = record {
        pair = l.pair;
        from = later l l.from;
        together_with = l.together_with;
        key = ap (λ b. if b then min u.1 (smallest together us t) else smallest together us t) q
            ∙ l.key;
      }

  -- It is below the key of each member of the group, and of the pair itself.
  pub smallest_most : (us : List (ℕ × ℕ)) (t : ℕ × ℕ) → smallest together us t ≤ t.1
  smallest_most [] t = omega arith
  smallest_most (u ∷ us) t = by_test (together u t) (smallest_most us t)
    where
      by_test : (b : Bool) → smallest together us t ≤ t.1 → (if b then min u.1 (smallest together us t) else smallest together us t) ≤ t.1
      by_test true h = omega arith
      by_test false h = h

  pub smallest_least : (us : List (ℕ × ℕ)) (t u : ℕ × ℕ) → In us u → together u t ≡ true → smallest together us t ≤ u.1
  smallest_least [] t u i q = absurd i
  smallest_least (w ∷ us) t u (inl e) q = by_test (together w t) refl
    where
      by_test : (b : Bool) → together w t ≡ b → (if b then min w.1 (smallest together us t) else smallest together us t) ≤ u.1
      by_test true r = let z : w.1 ≡ u.1 = ap (λ (y : ℕ × ℕ). y.1) e in omega arith
      by_test false r = let z : together w t ≡ true = ap (λ y. together y t) e ∙ q in cc
  smallest_least (w ∷ us) t u (inr i) q = by_test (together w t) (smallest_least us t u i q)
    where
      by_test : (b : Bool) → smallest together us t ≤ u.1 → (if b then min w.1 (smallest together us t) else smallest together us t) ≤ u.1
      by_test true h = omega arith
      by_test false h = h

  module _ (us : List (ℕ × ℕ)) where
    -- Of what is together, the smallest key is one.
    smallest_below : (t u : ℕ × ℕ) → In us t → In us u → together t u ≡ true → smallest together us t ≤ smallest together us u
    smallest_below t u i j q =
        let l = least_is us u in
        let e : smallest together us u ≡ l.pair.1 = l.key in
        let m : smallest together us t ≤ l.pair.1 = by_from l.from (same.transitive l.pair u t l.together_with (same.symmetric t u q)) in
        omega arith
      where
        by_from : (u ≡ (least_is us u).pair) ⊎ In us (least_is us u).pair → together (least_is us u).pair t ≡ true → smallest together us t ≤ (least_is us u).pair.1
        by_from (inl e) r = smallest_least us t (least_is us u).pair (subst (In us) e j) r
        by_from (inr k) r = smallest_least us t (least_is us u).pair k r

    pub smallest_same : (t u : ℕ × ℕ) → In us t → In us u → together t u ≡ true → smallest together us t ≡ smallest together us u
    smallest_same t u i j q =
        let a = smallest_below t u i j q in
        let b = smallest_below u t j i (same.symmetric t u q) in
        omega arith

    -- With its class, the smallest key is a member of the group.
    pub first_of_group : (t : ℕ × ℕ) → In us t → In us (t.0, smallest together us t) × (together (t.0, smallest together us t) t ≡ true)
    first_of_group t i =
        let l = least_is us t in
        let c : t.0 ≡ l.pair.0 = sym (same.class l.pair t l.together_with) in
        let e : l.pair ≡ (t.0, smallest together us t) = (let k : smallest together us t ≡ l.pair.1 = l.key in pair_is l.pair t.0 (smallest together us t) c k) in
        (subst (In us) e (by_from l.from), subst (λ z. together z t ≡ true) e l.together_with)
      where
        pair_is : (p : ℕ × ℕ) (a b : ℕ) → a ≡ p.0 → b ≡ p.1 → p ≡ (a, b)
        pair_is p a b x y = ap (λ (z : ℕ). (z, p.1)) (sym x) ∙ ap (λ (z : ℕ). (a, z)) (sym y)

        by_from : (t ≡ (least_is us t).pair) ⊎ In us (least_is us t).pair → In us (least_is us t).pair
        by_from (inl e) = subst (In us) e i
        by_from (inr j) = j

    -- So a group begins with them.
    in_any : (us : List (ℕ × ℕ)) (t : ℕ × ℕ) → In us t → list_any (λ u. (u.0 == t.0) && (u.1 == t.1)) us ≡ true
    in_any [] t i = absurd i
    in_any (u ∷ us) t (inl e) = or_left _ _ (both_true ((unsigned_Decides u.0 t.0).1 (ap (λ (z : ℕ × ℕ). z.0) e)) ((unsigned_Decides u.1 t.1).1 (ap (λ (z : ℕ × ℕ). z.1) e)))
    in_any (u ∷ us) t (inr i) = or_right _ _ (in_any us t i)

    pub any_in : (us : List (ℕ × ℕ)) (t : ℕ × ℕ) → list_any (λ u. (u.0 == t.0) && (u.1 == t.1)) us ≡ true → In us t
    any_in [] t e = cc
    any_in (u ∷ us) t e = by_head ((u.0 == t.0) && (u.1 == t.1)) refl e (any_in us t)
      where
        by_head : (b : Bool) → ((u.0 == t.0) && (u.1 == t.1)) ≡ b → (b || list_any (λ u. (u.0 == t.0) && (u.1 == t.1)) us) ≡ true → (list_any (λ u. (u.0 == t.0) && (u.1 == t.1)) us ≡ true → In us t)
            → In (u ∷ us) t
        by_head true q r f = inl (ap (λ (z : ℕ). (z, u.1)) (exact_unsigned_eq u.0 t.0 (first_so (u.0 == t.0) (u.1 == t.1) q))
            ∙ ap (λ (z : ℕ). (t.0, z)) (exact_unsigned_eq u.1 t.1 (second_so (u.0 == t.0) (u.1 == t.1) q)))
        by_head false q r f = inr (f r)

    pub group_begins : (t : ℕ × ℕ) → In us t → begins together us (t.0, smallest together us t) ≡ true
    group_begins t i =
        let f = first_of_group t i in
        let e : smallest together us (t.0, smallest together us t) ≡ smallest together us t = smallest_same (t.0, smallest together us t) t f.0 i f.1 in
        both_true (in_any us (t.0, smallest together us t) f.0) ((unsigned_Decides (smallest together us (t.0, smallest together us t)) (smallest together us t)).1 e)

    -- A number is never above the key.
    pub number_most : (t : ℕ × ℕ) → group_number together us t ≤ t.1
    unfolding group_number
    number_most t =
        let a = count_most (λ key. begins together us (t.0, key)) (smallest together us t) in
        let b = smallest_most us t in
        omega arith

    -- Within a group it is one.
    pub number_same : (t u : ℕ × ℕ) → In us t → In us u → together t u ≡ true → group_number together us t ≡ group_number together us u
    unfolding group_number
    number_same t u i j q =
        ap (λ m. count_below m (λ key. begins together us (t.0, key))) (smallest_same t u i j q)
        ∙ ap (λ c. count_below (smallest together us u) (λ key. begins together us (c, key))) (same.class t u q)

    -- And of two groups of a class the numbers differ.
    pub number_apart : (t u : ℕ × ℕ) → In us t → In us u → t.0 ≡ u.0 → group_number together us t ≡ group_number together us u → together t u ≡ true
    unfolding group_number
    number_apart t u i j c e =
        let f = first_of_group t i in
        let g = first_of_group u j in
        let h = by_order (order (smallest together us t) (smallest together us u)) in
        same.transitive t (u.0, smallest together us u) u
        (same.symmetric (u.0, smallest together us u) t (subst (λ z. together z t ≡ true) (ap (λ (z : ℕ). (z, smallest together us t)) c ∙ ap (λ (z : ℕ). (u.0, z)) h) f.1)) g.1
      where
        order : (a b : ℕ) → (a < b) ⊎ ((b < a) ⊎ (a ≡ b))
        order a b = grind arith

        by_order : (smallest together us t < smallest together us u) ⊎ ((smallest together us u < smallest together us t) ⊎ (smallest together us t ≡ smallest together us u))
            → smallest together us t ≡ smallest together us u
        by_order (inl l) =
            let p : begins together us (u.0, smallest together us t) ≡ true = subst (λ c. begins together us (c, smallest together us t) ≡ true) c (group_begins t i) in
            let n = count_passes (λ key. begins together us (u.0, key)) (smallest together us t) (smallest together us u) p l in
            let q : count_below (smallest together us t) (λ key. begins together us (t.0, key)) ≡ count_below (smallest together us t) (λ key. begins together us (u.0, key)) =
            ap (λ c. count_below (smallest together us t) (λ key. begins together us (c, key))) c in
            absurd (omega arith)
        by_order (inr (inl l)) =
            let n = count_passes (λ key. begins together us (u.0, key)) (smallest together us u) (smallest together us t) (group_begins u j) l in
            let q : count_below (smallest together us t) (λ key. begins together us (t.0, key)) ≡ count_below (smallest together us t) (λ key. begins together us (u.0, key)) =
            ap (λ c. count_below (smallest together us t) (λ key. begins together us (c, key))) c in
            absurd (omega arith)
        by_order (inr (inr q)) = q

    -- A key that is smaller than each member of another group of its class has a smaller number.
    pub number_order : (t u : ℕ × ℕ) → In us t → In us u → t.0 ≡ u.0 → ((v : ℕ × ℕ) → In us v → together u v ≡ true → t.1 < v.1) → group_number together us t < group_number together us u
    unfolding group_number
    number_order t u i j c below =
        let g = first_of_group u j in
        let a = smallest_most us t in
        let b = below (u.0, smallest together us u) g.0 (same.symmetric (u.0, smallest together us u) u g.1) in
        let p : begins together us (u.0, smallest together us t) ≡ true = subst (λ c. begins together us (c, smallest together us t) ≡ true) c (group_begins t i) in
        let n = count_passes (λ key. begins together us (u.0, key)) (smallest together us t) (smallest together us u) p (omega (arith, a, b)) in
        subst (λ c. count_below (smallest together us t) (λ key. begins together us (c, key)) < count_below (smallest together us u) (λ key. begins together us (u.0, key))) (sym c) n

    -- Each smaller number is that of a member of the class.
    pub number_dense : (t : ℕ × ℕ) (j : ℕ) → j < group_number together us t → (u : ℕ × ℕ) × In us u × (u.0 ≡ t.0) × (group_number together us u ≡ j)
    unfolding group_number
    number_dense t j h =
        let d = count_dense (λ key. begins together us (t.0, key)) (smallest together us t) j h in
        let m : smallest together us (t.0, d.number) ≡ d.number = exact_unsigned_eq _ _ (second_so _ _ d.passes) in
        ((t.0, d.number), any_in us (t.0, d.number) (first_so _ _ d.passes), refl, ap (λ z. count_below z (λ key. begins together us (t.0, key))) m ∙ d.is)
