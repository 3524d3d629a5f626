-- A class and key: when two are equal, and the last entry that has both.
use Rattle.std.specs.Prelude.{◌≡◌, ◌⊎◌, ℕ, suc, ◌+◌, Bool, true, false, cond, ◌&&◌, ◌==◌, nat_lt, List, [], ◌∷◌, ◌++◌, length, Some, None, IsSome}
use Rattle.std.proofs.Common.{ap, arith, refl, sym, ◌∙◌, inl, inr, subst}
use Rattle.std.specs.declared.cmp.Ordering.{Ordering}
use Rattle.std.specs.declared.cmp.Ordering.TheVariants.{Less, Equal, Greater}
use Rattle.std.specs.Ordering.{nat_cmp, ordering_then, is_eq}
use Rattle.jfr_pool.specs.declared.entry.EntryAt.{EntryAt}
use Rattle.jfr_pool.specs.Entries.{or_later, last_from, number_in_force}
use Rattle.jfr_pool.specs.Index.{target_cmp}

pub clash : (b : Bool) → b ≡ true → b ≡ false → ⊥
clash b p q = cc

abbrev pub hits : EntryAt → ℕ × ℕ → Bool
hits e t = (e.class == t.0) && (e.key == t.1)

-- Two targets whose parts compare equal are equal.
pub same_target : (c k : ℕ) (t : ℕ × ℕ) → ((c == t.0) && (k == t.1)) ≡ true → (c, k) ≡ t
same_target c k t h = by_parts (c == t.0) refl (k == t.1) refl h
  where
    pair : (a b : ℕ) → a ≡ t.0 → b ≡ t.1 → (a, b) ≡ t
    pair a b p q = ap (λ z. (z, b)) p ∙ ap (λ z. (t.0, z)) q

    by_parts : (a : Bool) → (c == t.0) ≡ a → (b : Bool) → (k == t.1) ≡ b → (a && b) ≡ true → (c, k) ≡ t
    by_parts true p true q h = pair c k (grind (arith, p)) (grind (arith, q))
    by_parts true p false q h = cc
    by_parts false p b q h = cc

pub target_same : (c k : ℕ) (t : ℕ × ℕ) → (c, k) ≡ t → ((c == t.0) && (k == t.1)) ≡ true
target_same c k t h =
    let a : c ≡ t.0 = ap (λ (z : ℕ × ℕ). z.0) h in
    let b : k ≡ t.1 = ap (λ (z : ℕ × ℕ). z.1) h in
    let p : (c == t.0) ≡ true = grind (arith, a) in
    let q : (k == t.1) ≡ true = grind (arith, b) in
    rw (p, q) refl

-- Keys that compare equal are equal.
eq_number : (x y : ℕ) → is_eq (nat_cmp x y) ≡ (x == y)
eq_number x y = by_tests (nat_lt x y) refl (x == y) refl
  where
    by_tests : (a : Bool) → nat_lt x y ≡ a → (b : Bool) → (x == y) ≡ b → is_eq (cond a Less (cond b Equal Greater)) ≡ b
    by_tests true e true f = absurd (grind (arith, e, f))
    by_tests true e false f = refl
    by_tests false e true f = refl
    by_tests false e false f = refl

eq_then : (a b : Ordering) → is_eq (ordering_then a b) ≡ (is_eq a && is_eq b)
eq_then Less b = refl
eq_then Equal b = refl
eq_then Greater b = refl

pub eq_target : (s t : ℕ × ℕ) → is_eq (target_cmp s t) ≡ ((s.0 == t.0) && (s.1 == t.1))
eq_target s t = eq_then (nat_cmp s.0 t.0) (nat_cmp s.1 t.1) ∙ ap (λ b. b && is_eq (nat_cmp s.1 t.1)) (eq_number s.0 t.0) ∙ ap (λ b. (s.0 == t.0) && b) (eq_number s.1 t.1)

-- One entry more.
last_push : (n : ℕ) (es : List EntryAt) (e : EntryAt) (t : ℕ × ℕ) → last_from n (es ++ e ∷ []) t ≡ cond (hits e t) (Some (n + length es)) (last_from n es t)
last_push n [] e t = by_test (hits e t) (let q : n + 0 ≡ n = omega arith in ap (λ m. Some m) (sym q))
  where
    by_test : (b : Bool) → Some n ≡ Some (n + 0) → or_later n b None ≡ cond b (Some (n + 0)) None
    by_test true q = q
    by_test false q = refl
last_push n (x ∷ es) e t = ap (or_later n (hits x t)) (last_push (n + 1) es e t) ∙ by_test (hits e t) (let q : n + 1 + length es ≡ n + suc (length es) = omega arith in ap (λ m. Some m) q)
  where
    by_test : (b : Bool) → Some (n + 1 + length es) ≡ Some (n + suc (length es))
        → or_later n (hits x t) (cond b (Some (n + 1 + length es)) (last_from (n + 1) es t)) ≡ cond b (Some (n + suc (length es))) (or_later n (hits x t) (last_from (n + 1) es t))
    by_test true q = q
    by_test false q = refl

pub force_push : (es : List EntryAt) (e : EntryAt) (t : ℕ × ℕ) → number_in_force (es ++ e ∷ []) t ≡ cond (hits e t) (Some (length es)) (number_in_force es t)
unfolding number_in_force
force_push es e t = last_push 0 es e t ∙ (let q : 0 + length es ≡ length es = omega arith in ap (λ m. cond (hits e t) (Some m) (last_from 0 es t)) q)

pub force_none : (t : ℕ × ℕ) → number_in_force [] t ≡ None
unfolding number_in_force
force_none t = refl

-- A target that has an entry has one when there is one more.
pub some_push : (es : List EntryAt) (e : EntryAt) (t : ℕ × ℕ) → ((hits e t ≡ true) ⊎ IsSome (number_in_force es t)) → IsSome (number_in_force (es ++ e ∷ []) t)
some_push es e t h = subst (λ o. IsSome o) (sym (force_push es e t)) (by_case (hits e t) h)
  where
    by_case : (b : Bool) → ((b ≡ true) ⊎ IsSome (number_in_force es t)) → IsSome (cond b (Some (length es)) (number_in_force es t))
    by_case true h = refl
    by_case false (inl h) = cc
    by_case false (inr h) = h
