-- Members that a function gives for rising records, in order.
use Rattle.std.specs.Prelude.{◌≡◌, ℕ, ◌+◌, ◌<◌, ◌≤◌, Bool, true, false, ◌||◌, ◌==◌, ◌⊎◌, List, [], ◌∷◌, ◌++◌, find, Option, Some, None, is_some, if◌then◌else◌, ⊤}
use Rattle.std.specs.List.{filter_map, cons_option, list_any, AllByRecursion}
use Rattle.std.proofs.Common.{ap, arith, refl, sym, ◌∙◌, subst, inl, inr, append_assoc}
use Rattle.std.proofs.lemmas.Bool.{cases_lt}
use Rattle.std.proofs.lemmas.Bool.Decides.{nat_tests}
use Rattle.jfr_frame.specs.declared.framed.Framed.{Framed}
use Rattle.jfr_frame.specs.Records.{Rising}
use Rattle.jfr_chunk.specs.Reach.{marked}

-- The members are one after another, from an offset on.
abbrev pub Rises : {X : Type 0} → (X → ℕ) → ℕ → List X → Type 0
Rises place p [] = ⊤
Rises place p (x ∷ xs) = (p ≤ place x) × Rises place (place x + 1) xs

pub rises_less : {X : Type 0} (place : X → ℕ) (p q : ℕ) (xs : List X) → p ≤ q → Rises place q xs → Rises place p xs
rises_less place p q [] h a = tt
rises_less place p q (x ∷ xs) h a = let i : q ≤ place x = a.0 in (omega arith, a.1)

pub rises_marked : {X : Type 0} (place : X → ℕ) (p : ℕ) (fs : List Bool) (xs : List X) → Rises place p xs → Rises place p (marked fs xs)
rises_marked place p [] xs a = tt
rises_marked place p (f ∷ fs) [] a = tt
rises_marked place p (true ∷ fs) (x ∷ xs) a = (a.0, rises_marked place (place x + 1) fs xs a.1)
rises_marked place p (false ∷ fs) (x ∷ xs) a = let i : p ≤ place x = a.0 in rises_less place p (place x + 1) (marked fs xs) (omega arith) (rises_marked place (place x + 1) fs xs a.1)

-- The function gives a value at the record's offset.
abbrev pub Stands : {X : Type 0} → (X → ℕ) → (Framed → Option X) → Type 0
Stands {X} place f = (r : Framed) (x : X) → f r ≡ Some x → place x ≡ r.at

pub rises_given : {X : Type 0} (place : X → ℕ) (f : Framed → Option X) → Stands place f → (p : ℕ) (rs : List Framed) → Rising p rs → Rises place p (filter_map f rs)
rises_given place f s p [] a = tt
rises_given {X = X} place f s p (r ∷ rs) a = by_value (f r) refl (rises_given place f s (r.at + 1) rs a.1)
  where
    by_value : (o : Option X) → f r ≡ o → Rises place (r.at + 1) (filter_map f rs) → Rises place p (cons_option o (filter_map f rs))
    by_value None e h = let i : p ≤ r.at = a.0 in rises_less place p (r.at + 1) (filter_map f rs) (omega arith) h
    by_value (Some x) e h = let w = s r x e in let i : p ≤ r.at = a.0 in (omega arith, subst (λ n. Rises place (n + 1) (filter_map f rs)) (sym w) h)

-- The first value is at the first record.
pub at_head : {X : Type 0} (place : X → ℕ) (f : Framed → Option X) → Stands place f → (r : Framed) (rs : List Framed) (x : X) (xs : List X) → Rising (r.at + 1) rs → x ∷ xs ≡ filter_map f (r ∷ rs)
    → place x ≡ r.at →
    (f r ≡ Some x) × (xs ≡ filter_map f rs)
at_head {X = X} place f s r rs x xs a e h = by_value (f r) refl e (rises_given place f s (r.at + 1) rs a)
  where
    past : (ys : List X) → x ∷ xs ≡ ys → Rises place (r.at + 1) ys → ⊥
    past [] e b = cc
    past (y ∷ ys) e b = let q : x ≡ y = cc in let i : r.at + 1 ≤ place y = b.0 in omega (arith, ap place q)

    by_value : (o : Option X) → f r ≡ o → x ∷ xs ≡ cons_option o (filter_map f rs) → Rises place (r.at + 1) (filter_map f rs) → (f r ≡ Some x) × (xs ≡ filter_map f rs)
    by_value None q e b = absurd (past (filter_map f rs) e b)
    by_value (Some y) q e b = let i : x ≡ y = cc in (q ∙ ap (λ z. Some z) (sym i), cc)

-- All values are past the first record.
pub past_head : {X : Type 0} (place : X → ℕ) (f : Framed → Option X) → Stands place f → (r : Framed) (rs : List Framed) (xs : List X) → xs ≡ filter_map f (r ∷ rs) → Rises place (r.at + 1) xs →
    (f r ≡ None) × (xs ≡ filter_map f rs)
past_head {X = X} place f s r rs xs e b = by_value (f r) refl e
  where
    not_first : (y : X) (ys zs : List X) → Rises place (r.at + 1) zs → zs ≡ y ∷ ys → place y ≡ r.at → ⊥
    not_first y ys [] b e h = cc
    not_first y ys (z ∷ zs) b e h = let q : z ≡ y = cc in let i : r.at + 1 ≤ place z = b.0 in omega (arith, ap place q)

    by_value : (o : Option X) → f r ≡ o → xs ≡ cons_option o (filter_map f rs) → (f r ≡ None) × (xs ≡ filter_map f rs)
    by_value None q e = (q, e)
    by_value (Some y) q e = absurd (not_first y (filter_map f rs) xs b e (s r y q))

-- The first value isn't at the first record.
pub elsewhere : {X : Type 0} (place : X → ℕ) (f : Framed → Option X) → Stands place f → (r : Framed) (rs : List Framed) (x : X) (xs : List X) → Rising r.at (r ∷ rs) → x ∷ xs ≡ filter_map f (r ∷ rs)
    → (place x == r.at) ≡ false →
    Rises place (r.at + 1) (x ∷ xs)
elsewhere {X = X} place f s r rs x xs a e h = by_list (filter_map f (r ∷ rs)) e (rises_given place f s r.at (r ∷ rs) a)
  where
    unequal : (m n : ℕ) → (m == n) ≡ false → m ≡ n → ⊥
    unequal m n h e = let t : (m == n) ≡ true = grind (arith, nat_tests) in clash (m == n) h t
      where
        clash : (b : Bool) → b ≡ false → b ≡ true → ⊥
        clash b p q = cc

    by_list : (ys : List X) → x ∷ xs ≡ ys → Rises place r.at ys → Rises place (r.at + 1) (x ∷ xs)
    by_list [] e b = cc
    by_list (y ∷ ys) e b =
        let c : Rises place r.at (x ∷ xs) = subst (Rises place r.at) (sym e) b in
        let i : r.at ≤ place x = c.0 in
        let n : place x ≡ r.at → ⊥ = unequal (place x) r.at h in
        (omega (arith, n), c.1)

-- The member that a search by offset finds is at this offset.
pub found_place : {X : Type 0} (place : X → ℕ) (xs : List X) (at : ℕ) (x : X) → find (λ y. place y == at) xs ≡ Some x → place x ≡ at
found_place place [] at x e = cc
found_place {X = X} place (y ∷ ys) at x e = by_test (place y == at) refl e (found_place place ys at x)
  where
    by_test : (b : Bool) → (place y == at) ≡ b → (if b then Some y else find (λ z. place z == at) ys) ≡ Some x → (find (λ z. place z == at) ys ≡ Some x → place x ≡ at) → place x ≡ at
    by_test true t e g = let q : y ≡ x = cc in subst (λ z. place z ≡ at) q (grind (arith, t))
    by_test false t e g = g e

pub any_found : {X : Type 0} (t : X → Bool) (xs : List X) → list_any t xs ≡ is_some (find t xs)
any_found t [] = refl
any_found {X = X} t (x ∷ xs) = by_test (t x) (any_found t xs)
  where
    by_test : (b : Bool) → list_any t xs ≡ is_some (find t xs) → b || list_any t xs ≡ is_some (if b then Some x else find t xs)
    by_test true e = refl
    by_test false e = e

-- A record starts at the place.
abbrev pub Occurs : ℕ → List Framed → Type 0
Occurs at [] = ⊥
Occurs at (r ∷ rs) = (r.at ≡ at) ⊎ Occurs at rs

abbrev pub AllOccur : {X : Type 0} → (X → ℕ) → List Framed → List X → Type 0
AllOccur place rs xs = AllByRecursion (λ x. Occurs (place x) rs) xs

-- All before a place.
abbrev Low : {X : Type 0} → (X → ℕ) → ℕ → List X → Type 0
Low place at xs = AllByRecursion (λ x. place x < at) xs

low_more : {X : Type 0} (place : X → ℕ) (p q : ℕ) (xs : List X) → p ≤ q → Low place p xs → Low place q xs
low_more place p q [] h a = tt
low_more place p q (x ∷ xs) h a = let i : place x < p = a.0 in (omega arith, low_more place p q xs h a.1)

low_append : {X : Type 0} (place : X → ℕ) (at : ℕ) (xs : List X) (x : X) → Low place at xs → place x < at → Low place at (xs ++ x ∷ [])
low_append place at [] x a h = (h, tt)
low_append place at (y ∷ xs) x a h = (a.0, low_append place at xs x a.1 h)

none_rising : {X : Type 0} (place : X → ℕ) (at p : ℕ) (xs : List X) → at < p → Rises place p xs → find (λ y. place y == at) xs ≡ None
none_rising place at p [] h a = refl
none_rising place at p (x ∷ xs) h a =
    let i : p ≤ place x = a.0 in
    let e : (place x == at) ≡ false = grind (arith, nat_tests) in
    rw e (none_rising place at (place x + 1) xs (omega arith) a.1)

after_low : {X : Type 0} (place : X → ℕ) (at p : ℕ) (ds xs : List X) → p ≤ at → Low place p ds → find (λ y. place y == at) (ds ++ xs) ≡ find (λ y. place y == at) xs
after_low place at p [] xs h a = refl
after_low place at p (d ∷ ds) xs h a =
    let i : place d < p = a.0 in
    let e : (place d == at) ≡ false = grind (arith, nat_tests) in
    rw e (after_low place at p ds xs h a.1)

occur_after : {X : Type 0} (place : X → ℕ) (r : Framed) (rs : List Framed) (p : ℕ) (xs : List X) → r.at < p → Rises place p xs → AllOccur place (r ∷ rs) xs → AllOccur place rs xs
occur_after place r rs p [] h a o = tt
occur_after place r rs p (x ∷ xs) h a o = (one o.0, occur_after place r rs (place x + 1) xs (omega (arith, a.0)) a.1 o.1)
  where
    one : ((r.at ≡ place x) ⊎ Occurs (place x) rs) → Occurs (place x) rs
    one (inl e) = let i : p ≤ place x = a.0 in absurd (omega arith)
    one (inr o) = o

-- Rising members that occur are those that are found at the records, in order.
module _ {X : Type 0} (place : X → ℕ) (all : List X) where
  abbrev at_record : Framed → Option X
  at_record r = find (λ x. place x == r.at) all

  pub in_order : (rs : List Framed) (p : ℕ) (done todo : List X) → Rising p rs → all ≡ done ++ todo → Low place p done → Rises place p todo → AllOccur place rs todo → filter_map at_record rs ≡ todo
  in_order [] p done [] t e a b o = refl
  in_order [] p done (x ∷ todo) t e a b o = absurd o.0
  in_order (r ∷ rs) p done [] t e a b o =
      let i : p ≤ r.at = t.0 in
      let f : at_record r ≡ None = ap (find (λ x. place x == r.at)) e ∙ after_low place r.at p done [] i a in
      ap (λ z. cons_option z (filter_map at_record rs)) f ∙ in_order rs (r.at + 1) done [] t.1 e (low_more place p (r.at + 1) done (omega arith) a) tt tt
  in_order (r ∷ rs) p done (x ∷ todo) t e a b o =
      by_place (cases_lt r.at (place x))
      (in_order rs (r.at + 1) done (x ∷ todo) t.1 e)
      (in_order rs (r.at + 1) (done ++ (x ∷ [])) todo t.1 (e ∙ sym (append_assoc done (x ∷ []) todo)))
    where
      by_place : ((r.at < place x) ⊎ (place x ≤ r.at))
          → (Low place (r.at + 1) done → Rises place (r.at + 1) (x ∷ todo) → AllOccur place rs (x ∷ todo) → filter_map at_record rs ≡ x ∷ todo)
          → (Low place (r.at + 1) (done ++ (x ∷ [])) → Rises place (r.at + 1) todo → AllOccur place rs todo → filter_map at_record rs ≡ todo)
          → filter_map at_record (r ∷ rs) ≡ x ∷ todo
      by_place (inl h) f g =
          let i : p ≤ r.at = t.0 in
          let u : Rises place (r.at + 1) (x ∷ todo) = (omega arith, b.1) in
          let v = occur_after place r rs (r.at + 1) (x ∷ todo) (omega arith) u o in
          let w : at_record r ≡ None = ap (find (λ x. place x == r.at)) e ∙ (after_low place r.at p done (x ∷ todo) i a ∙ none_rising place r.at (r.at + 1) (x ∷ todo) (omega arith) u) in
          ap (λ z. cons_option z (filter_map at_record rs)) w ∙ f (low_more place p (r.at + 1) done (omega arith) a) u v
      by_place (inr h) f g =
          let i : p ≤ r.at = t.0 in
          let z : place x ≡ r.at = same_place o.0 in
          let v = occur_after place r rs (place x + 1) todo (omega arith) b.1 o.1 in
          let k : (place x == r.at) ≡ true = grind (arith, nat_tests) in
          let w : at_record r ≡ Some x = ap (find (λ x. place x == r.at)) e ∙ (after_low place r.at p done (x ∷ todo) i a ∙ ap (λ c. if c then Some x else find (λ x. place x == r.at) todo) k) in
          ap (λ z. cons_option z (filter_map at_record rs)) w
          ∙ ap (λ ts. x ∷ ts) (g (low_append place (r.at + 1) done x (low_more place p (r.at + 1) done (omega arith) a) (omega arith)) (subst (λ n. Rises place (n + 1) todo) z b.1) v)
        where
          least : (n : ℕ) (ss : List Framed) → Rising n ss → Occurs (place x) ss → n ≤ place x
          least n [] t o = absurd o
          least n (s ∷ ss) t (inl e) = let i : n ≤ s.at = t.0 in omega arith
          least n (s ∷ ss) t (inr o) = let i : n ≤ s.at = t.0 in let j = least (s.at + 1) ss t.1 o in omega arith

          same_place : ((r.at ≡ place x) ⊎ Occurs (place x) rs) → place x ≡ r.at
          same_place (inl e) = sym e
          same_place (inr o) = let j = least (r.at + 1) rs t.1 o in absurd (omega arith)
