-- Members of a list of records.
use Rattle.std.specs.Prelude.{◌≡◌, ℕ, zero, suc, ◌+◌, ◌<◌, ◌≤◌, ◌⊎◌, Bool, true, false, ◌&&◌, ◌||◌, ◌==◌, nat_lt, List, [], ◌∷◌, length, find, Some, IsTrue, Contains, if◌then◌else◌}
use Rattle.std.proofs.Common.{ap, arith, refl, sym, ◌∙◌, inl, inr, subst}
use Rattle.jfr_frame.specs.declared.framed.Framed.{Framed}
use Rattle.jfr_frame.specs.Records.{IsRecord, Tiles, Rising, starts_at, record_end, record_there}

-- One of these.
abbrev pub Among : {X : Type 0} → List X → X → Type 0
Among [] x = ⊥
Among (y ∷ ys) x = (y ≡ x) ⊎ Among ys x

pub among_of : {X : Type 0} (xs : List X) (x : X) → Contains xs x → Among xs x
among_of [] x (k, l, e) = absurd (omega arith)
among_of (y ∷ ys) x (zero, l, e) = inl e
among_of (y ∷ ys) x (suc k, l, e) = inr (among_of ys x (k, omega arith, e))

pub contains_of : {X : Type 0} (xs : List X) (x : X) → Among xs x → Contains xs x
contains_of [] x a = absurd a
contains_of (y ∷ ys) x (inl e) = (0, omega arith, e)
contains_of (y ∷ ys) x (inr a) = let (k, l, e) = contains_of ys x a in (suc k, omega arith, e)

-- What a test finds passes it, and is one of the list.
pub found_among : {X : Type 0} (t : X → Bool) (xs : List X) (x : X) → find t xs ≡ Some x → Among xs x × (t x ≡ true)
found_among t [] x e = cc
found_among {X = X} t (y ∷ ys) x e = by_test (t y) refl e (found_among t ys x)
  where
    by_test : (b : Bool) → t y ≡ b → (if b then Some y else find t ys) ≡ Some x → (find t ys ≡ Some x → Among ys x × (t x ≡ true)) → ((y ≡ x) ⊎ Among ys x) × (t x ≡ true)
    by_test true h e f = let g : y ≡ x = cc in (inl g, subst (λ z. t z ≡ true) g h)
    by_test false h e f = let g = f e in (inr g.0, g.1)

-- If one passes the test, something is found.
pub some_found : {X : Type 0} (t : X → Bool) (xs : List X) (x : X) → Among xs x → t x ≡ true → (y : X) × (find t xs ≡ Some y)
some_found t [] x a h = absurd a
some_found {X = X} t (y ∷ ys) x a h = by_test (t y) refl a (λ b. some_found t ys x b h)
  where
    by_test : (b : Bool) → t y ≡ b → ((y ≡ x) ⊎ Among ys x) → (Among ys x → (z : X) × (find t ys ≡ Some z)) → (z : X) × ((if b then Some y else find t ys) ≡ Some z)
    by_test true e a f = (y, refl)
    by_test false e (inl g) f = absurd (clash (t y) (ap t g ∙ h) e)
      where
        clash : (b : Bool) → b ≡ true → b ≡ false → ⊥
        clash b p q = cc
    by_test false e (inr a) f = f a

both_true : (a b : Bool) → (a && b) ≡ true → (a ≡ true) × (b ≡ true)
both_true true b h = (refl, h)
both_true false b h = cc

-- A record of the type that is found at a place.
pub record CheckpointAt (rs : List Framed) (at : ℕ) (r : Framed) : Type 0 where
  pub among : Among rs r
  pub place : r.at ≡ at
  pub type_is : r.type_id ≡ 1

pub found_checkpoint : (rs : List Framed) (at : ℕ) (r : Framed) → record_there rs at 1 ≡ Some r → CheckpointAt rs at r
found_checkpoint rs at r e =
    let f = found_among (λ (z : Framed). (z.at == at) && (z.type_id == 1)) rs r e in
    let g = both_true (r.at == at) (r.type_id == 1) f.1 in
    record { among = f.0; place = (let p : (r.at == at) ≡ true = g.0 in grind arith); type_is = (let p : (r.type_id == 1) ≡ true = g.1 in grind arith) }

pub passes : (at : ℕ) (r : Framed) → r.at ≡ at → r.type_id ≡ 1 → ((r.at == at) && (r.type_id == 1)) ≡ true
passes at r e f =
    let p : (r.at == at) ≡ true = grind arith in
    let q : (r.type_id == 1) ≡ true = grind arith in
    rw (p, q) refl

-- Whether one starts there and which one agree.
pub any_found : (rs : List Framed) (at : ℕ) → IsTrue (starts_at rs at 1) → (r : Framed) × (record_there rs at 1 ≡ Some r)
any_found [] at h = cc
any_found (r ∷ rs) at h = by_test ((r.at == at) && (r.type_id == 1)) h (any_found rs at)
  where
    by_test : (b : Bool) → IsTrue (b || starts_at rs at 1) → (IsTrue (starts_at rs at 1) → (s : Framed) × (record_there rs at 1 ≡ Some s))
        → (s : Framed) × ((if b then Some r else record_there rs at 1) ≡ Some s)
    by_test true h f = (r, refl)
    by_test false h f = f h

pub found_any : (rs : List Framed) (at : ℕ) (r : Framed) → record_there rs at 1 ≡ Some r → IsTrue (starts_at rs at 1)
found_any [] at r e = cc
found_any (x ∷ rs) at r e = by_test ((x.at == at) && (x.type_id == 1)) e (found_any rs at r)
  where
    by_test : (b : Bool) → (if b then Some x else record_there rs at 1) ≡ Some r → (record_there rs at 1 ≡ Some r → IsTrue (starts_at rs at 1)) → IsTrue (b || starts_at rs at 1)
    by_test true e f = refl
    by_test false e f = f e

-- Records of a chunk are records.
pub are_records : (c : List ℕ) (p q : ℕ) (rs : List Framed) → Tiles c p rs q → (r : Framed) → Among rs r → IsRecord c r
are_records c p q [] t r a = absurd a
are_records c p q (x ∷ rs) t r (inl e) = subst (IsRecord c) e t.1
are_records c p q (x ∷ rs) t r (inr a) = are_records c (record_end x) q rs t.2 r a

-- Each of them starts at p or later.
rises : (p : ℕ) (rs : List Framed) → Rising p rs → (r : Framed) → Among rs r → p ≤ r.at
rises p [] h r a = absurd a
rises p (x ∷ rs) h r (inl e) = let q : p ≤ x.at = h.0 in omega (arith, ap (λ (z : Framed). z.at) e)
rises p (x ∷ rs) h r (inr a) = let q : p ≤ x.at = h.0 in let i : x.at + 1 ≤ r.at = rises (x.at + 1) rs h.1 r a in omega arith

pub one_there : (p : ℕ) (rs : List Framed) → Rising p rs → (r s : Framed) → Among rs r → Among rs s → r.at ≡ s.at → r ≡ s
one_there p [] h r s a b e = absurd a
one_there p (x ∷ rs) h r s (inl f) (inl g) e = sym f ∙ g
one_there p (x ∷ rs) h r s (inl f) (inr b) e = let i : x.at + 1 ≤ s.at = rises (x.at + 1) rs h.1 s b in let j : x.at ≡ r.at = ap (λ (z : Framed). z.at) f in absurd (omega arith)
one_there p (x ∷ rs) h r s (inr a) (inl g) e = let i : x.at + 1 ≤ r.at = rises (x.at + 1) rs h.1 r a in let j : x.at ≡ s.at = ap (λ (z : Framed). z.at) g in absurd (omega arith)
one_there p (x ∷ rs) h r s (inr a) (inr b) e = one_there (x.at + 1) rs h.1 r s a b e

-- How many records start before a place.
abbrev pub count_before : List Framed → ℕ → ℕ
count_before [] at = 0
count_before (r ∷ rs) at = if nat_lt r.at at then suc (count_before rs at) else count_before rs at

count_more : (rs : List Framed) (p q : ℕ) → p ≤ q → count_before rs p ≤ count_before rs q
count_more [] p q h = omega arith
count_more (r ∷ rs) p q h = by_tests (nat_lt r.at p) refl (nat_lt r.at q) refl (count_more rs p q h)
  where
    by_tests : (a : Bool) → nat_lt r.at p ≡ a → (b : Bool) → nat_lt r.at q ≡ b → count_before rs p ≤ count_before rs q
        → (if a then suc (count_before rs p) else count_before rs p) ≤ (if b then suc (count_before rs q) else count_before rs q)
    by_tests true e true f i = omega arith
    by_tests true e false f i = absurd (grind (arith, e, f))
    by_tests false e true f i = omega arith
    by_tests false e false f i = i

pub count_less : (rs : List Framed) (q : ℕ) (r : Framed) → Among rs r → r.at < q → count_before rs r.at < count_before rs q
count_less [] q r a h = absurd a
count_less (x ∷ rs) q r (inl e) h =
    let s : x.at ≡ r.at = ap (λ (z : Framed). z.at) e in
    let t : nat_lt x.at r.at ≡ false = grind arith in
    let u : nat_lt x.at q ≡ true = grind arith in
    let i : count_before rs r.at ≤ count_before rs q = count_more rs r.at q (omega arith) in
    rw (t, u) (omega arith)
count_less (x ∷ rs) q r (inr a) h = by_tests (nat_lt x.at r.at) refl (nat_lt x.at q) refl (count_less rs q r a h)
  where
    by_tests : (a : Bool) → nat_lt x.at r.at ≡ a → (b : Bool) → nat_lt x.at q ≡ b → count_before rs r.at < count_before rs q
        → (if a then suc (count_before rs r.at) else count_before rs r.at) < (if b then suc (count_before rs q) else count_before rs q)
    by_tests true e true f i = omega arith
    by_tests true e false f i = absurd (grind (arith, e, f))
    by_tests false e true f i = omega arith
    by_tests false e false f i = i

count_some : (rs : List Framed) (at : ℕ) → count_before rs at ≤ length rs
count_some [] at = omega arith
count_some (x ∷ rs) at = by_test (nat_lt x.at at) (count_some rs at)
  where
    by_test : (a : Bool) → count_before rs at ≤ length rs → (if a then suc (count_before rs at) else count_before rs at) ≤ suc (length rs)
    by_test true i = omega arith
    by_test false i = omega arith

pub count_all : (rs : List Framed) (r : Framed) → Among rs r → count_before rs r.at < length rs
count_all [] r a = absurd a
count_all (x ∷ rs) r (inl e) =
    let s : x.at ≡ r.at = ap (λ (z : Framed). z.at) e in
    let t : nat_lt x.at r.at ≡ false = grind arith in
    let i : count_before rs r.at ≤ length rs = count_some rs r.at in
    rw t (omega arith)
count_all (x ∷ rs) r (inr a) = by_test (nat_lt x.at r.at) (count_all rs r a)
  where
    by_test : (a : Bool) → count_before rs r.at < length rs → (if a then suc (count_before rs r.at) else count_before rs r.at) < suc (length rs)
    by_test true i = omega arith
    by_test false i = omega arith
