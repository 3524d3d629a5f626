-- The pools of a checkpoint's entries, one after another.
use Rattle.std.specs.Prelude.{◌≡◌, ℕ, zero, suc, ◌+◌, ◌-◌, ◌<◌, ◌≤◌, Bool, true, false, ◌&&◌, ◌==◌, List, [], ◌∷◌, ◌++◌, length, take, drop, slice_get, Some, if◌then◌else◌}
use Rattle.std.specs.List.{AllByRecursion, flat_map}
use Rattle.std.proofs.Common.{ap, arith, refl, sym, ◌∙◌, subst, append_assoc, get_or, drop-cons, add-one}
use Rattle.std.proofs.lemmas.List.{drop_all, length-drop, append-nil}
use Rattle.std.proofs.lemmas.Bool.Decides.{nat_tests}
use Rattle.jfr_pool.specs.declared.entry.EntryAt.{EntryAt}
use Rattle.jfr_chunk.specs.Written.{Group, add_entry, by_pool}
use Rattle.jfr_output.specs.Pools.{same_pool, leading}

-- Of one pool: the same numbers.
same_is : (e f : EntryAt) → same_pool e f ≡ true → (e.pool ≡ f.pool) × (e.class ≡ f.class)
same_is e f h = by_test (e.pool == f.pool) refl (e.class == f.class) refl h
  where
    by_test : (a : Bool) → (e.pool == f.pool) ≡ a → (b : Bool) → (e.class == f.class) ≡ b → a && b ≡ true → (e.pool ≡ f.pool) × (e.class ≡ f.class)
    by_test true p true q i = (grind (arith, p), grind (arith, q))
    by_test true p false q i = cc
    by_test false p b q i = cc

leading_same : (e f : EntryAt) (es : List EntryAt) → e.pool ≡ f.pool → e.class ≡ f.class → leading e es ≡ leading f es
leading_same e f [] p q = refl
leading_same e f (x ∷ es) p q =
    ap (λ n. if (n == x.pool) && (e.class == x.class) then suc (leading e es) else 0) p
    ∙ (ap (λ n. if (f.pool == x.pool) && (n == x.class) then suc (leading e es) else 0) q
    ∙ ap (λ n. if same_pool f x then suc n else 0) (leading_same e f es p q))

-- The first pool of some entries.
abbrev pub first_group : EntryAt → List EntryAt → Group
first_group e es = record { class = e.class; pool = e.pool; entries = e ∷ take (leading e es) es }

pub by_first : (e : EntryAt) (es : List EntryAt) → by_pool (e ∷ es) ≡ first_group e es ∷ by_pool (drop (leading e es) es)
by_first e [] = refl
by_first e (f ∷ fs) = let i = by_first f fs in ap (add_entry e) i ∙ by_test i (same_pool e f) refl
  where
    by_test : by_pool (f ∷ fs) ≡ first_group f fs ∷ by_pool (drop (leading f fs) fs) → (b : Bool) → same_pool e f ≡ b →
        (if b then record { class = f.class; pool = f.pool; entries = e ∷ f ∷ take (leading f fs) fs } ∷ by_pool
        (drop (leading f fs) fs) else record { class = e.class; pool = e.pool; entries = e ∷ [] } ∷ (first_group f fs ∷ by_pool (drop (leading f fs) fs)))
        ≡ record { class = e.class; pool = e.pool; entries = e ∷ take (if b then suc (leading e fs) else 0) (f ∷ fs) } ∷ by_pool (drop (if b then suc (leading e fs) else 0) (f ∷ fs))
    by_test i true h =
        let s = same_is e f h in
        let l : leading f fs ≡ leading e fs = sym (leading_same e f fs s.0 s.1) in
        λ j. record { class = (sym s.1) j; pool = (sym s.0) j; entries = e ∷ f ∷ take (l j) fs } ∷ by_pool (drop (l j) fs)
    by_test i false h = ap (λ gs. record { class = e.class; pool = e.pool; entries = e ∷ [] } ∷ gs) (sym i)

pub itself : (e : EntryAt) → same_pool e e ≡ true
itself e = let p : (e.pool == e.pool) ≡ true = grind (arith, nat_tests) in let q : (e.class == e.class) ≡ true = grind (arith, nat_tests) in rw (p, q) refl

-- The entries of the first pool, and those after it.
pub by_leading : (e : EntryAt) (es : List EntryAt) →
    by_pool (e ∷ es) ≡ record { class = e.class; pool = e.pool; entries = take (leading e (e ∷ es)) (e ∷ es) } ∷ by_pool (drop (leading e (e ∷ es)) (e ∷ es))
by_leading e es =
    let l : leading e (e ∷ es) ≡ suc (leading e es) = ap (λ b. if b then suc (leading e es) else 0) (itself e) in
    by_first e es ∙ ap (λ n. record { class = e.class; pool = e.pool; entries = take n (e ∷ es) } ∷ by_pool (drop n (e ∷ es))) (sym l)

pub some_leading : (e : EntryAt) (es : List EntryAt) → 1 ≤ leading e (e ∷ es)
some_leading e es = let l : leading e (e ∷ es) ≡ suc (leading e es) = ap (λ b. if b then suc (leading e es) else 0) (itself e) in omega arith

-- Fewer are left after the first one's pool.
pub rest_smaller : (es rest : List EntryAt) (e : EntryAt) (n : ℕ) → slice_get es 0 ≡ Some e → n ≡ leading e es → rest ≡ drop n es → length rest < length es
rest_smaller [] rest e n g l r = cc
rest_smaller (x ∷ es) rest e n g l r =
    let same : x ≡ e = cc in
    let s : 1 ≤ leading e (x ∷ es) = subst (λ z. 1 ≤ leading z (x ∷ es)) same (some_leading x es) in
    let k : length rest ≡ suc (length es) - n = ap length r ∙ length-drop n (x ∷ es) in
    omega arith

-- All but the first ones.
pub all_drop : (P : EntryAt → Type 0) (es : List EntryAt) (i : ℕ) → AllByRecursion P es → AllByRecursion P (drop i es)
all_drop P es zero a = a
all_drop P [] (suc i) a = tt
all_drop P (e ∷ es) (suc i) a = all_drop P es i a.1

pub all_take : (P : EntryAt → Type 0) (es : List EntryAt) (i : ℕ) → AllByRecursion P es → AllByRecursion P (take i es)
all_take P es zero a = tt
all_take P [] (suc i) a = tt
all_take P (e ∷ es) (suc i) a = (a.0, all_take P es i a.1)

pub all_get_or : (P : EntryAt → Type 0) (es : List EntryAt) (i : ℕ) (d : EntryAt) → AllByRecursion P es → i < length es → P (get_or es i d)
all_get_or P [] i d a h = absurd (omega (arith, h))
all_get_or P (e ∷ es) zero d a h = a.0
all_get_or P (e ∷ es) (suc i) d a h = all_get_or P es i d a.1 (omega (arith, h))

-- One more of what is written of entries.
pub flat_next : (f : EntryAt → List ℕ) (es : List EntryAt) (i : ℕ) (d : EntryAt) → i < length es → flat_map f (take (i + 1) es) ≡ flat_map f (take i es) ++ f (get_or es i d)
flat_next f [] i d h = absurd (omega (arith, h))
flat_next f (e ∷ es) zero d h = append-nil (f e)
flat_next f (e ∷ es) (suc i) d h =
    let q : suc i + 1 ≡ suc (i + 1) = omega arith in
    ap (λ n. flat_map f (take n (e ∷ es))) q ∙ (ap (λ z. f e ++ z) (flat_next f es i d (omega (arith, h))) ∙ sym (append_assoc (f e) (flat_map f (take i es)) (f (get_or es i d))))

-- The first pool, and those after it.
pub by_first_of : (rest : List EntryAt) (e : EntryAt) → slice_get rest 0 ≡ Some e
    → by_pool rest ≡ record { class = e.class; pool = e.pool; entries = take (leading e rest) rest } ∷ by_pool (drop (leading e rest) rest)
by_first_of [] e g = cc
by_first_of (x ∷ behind) e g =
    let same : x ≡ e = cc in
    subst (λ z. by_pool (z ∷ behind) ≡ record { class = e.class; pool = e.pool; entries = take (leading e (z ∷ behind)) (z ∷ behind) } ∷ by_pool (drop (leading e (z ∷ behind)) (z ∷ behind)))
    (sym same) (by_leading e behind)

-- The length of the first pool of some entries.
pub leading_within : (e : EntryAt) (es : List EntryAt) → leading e es ≤ length es
leading_within e [] = omega arith
leading_within e (f ∷ fs) = by_test (same_pool e f) (leading_within e fs)
  where
    by_test : (b : Bool) → leading e fs ≤ length fs → (if b then suc (leading e fs) else 0) ≤ suc (length fs)
    by_test true h = omega arith
    by_test false h = omega arith

pub drop_get : (es : List EntryAt) (i : ℕ) (d : EntryAt) → i < length es → drop i es ≡ get_or es i d ∷ drop (i + 1) es
drop_get es i d h = drop-cons es i d h ∙ ap (λ n. get_or es i d ∷ drop n es) (sym (add-one i))

-- Going through the entries of one pool.
pub leading_stops : (e : EntryAt) (es : List EntryAt) (i : ℕ) (d : EntryAt) → i < length es → leading e es ≡ i + leading e (drop i es) → same_pool e (get_or es i d) ≡ false → i ≡ leading e es
leading_stops e es i d h l s =
    let z : leading e (drop i es) ≡ 0 = ap (leading e) (drop_get es i d h) ∙ ap (λ b. if b then suc (leading e (drop (i + 1) es)) else 0) s in
    omega arith

pub leading_goes : (e : EntryAt) (es : List EntryAt) (i : ℕ) (d : EntryAt) → i < length es → leading e es ≡ i + leading e (drop i es) → same_pool e (get_or es i d) ≡ true
    → leading e es ≡ (i + 1) + leading e (drop (i + 1) es)
leading_goes e es i d h l s =
    let z : leading e (drop i es) ≡ suc (leading e (drop (i + 1) es)) = ap (leading e) (drop_get es i d h) ∙ ap (λ b. if b then suc (leading e (drop (i + 1) es)) else 0) s in
    omega arith

pub leading_all : (e : EntryAt) (es : List EntryAt) (i : ℕ) → length es ≤ i → i ≤ length es → leading e es ≡ i + leading e (drop i es) → length es ≡ leading e es
leading_all e es i h k l = let z : leading e (drop i es) ≡ 0 = ap (leading e) (drop_all i es h) in omega arith

-- There are no more pools than entries.
pub fewer : (es : List EntryAt) → length (by_pool es) ≤ length es
fewer [] = omega arith
fewer (e ∷ es) = by_rest (by_pool es) (fewer es)
  where
    by_rest : (gs : List Group) → length gs ≤ length es → length (add_entry e gs) ≤ suc (length es)
    by_rest [] h = omega arith
    by_rest (g ∷ gs) h = by_test ((e.pool == g.pool) && (e.class == g.class))
      where
        by_test : (b : Bool) → length (if b then record { class = g.class; pool = g.pool; entries = e ∷ g.entries } ∷ gs else record { class = e.class; pool = e.pool; entries = e ∷ [] } ∷ (g ∷ gs)) ≤ suc (length es)
        by_test true = omega arith
        by_test false = omega arith
