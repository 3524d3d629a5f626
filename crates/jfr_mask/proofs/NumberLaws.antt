-- Numbers of texts: each text has one, it stays, and no other text has it.
use Rattle.std.specs.Prelude.{◌≡◌, ℕ, zero, suc, ◌+◌, ◌-◌, ◌≤◌, ◌||◌, not, Bool, true, false, cond, List, [], ◌∷◌, ◌++◌, length, slice_get, Some, None, if◌then◌else◌}
use Rattle.std.specs.List.{AllByRecursion, position_or_len}
use Rattle.std.specs.Str.{bytes_eq}
use Rattle.std.proofs.Common.{◌⊎◌, inl, inr, ap, arith, refl, sym, ◌∙◌, subst, append-nil, append_assoc}
use Rattle.std.proofs.lemmas.List.Folds.{list_any-append}
use Rattle.std.proofs.lemmas.Slice.Eq.{bytes_eq-Decides}
use Rattle.jfr_mask.specs.Laws.{AreNumbered}
use Rattle.jfr_mask.specs.Pseudonyms.{Extends, IsDictionary, has_text, number_of, with_text, with_texts}

pub eq_self : (t : List ℕ) → bytes_eq t t ≡ true
eq_self t = (bytes_eq-Decides t t).1 refl

pub eq_is : (t u : List ℕ) → bytes_eq t u ≡ true → t ≡ u
eq_is t u = (bytes_eq-Decides t u).0

-- The index of a text, or the length of the list.
abbrev index_of : List (List ℕ) → List ℕ → ℕ
index_of d t = position_or_len (λ u. bytes_eq u t) d

-- A text that is there is at its index.
at_index : (d : List (List ℕ)) (t : List ℕ) → has_text d t ≡ true → slice_get d (index_of d t) ≡ Some t
at_index [] t h = cc
at_index (u ∷ us) t h = by_eq (bytes_eq u t) refl h (at_index us t)
  where
    by_eq : (b : Bool) → bytes_eq u t ≡ b → (b || has_text us t) ≡ true → (has_text us t ≡ true → slice_get us (index_of us t) ≡ Some t)
        → slice_get (u ∷ us) (cond (not b) (1 + index_of us t) 0) ≡ Some t
    by_eq true e h rest = ap Some (eq_is u t e)
    by_eq false e h rest = let s : 1 + index_of us t ≡ suc (index_of us t) = omega arith in rw s (rest h)

-- The index stays if texts are added at the end.
index_append : (d e : List (List ℕ)) (t : List ℕ) → has_text d t ≡ true → index_of (d ++ e) t ≡ index_of d t
index_append [] e t h = cc
index_append (u ∷ us) e t h = by_eq (bytes_eq u t) h (index_append us e t)
  where
    by_eq : (b : Bool) → (b || has_text us t) ≡ true → (has_text us t ≡ true → index_of (us ++ e) t ≡ index_of us t) → cond (not b) (1 + index_of (us ++ e) t) 0 ≡ cond (not b) (1 + index_of us t) 0
    by_eq true h rest = refl
    by_eq false h rest = ap (λ n. 1 + n) (rest h)

-- Equal indices are of equal texts.
index_one : (d : List (List ℕ)) (t u : List ℕ) → has_text d t ≡ true → has_text d u ≡ true → index_of d t ≡ index_of d u → t ≡ u
index_one d t u h i e = let s : Some t ≡ Some u = sym (at_index d t h) ∙ (ap (slice_get d) e ∙ at_index d u i) in cc

pub number_one : (d : List (List ℕ)) (t u : List ℕ) → has_text d t ≡ true → has_text d u ≡ true → number_of d t ≡ number_of d u → t ≡ u
number_one d t u h i e = index_one d t u h i (omega arith)

or_true : (a b : Bool) → a ≡ true → (a || b) ≡ true
or_true a b h = rw h refl

true_or : (a b : Bool) → b ≡ true → (a || b) ≡ true
true_or true b h = refl
true_or false b h = h

pub has_append : (d e : List (List ℕ)) (t : List ℕ) → has_text d t ≡ true → has_text (d ++ e) t ≡ true
has_append d e t h = list_any-append (λ u. bytes_eq u t) d e ∙ or_true (has_text d t) (has_text e t) h

pub has_last : (d : List (List ℕ)) (t : List ℕ) → has_text (d ++ t ∷ []) t ≡ true
has_last d t = list_any-append (λ u. bytes_eq u t) d (t ∷ []) ∙ true_or (has_text d t) (has_text (t ∷ []) t) (or_true (bytes_eq t t) false (eq_self t))

pub one_extends : (d : List (List ℕ)) (t : List ℕ) → Extends d (with_text d t)
one_extends d t = by_there (has_text d t)
  where
    by_there : (b : Bool) → Extends d (if b then d else d ++ t ∷ [])
    by_there true = record { rest = []; is = sym (append-nil d) }
    by_there false = record { rest = t ∷ []; is = refl }

pub extends : (d ts : List (List ℕ)) → Extends d (with_texts d ts)
extends d [] = record { rest = []; is = sym (append-nil d) }
extends d (t ∷ ts) =
    let one : Extends d (with_text d t) = one_extends d t in
    let more : Extends (with_text d t) (with_texts (with_text d t) ts) = extends (with_text d t) ts in
    record { rest = one.rest ++ more.rest; is = more.is ∙ (ap (λ z. z ++ more.rest) one.is ∙ append_assoc d one.rest more.rest) }

has_kept : (d ts : List (List ℕ)) (t : List ℕ) → has_text d t ≡ true → has_text (with_texts d ts) t ≡ true
has_kept d ts t h = let x : Extends d (with_texts d ts) = extends d ts in subst (λ z. has_text z t ≡ true) (sym x.is) (has_append d x.rest t h)

number_kept : (d ts : List (List ℕ)) (t : List ℕ) → has_text d t ≡ true → number_of (with_texts d ts) t ≡ number_of d t
number_kept d ts t h = let x : Extends d (with_texts d ts) = extends d ts in ap (λ z. number_of z t) x.is ∙ ap (λ n. n + 1) (index_append d x.rest t h)

pub has_one : (d : List (List ℕ)) (t : List ℕ) → has_text (with_text d t) t ≡ true
has_one d t = by_there (has_text d t) refl
  where
    by_there : (b : Bool) → has_text d t ≡ b → has_text (if b then d else d ++ t ∷ []) t ≡ true
    by_there true e = e
    by_there false e = has_last d t

has_each : (d ts : List (List ℕ)) → AllByRecursion (λ t. has_text (with_texts d ts) t ≡ true) ts
has_each d [] = tt
has_each d (t ∷ ts) = (has_kept (with_text d t) ts t (has_one d t), has_each (with_text d t) ts)

-- A text that isn't there is added with the next number; the others keep theirs.
index_last : (d : List (List ℕ)) (t : List ℕ) → has_text d t ≡ false → index_of (d ++ t ∷ []) t ≡ length d
index_last [] t h = ap (λ b. cond (not b) (1 + 0) 0) (eq_self t)
index_last (u ∷ us) t h = by_eq (bytes_eq u t) h (index_last us t)
  where
    by_eq : (b : Bool) → (b || has_text us t) ≡ false → (has_text us t ≡ false → index_of (us ++ t ∷ []) t ≡ length us) → cond (not b) (1 + index_of (us ++ t ∷ []) t) 0 ≡ length (u ∷ us)
    by_eq true h rest = cc
    by_eq false h rest = let r : index_of (us ++ t ∷ []) t ≡ length us = rest h in omega arith

pub number_last : (d : List (List ℕ)) (t : List ℕ) → has_text d t ≡ false → number_of (d ++ t ∷ []) t ≡ length d + 1
number_last d t h = ap (λ n. n + 1) (index_last d t h)

pub number_old : (d : List (List ℕ)) (t u : List ℕ) → has_text d u ≡ true → number_of (d ++ t ∷ []) u ≡ number_of d u
number_old d t u h = ap (λ n. n + 1) (index_append d (t ∷ []) u h)

or_false : (b : Bool) → (b || false) ≡ b
or_false true = refl
or_false false = refl

pub has_other : (d : List (List ℕ)) (t u : List ℕ) → bytes_eq t u ≡ false → has_text (d ++ t ∷ []) u ≡ has_text d u
has_other d t u h = list_any-append (λ v. bytes_eq v u) d (t ∷ []) ∙ (ap (λ b. has_text d u || (b || false)) h ∙ or_false (has_text d u))

-- A text that isn't there has the next number.
index_absent : (d : List (List ℕ)) (t : List ℕ) → has_text d t ≡ false → index_of d t ≡ length d
index_absent [] t h = refl
index_absent (u ∷ us) t h = by_eq (bytes_eq u t) h (index_absent us t)
  where
    by_eq : (b : Bool) → (b || has_text us t) ≡ false → (has_text us t ≡ false → index_of us t ≡ length us) → cond (not b) (1 + index_of us t) 0 ≡ length (u ∷ us)
    by_eq true h rest = cc
    by_eq false h rest = let r : index_of us t ≡ length us = rest h in omega arith

pub number_absent : (d : List (List ℕ)) (t : List ℕ) → has_text d t ≡ false → number_of d t ≡ length d + 1
number_absent d t h = ap (λ n. n + 1) (index_absent d t h)

-- A look-up without a result.
pub absent_found : (d : List (List ℕ)) (t : List ℕ) → None ≡ (if has_text d t then Some (number_of d t) else None) → has_text d t ≡ false
absent_found d t e = by_there (has_text d t) e
  where
    by_there : (b : Bool) → None ≡ (if b then Some (number_of d t) else None) → b ≡ false
    by_there true e = cc
    by_there false e = refl

-- A text at an index is there.
pub has_at : (d : List (List ℕ)) (i : ℕ) (t : List ℕ) → slice_get d i ≡ Some t → has_text d t ≡ true
has_at [] i t e = cc
has_at (u ∷ us) zero t e = let h : u ≡ t = cc in or_true (bytes_eq u t) (has_text us t) (ap (λ z. bytes_eq z t) h ∙ eq_self t)
has_at (u ∷ us) (suc i) t e = true_or (bytes_eq u t) (has_text us t) (has_at us i t e)

-- What is at an index after a text is added at the end.
pub at_added : (d : List (List ℕ)) (t u : List ℕ) (i : ℕ) → slice_get (d ++ t ∷ []) i ≡ Some u → (slice_get d i ≡ Some u) ⊎ ((i ≡ length d) × (t ≡ u))
at_added [] t u zero e = let h : t ≡ u = cc in inr (refl, h)
at_added [] t u (suc i) e = cc
at_added (v ∷ vs) t u zero e = inl e
at_added (v ∷ vs) t u (suc i) e = by_part (at_added vs t u i e)
  where
    by_part : ((slice_get vs i ≡ Some u) ⊎ ((i ≡ length vs) × (t ≡ u))) → (slice_get vs i ≡ Some u) ⊎ ((suc i ≡ suc (length vs)) × (t ≡ u))
    by_part (inl h) = inl h
    by_part (inr h) = inr (ap suc h.0, h.1)

pub distinct_added : (d : List (List ℕ)) (t : List ℕ) → IsDictionary d → has_text d t ≡ false → IsDictionary (d ++ t ∷ [])
distinct_added d t old absent = record { each = λ i u e. by_part i u (at_added d t u i e) }
  where
    by_part : (i : ℕ) (u : List ℕ) → ((slice_get d i ≡ Some u) ⊎ ((i ≡ length d) × (t ≡ u))) → number_of (d ++ t ∷ []) u ≡ i + 1
    by_part i u (inl h) = number_old d t u (has_at d i u h) ∙ old.each i u h
    by_part i u (inr h) = ap (number_of (d ++ t ∷ [])) (sym h.1) ∙ (number_last d t absent ∙ ap (λ n. n + 1) (sym h.0))

distinct_with : (d : List (List ℕ)) (t : List ℕ) → IsDictionary d → IsDictionary (with_text d t)
distinct_with d t old = by_there (has_text d t) refl
  where
    by_there : (b : Bool) → has_text d t ≡ b → IsDictionary (if b then d else d ++ t ∷ [])
    by_there true e = old
    by_there false e = distinct_added d t old e

distinct_all : (d ts : List (List ℕ)) → IsDictionary d → IsDictionary (with_texts d ts)
distinct_all d [] old = old
distinct_all d (t ∷ ts) old = distinct_all (with_text d t) ts (distinct_with d t old)

pub distinct_nil : IsDictionary []
distinct_nil = record { each = λ i t e. cc }

pub at_number : (d : List (List ℕ)) (t : List ℕ) → has_text d t ≡ true → slice_get d (number_of d t - 1) ≡ Some t
at_number d t h = let e : number_of d t - 1 ≡ index_of d t = omega arith in rw e (at_index d t h)

pub are_numbered : (d ts : List (List ℕ)) → AreNumbered d ts
are_numbered d ts = record {
  distinct = distinct_all d ts;
  there = has_each d ts;
  kept = has_kept d ts;
  at_number = at_number d;
  stable = number_kept d ts;
  one = number_one d;
}

pub number_most : (d : List (List ℕ)) (t : List ℕ) → number_of d t ≤ length d + 1
number_most [] t = omega arith
number_most (u ∷ us) t = by_eq (bytes_eq u t) (number_most us t)
  where
    by_eq : (b : Bool) → index_of us t + 1 ≤ length us + 1 → cond (not b) (1 + index_of us t) 0 + 1 ≤ length (u ∷ us) + 1
    by_eq true h = omega arith
    by_eq false h = omega arith

pub number_within : (d : List (List ℕ)) (t : List ℕ) → has_text d t ≡ true → number_of d t ≤ length d
number_within [] t h = cc
number_within (u ∷ us) t h = by_eq (bytes_eq u t) h (number_within us t)
  where
    by_eq : (b : Bool) → (b || has_text us t) ≡ true → (has_text us t ≡ true → index_of us t + 1 ≤ length us) → cond (not b) (1 + index_of us t) 0 + 1 ≤ length (u ∷ us)
    by_eq true h rest = omega arith
    by_eq false h rest = let r : index_of us t + 1 ≤ length us = rest h in omega arith

-- Texts are added one after another.
pub with_append : (d ts us : List (List ℕ)) → with_texts d (ts ++ us) ≡ with_texts (with_texts d ts) us
with_append d [] us = refl
with_append d (t ∷ ts) us = with_append (with_text d t) ts us
