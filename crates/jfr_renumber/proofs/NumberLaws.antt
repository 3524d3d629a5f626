-- The numbers of classes and keys.
use Rattle.std.specs.Prelude.{◌≡◌, ◌<◌, ℕ, zero, suc, Bool, true, false, ◌||◌, List, [], ◌∷◌, length, map, slice_get, Some, None, Contains, if◌then◌else◌}
use Rattle.std.specs.List.{list_any}
use Rattle.std.proofs.Common.{ap, arith, refl, sym, ◌∙◌, subst, inl, inr}
use Rattle.std.proofs.lemmas.Option.{slice_get_within}
use Rattle.jfr_worklist.specs.Members.{In}
use Rattle.jfr_worklist.proofs.Members.{in_contains}
use Rattle.jfr_chunk.proofs.AllLaws.{all_get}
use Rattle.jfr_renumber.specs.Missing.{Earlier, IsRising}
use Rattle.jfr_renumber.specs.Numbers.{NumberedPairs, number_at, number_of}
use Rattle.jfr_renumber.proofs.OrderLaws.{never, pair_exact, pair_same}

same_self : (t : ℕ × ℕ) → pair_same t t ≡ true
same_self t = grind arith

apart : (u t : ℕ × ℕ) → (u ≡ t → ⊥) → pair_same u t ≡ false
apart u t f = by_test (pair_same u t) refl
  where
    by_test : (b : Bool) → pair_same u t ≡ b → b ≡ false
    by_test true q = absurd (f (pair_exact u t q))
    by_test false q = refl

-- The number is found at the index of the pair.
pub number_there : (ps : List (ℕ × ℕ)) (ns : List ℕ) (i : ℕ) (t : ℕ × ℕ) → IsRising ps → length ns ≡ length ps → slice_get ps i ≡ Some t → number_at ps ns t ≡ slice_get ns i
number_there [] ns i t r l e = cc
number_there (u ∷ ps) [] i t r l e = absurd (omega (arith, l))
number_there (u ∷ ps) (n ∷ ns) zero t r l e =
    let q : u ≡ t = cc in
    ap (λ b. if b then Some n else number_at ps ns t) (ap (λ z. pair_same z t) q ∙ same_self t)
number_there (u ∷ ps) (n ∷ ns) (suc i) t r l e =
    let d : Earlier u t = all_get (Earlier u) ps i t r.0 e in
    ap (λ b. if b then Some n else number_at ps ns t) (apart u t (λ q. never t (subst (λ z. Earlier z t) q d))) ∙ number_there ps ns i t r.1 (omega (arith, l)) e

-- There is none for others.
pub number_nowhere : (ps : List (ℕ × ℕ)) (ns : List ℕ) (t : ℕ × ℕ) → (In ps t → ⊥) → number_at ps ns t ≡ None
number_nowhere [] ns t f = refl
number_nowhere (u ∷ ps) [] t f = refl
number_nowhere (u ∷ ps) (n ∷ ns) t f =
    ap (λ b. if b then Some n else number_at ps ns t) (apart u t (λ q. f (inl q))) ∙ number_nowhere ps ns t (λ i. f (inr i))

-- Numbers that a function gives.
pub number_given : (f : ℕ × ℕ → ℕ) (ps : List (ℕ × ℕ)) (t : ℕ × ℕ) → number_at ps (map f ps) t ≡ (if list_any (λ u. pair_same u t) ps then Some (f t) else None)
number_given f [] t = refl
number_given f (u ∷ ps) t = by_test (pair_same u t) refl (number_given f ps t)
  where
    by_test : (b : Bool) → pair_same u t ≡ b → number_at ps (map f ps) t ≡ (if list_any (λ u. pair_same u t) ps then Some (f t) else None)
        → (if b then Some (f u) else number_at ps (map f ps) t) ≡ (if b || list_any (λ u. pair_same u t) ps then Some (f t) else None)
    by_test true q i = ap (λ z. Some (f z)) (pair_exact u t q)
    by_test false q i = i

pub any_of : (ps : List (ℕ × ℕ)) (t : ℕ × ℕ) → In ps t → list_any (λ u. pair_same u t) ps ≡ true
any_of [] t i = absurd i
any_of (u ∷ ps) t (inl e) = ap (λ b. b || list_any (λ u. pair_same u t) ps) (ap (λ z. pair_same z t) e ∙ same_self t)
any_of (u ∷ ps) t (inr i) = by_test (pair_same u t) (any_of ps t i)
  where
    by_test : (b : Bool) → list_any (λ u. pair_same u t) ps ≡ true → (b || list_any (λ u. pair_same u t) ps) ≡ true
    by_test true e = refl
    by_test false e = e

of_any : (ps : List (ℕ × ℕ)) (t : ℕ × ℕ) → list_any (λ u. pair_same u t) ps ≡ true → In ps t
of_any [] t e = cc
of_any (u ∷ ps) t e = by_test (pair_same u t) refl e (of_any ps t)
  where
    by_test : (b : Bool) → pair_same u t ≡ b → (b || list_any (λ u. pair_same u t) ps) ≡ true → (list_any (λ u. pair_same u t) ps ≡ true → In ps t) → In (u ∷ ps) t
    by_test true q h f = inl (pair_exact u t q)
    by_test false q h f = inr (f h)

-- Lists with the same members.
pub any_same : (ps qs : List (ℕ × ℕ)) (t : ℕ × ℕ) → (In ps t → In qs t) → (In qs t → In ps t) → list_any (λ u. pair_same u t) ps ≡ list_any (λ u. pair_same u t) qs
any_same ps qs t f g = by_tests (list_any (λ u. pair_same u t) ps) refl (list_any (λ u. pair_same u t) qs) refl
  where
    by_tests : (a : Bool) → list_any (λ u. pair_same u t) ps ≡ a → (b : Bool) → list_any (λ u. pair_same u t) qs ≡ b → a ≡ b
    by_tests true e true h = refl
    by_tests false e false h = refl
    by_tests true e false h = let z : true ≡ false = sym (any_of qs t (f (of_any ps t e))) ∙ h in cc
    by_tests false e true h = let z : false ≡ true = sym e ∙ any_of ps t (g (of_any qs t h)) in cc

pub some_is : (k : NumberedPairs) (i : ℕ) (t : ℕ × ℕ) → IsRising k.pairs → length k.numbers ≡ length k.pairs → slice_get k.pairs i ≡ Some t → number_of k t ≡ slice_get k.numbers i
unfolding number_of
some_is k i t r l e = number_there k.pairs k.numbers i t r l e

pub none_is : (k : NumberedPairs) (t : ℕ × ℕ) → (Contains k.pairs t → ⊥) → number_of k t ≡ None
unfolding number_of
none_is k t f = number_nowhere k.pairs k.numbers t (λ i. f (in_contains k.pairs t i))

pub index_within : (k : NumberedPairs) (i : ℕ) (t : ℕ × ℕ) → length k.numbers ≡ length k.pairs → slice_get k.pairs i ≡ Some t → i < length k.numbers
index_within k i t l e = let w : i < length k.pairs = slice_get_within k.pairs i t e in omega (arith, w, l)
