-- What `eq` of two iterators returns: whether the lists that they give are equal.
use Rattle.std.specs.Prelude.{◌≡◌, ℕ, Bool, true, false, List, [], ◌∷◌, Option, Some, None, MatchOption, IfSome}
use Rattle.std.proofs.Common.{refl, sym, subst, ◌∙◌}
use Rattle.std.specs.Iterator.{AlwaysYields, YieldsThen, ComparesItemsByEq}
use Rattle.std.specs.List.{AllZip}
use Rattle.std.proofs.lemmas.Iterator.{YieldsList}

-- The test holds exactly if the lists are equal.
abbrev pub TellsSame : Bool → List ℕ → List ℕ → Type 0
TellsSame r xs ys = (r ≡ true → xs ≡ ys) × (xs ≡ ys → r ≡ true)

module _ {S T : Type 0} (steps : S → Option ℕ → S → Type 0) (others : T → Option ℕ → T → Type 0) (eq : ℕ → ℕ → Bool)
    (same : (x y : ℕ) → eq x y ≡ true → x ≡ y) (apart : (x y : ℕ) → eq x y ≡ false → x ≡ y → ⊥) (r : Bool) where
  abbrev Last : Option ℕ → Option ℕ → Type 0
  Last o p = MatchOption o (MatchOption p (r ≡ true) (λ _. r ≡ false)) (λ x. (r ≡ false) × IfSome p (λ y. eq x y ≡ false))

  differ : (xs ys : List ℕ) → r ≡ false → (xs ≡ ys → ⊥) → TellsSame r xs ys
  differ xs ys h n = (λ t. cc, λ e. absurd (n e))

  heads : (x y : ℕ) (xs ys : List ℕ) → x ∷ xs ≡ y ∷ ys → x ≡ y
  heads x y xs ys e = cc

  at_last : (o p : Option ℕ) (xs ys : List ℕ) (s u : S) (t w : T) → AlwaysYields steps (λ x. x) s xs → AlwaysYields others (λ x. x) t ys → steps s o u → others t p w → Last o p → TellsSame r xs ys
  at_last None None (x ∷ xs) ys s u t w e f a b h = absurd (e.0 u a)
  at_last None (Some y) (x ∷ xs) ys s u t w e f a b h = absurd (e.0 u a)
  at_last (Some x) None [] ys s u t w e f a b h = absurd (e x u a)
  at_last (Some x) (Some y) [] ys s u t w e f a b h = absurd (e x u a)
  at_last None None [] (y ∷ ys) s u t w e f a b h = absurd (f.0 w b)
  at_last None (Some y) [] [] s u t w e f a b h = absurd (f y w b)
  at_last (Some x) None (z ∷ xs) (y ∷ ys) s u t w e f a b h = absurd (f.0 w b)
  at_last (Some x) (Some y) (z ∷ xs) [] s u t w e f a b h = absurd (f y w b)
  at_last None None [] [] s u t w e f a b h = (λ _. refl, λ _. h)
  at_last None (Some y) [] (z ∷ ys) s u t w e f a b h = differ [] (z ∷ ys) h (λ k. cc)
  at_last (Some x) None (z ∷ xs) [] s u t w e f a b h = differ (z ∷ xs) [] h.0 (λ k. cc)
  at_last (Some x) (Some y) (v ∷ xs) (z ∷ ys) s u t w e f a b h =
      differ (v ∷ xs) (z ∷ ys) h.0 (λ k. apart x y h.1 ((e.1 x u a).0 ∙ heads v z xs ys k ∙ sym (f.1 y w b).0))

  further : (x y : ℕ) (xs ys : List ℕ) → x ≡ y → TellsSame r xs ys → TellsSame r (x ∷ xs) (y ∷ ys)
  further x y xs ys e h = (λ t. let k = h.0 t in cc, λ k. h.1 (cc))

  along : (cs bs : List ℕ) (o p : Option ℕ) (xs ys : List ℕ) (s u : S) (t w : T) → AlwaysYields steps (λ x. x) s xs → AlwaysYields others (λ x. x) t ys
      → YieldsThen steps s cs o u → YieldsThen others t bs p w → AllZip (λ x y. eq x y ≡ true) cs bs → Last o p → TellsSame r xs ys
  along [] [] o p xs ys s u t w e f a b z h = at_last o p xs ys s u t w e f (subst (λ j. steps j o u) (sym a.1) a.2) (subst (λ j. others j p w) (sym b.1) b.2) h
  along [] (y ∷ bs) o p xs ys s u t w e f a b z h = absurd z
  along (x ∷ cs) [] o p xs ys s u t w e f a b z h = absurd z
  along (x ∷ cs) (y ∷ bs) o p [] ys s u t w e f a b z h = absurd (e x a.1.0 a.1.1)
  along (x ∷ cs) (y ∷ bs) o p (v ∷ xs) [] s u t w e f a b z h = absurd (f y b.1.0 b.1.1)
  along (x ∷ cs) (y ∷ bs) o p (v ∷ xs) (z ∷ ys) s u t w e f a b q h =
      let m = e.1 x a.1.0 a.1.1 in
      let n = f.1 y b.1.0 b.1.1 in
      further v z xs ys (sym m.0 ∙ same x y q.0 ∙ n.0) (along cs bs o p xs ys a.1.0 u b.1.0 w m.1 n.1 (a.0, a.1.2, a.2) (b.0, b.1.2, b.2) q.1 h)

-- `eq` of two iterators returns whether their lists are equal.
pub eq_from_yields_List : {S U T : Type 0} {steps : S → Option ℕ → S → Type 0} {others : T → Option ℕ → T → Type 0} {s : S} {eq : ℕ → ℕ → Bool} {xs ys : List ℕ}
    (becomes : U → T → Type 0) (other : U) (r : Bool) → ComparesItemsByEq steps becomes others s other eq r
    → YieldsList steps (λ x. x) s xs → ((it : T) → becomes other it → YieldsList others (λ x. x) it ys)
    → ((x y : ℕ) → eq x y ≡ true → x ≡ y) → ((x y : ℕ) → eq x y ≡ false → x ≡ y → ⊥) → TellsSame r xs ys
eq_from_yields_List {steps = steps} {others = others} {s = s} {eq = eq} {xs = xs} {ys = ys} becomes other r d e f same apart =
    along steps others eq same apart r d.1 d.2 d.3 d.4 xs ys s d.5 d.0 d.6 e.runs (f d.0 d.7).runs d.8 d.9 d.10 d.11
