-- Classes are looked up one by one.
use Rattle.std.specs.Prelude.{◌≡◌, ◌<◌, ◌≤◌, ◌+◌, ◌==◌, ℕ, Bool, true, false, length, slice_get, Some, None, Contains}
use Rattle.std.proofs.Common.{ap, arith, refl, sym, ◌∙◌, subst}
use Rattle.std.proofs.lemmas.Option.{slice_get_within}
use Rattle.std.proofs.lemmas.List.Elements.{All-from_recursion, All-contains}
use Rattle.jfr_layout.specs.Classes.{Class, Classes, Sound, find_class}
use Rattle.jfr_layout.proofs.SoundLaws.{are_found}
use Rattle.jfr_worklist.proofs.Members.{contains_in, in_contains, get_in, found_get, all_from_get}
use Rattle.jfr_verify.specs.Checks.{HasClasses}
use Rattle.jfr_verify.specs.Decided.{Decided}
use Rattle.jfr_meta.proofs.StayLaws.{in_get}

module _ (k m : Classes) where
  -- Up to a number, the classes are in the other list.
  abbrev pub HasUpTo : ℕ → Type 0
  HasUpTo n = (i : ℕ) (d : Class) → i < n → slice_get m i ≡ Some d → Contains k d

  has_next : (n : ℕ) (d : Class) → HasUpTo n → slice_get m n ≡ Some d → Contains k d → HasUpTo (n + 1)
  has_next n d f e c i x l g = by_last (i == n) refl
    where
      by_last : (b : Bool) → (i == n) ≡ b → Contains k x
      by_last true q = let h : i ≡ n = grind (arith, q) in let z : d ≡ x = (let a : slice_get m n ≡ Some x = subst (λ z. slice_get m z ≡ Some x) h g in cc) in subst (Contains k) z c
      by_last false q = f i x (grind (arith, q)) g

  pub has_found : (n : ℕ) (d s : Class) → HasUpTo n → slice_get m n ≡ Some d → find_class k d.id ≡ Some s → s ≡ d → HasUpTo (n + 1)
  has_found n d s f e g q =
      let r = found_get (λ (c : Class). c.id == d.id) k s g in
      has_next n d f e (in_contains k d (get_in k r.0 d (r.1 ∙ ap (λ z. Some z) q)))

  pub has_end : (n : ℕ) → length m ≤ n → HasUpTo n → HasClasses k m
  has_end n l f = All-from_recursion (Contains k) m (all_from_get (Contains k) m (λ i d e. f i d (let w = slice_get_within m i d e in omega arith) e))

  pub found_in : Sound k → (n : ℕ) (d : Class) → slice_get m n ≡ Some d → HasClasses k m → find_class k d.id ≡ Some d
  found_in w n d e has =
      let here : Contains k d = All-contains (Contains k) m d has (in_contains m d (get_in m n d e)) in
      let there = in_get k d (contains_in k d here) in
      ((are_found k w).id there.0 d there.1).1

  pub not_found : Sound k → (n : ℕ) (d : Class) → slice_get m n ≡ Some d → find_class k d.id ≡ None → Decided (HasClasses k m) false
  not_found w n d e g has = let h = found_in w n d e has in (let z : None ≡ Some d = sym g ∙ h in cc)

  pub not_same : Sound k → (n : ℕ) (d s : Class) → slice_get m n ≡ Some d → find_class k d.id ≡ Some s → Decided (s ≡ d) false → Decided (HasClasses k m) false
  not_same w n d s e g f has = let h = found_in w n d e has in f (let z : Some s ≡ Some d = sym g ∙ h in cc)

-- It holds of equal lists of classes, too.
pub has_of : (k m k' m' : Classes) (b : Bool) → k ≡ k' → m ≡ m' → Decided (HasClasses k m) b → Decided (HasClasses k' m') b
has_of k m k' m' b e f d = subst (λ z. Decided (HasClasses k' z) b) f (subst (λ z. Decided (HasClasses z m) b) e d)
