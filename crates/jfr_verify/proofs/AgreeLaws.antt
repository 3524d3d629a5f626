-- If all classes of one sound list are in another, the lists agree on them.
use Rattle.std.specs.Prelude.{◌≡◌, ℕ, ◌==◌, Bool, true, false, List, [], ◌∷◌, Contains, find, Some, if◌then◌else◌}
use Rattle.std.proofs.Common.{ap, arith, refl, sym, ◌∙◌, subst, inl, inr}
use Rattle.std.proofs.lemmas.List.Elements.{All-contains}
use Rattle.jfr_layout.specs.Classes.{Class, Classes, Sound, Agree, find_class}
use Rattle.jfr_layout.specs.declared.shape.Shape.{Shape}
use Rattle.jfr_layout.proofs.SoundLaws.{are_found}
use Rattle.jfr_value.specs.Values.{Value, Single, Group, Fits, shape_of}
use Rattle.jfr_value.specs.Nodes.{NodeAt, IsNode}
use Rattle.jfr_pool.specs.Entries.{inline}
use Rattle.jfr_worklist.proofs.Members.{contains_in, in_contains, get_in, found_get}
use Rattle.jfr_verify.specs.Checks.{HasClasses}
use Rattle.jfr_laws.proofs.Agrees.{agree_within}
use Rattle.jfr_meta.proofs.StayLaws.{in_get}

-- What is found passes the test.
pub found_passes : {X : Type 0} (t : X → Bool) (xs : List X) (x : X) → find t xs ≡ Some x → t x ≡ true
found_passes t [] x e = cc
found_passes {X = X} t (y ∷ ys) x e = by_test (t y) refl e (found_passes t ys x)
  where
    by_test : (b : Bool) → t y ≡ b → (if b then Some y else find t ys) ≡ Some x → (find t ys ≡ Some x → t x ≡ true) → t x ≡ true
    by_test true q e f = let h : y ≡ x = cc in subst (λ z. t z ≡ true) h q
    by_test false q e f = f e

module _ (k m : Classes) (s : Sound k) (r : Sound m) (has : HasClasses k m) where
  -- Both lists have the same class with an id.
  same_class : (id : ℕ) (d : Class) → find_class m id ≡ Some d → find_class k id ≡ Some d
  same_class id d e =
      let place = found_get (λ (c : Class). c.id == id) m d e in
      let here : Contains k d = All-contains (Contains k) m d has (in_contains m d (get_in m place.0 d place.1)) in
      let there = in_get k d (contains_in k d here) in
      let t : (d.id == id) ≡ true = found_passes (λ (c : Class). c.id == id) m d e in
      let q : d.id ≡ id = grind (arith, t) in
      subst (λ z. find_class k z ≡ Some d) q ((are_found k s).id there.0 d there.1).1

  -- The lists agree on the class of each inline value of the second chunk.
  pub agree_on_node : (d : List ℕ) (id : ℕ) (n : NodeAt) (v : Value) → n.shape ≡ inline id → IsNode m d n v → Agree k m id
  agree_on_node d id n v q i = by_value v (sym i.shape ∙ q) i.fits
    where
      on_class : (c : Class) → find_class m id ≡ Some c → Agree k m id
      on_class c e = λ n. agree_within k m r same_class n id c e

      by_value : (v : Value) → shape_of v ≡ inline id → Fits m v → Agree k m id
      by_value (Single t kind b key) e (inl h) = absurd (no_constant t e h.1)
        where
          no_constant : (t : Shape) → t ≡ inline id → t.constant ≡ true → ⊥
          no_constant t e h = let c : t.constant ≡ false = ap (λ (z : Shape). z.constant) e in cc
      by_value (Single t kind b key) e (inr h) = on_class h.2 (subst (λ (z : Shape). find_class m z.class ≡ Some h.2) e h.3)
      by_value (Group t head vs) e (inl h, a) = absurd (no_array t e h.0)
        where
          no_array : (t : Shape) → t ≡ inline id → t.array ≡ true → ⊥
          no_array t e h = let c : t.array ≡ false = ap (λ (z : Shape). z.array) e in cc
      by_value (Group t head vs) e (inr h, a) = on_class h.2 (subst (λ (z : Shape). find_class m z.class ≡ Some h.2) e h.3)
