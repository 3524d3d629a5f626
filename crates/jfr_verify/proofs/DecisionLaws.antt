-- Deciding whether facts about a pair of chunks hold.
use Rattle.std.specs.Prelude.{◌≡◌, ◌⊎◌, ◌<◌, ◌==◌, ℕ, zero, suc, Bool, true, false, List, [], ◌∷◌, Option, Some, None, All, Contains}
use Rattle.std.specs.List.{AllByRecursion}
use Rattle.std.proofs.Common.{ap, arith, refl, ◌∙◌, subst, inl, inr}
use Rattle.std.proofs.lemmas.List.Elements.{All-from_recursion, recursion_from_All}
use Rattle.jfr_layout.specs.Classes.{Class, Field}
use Rattle.jfr_layout.specs.declared.shape.Shape.{Shape}
use Rattle.jfr_worklist.specs.Members.{In}
use Rattle.jfr_worklist.proofs.Members.{contains_in, in_contains}

abbrev pub Dec : Type 0 → Type 0
Dec t = t ⊎ (t → ⊥)

dec_map : {A B : Type 0} → (A → B) → (B → A) → Dec A → Dec B
dec_map f g (inl a) = inl (f a)
dec_map f g (inr n) = inr (λ b. n (g b))

dec_both : {A B : Type 0} → Dec A → Dec B → Dec (A × B)
dec_both (inl a) (inl b) = inl (a, b)
dec_both (inl a) (inr f) = inr (λ z. f z.1)
dec_both (inr f) d = inr (λ z. f z.0)

pub dec_nat : (a b : ℕ) → Dec (a ≡ b)
dec_nat a b = by_test (a == b) refl
  where
    by_test : (t : Bool) → (a == b) ≡ t → Dec (a ≡ b)
    by_test true e = inl (grind (arith, e))
    by_test false e = inr (λ q. (let z : (a == b) ≡ true = grind (arith, q) in cc))

dec_bool : (a b : Bool) → Dec (a ≡ b)
dec_bool true true = inl refl
dec_bool true false = inr (λ q. cc)
dec_bool false true = inr (λ q. cc)
dec_bool false false = inl refl

pub dec_list : {X : Type 0} → ((x y : X) → Dec (x ≡ y)) → (xs ys : List X) → Dec (xs ≡ ys)
dec_list d [] [] = inl refl
dec_list d [] (y ∷ ys) = inr (λ q. cc)
dec_list d (x ∷ xs) [] = inr (λ q. cc)
dec_list {X = X} d (x ∷ xs) (y ∷ ys) = dec_map join split (dec_both (d x y) (dec_list d xs ys))
  where
    join : (x ≡ y) × (xs ≡ ys) → x ∷ xs ≡ y ∷ ys
    join z = ap (λ w. w ∷ xs) z.0 ∙ ap (λ w. y ∷ w) z.1

    split : x ∷ xs ≡ y ∷ ys → (x ≡ y) × (xs ≡ ys)
    split e = (cc, cc)

dec_option : {X : Type 0} → ((x y : X) → Dec (x ≡ y)) → (a b : Option X) → Dec (a ≡ b)
dec_option d None None = inl refl
dec_option d None (Some y) = inr (λ q. cc)
dec_option d (Some x) None = inr (λ q. cc)
dec_option {X = X} d (Some x) (Some y) = dec_map (λ q. ap (λ z. Some z) q) only (d x y)
  where
    only : Some x ≡ Some y → x ≡ y
    only e = cc

pub dec_pair : {X Y : Type 0} → ((x y : X) → Dec (x ≡ y)) → ((x y : Y) → Dec (x ≡ y)) → (a b : X × Y) → Dec (a ≡ b)
dec_pair {X = X} {Y = Y} d e a b = dec_map join (λ q. (ap (λ (z : X × Y). z.0) q, ap (λ (z : X × Y). z.1) q)) (dec_both (d a.0 b.0) (e a.1 b.1))
  where
    one : X → Y → X × Y
    one x y = (x, y)

    join : (a.0 ≡ b.0) × (a.1 ≡ b.1) → a ≡ b
    join z = ap (λ w. one w a.1) z.0 ∙ ap (one b.0) z.1

pub dec_contains : {X : Type 0} → ((x y : X) → Dec (x ≡ y)) → (xs : List X) (x : X) → Dec (Contains xs x)
dec_contains {X = X} d xs x = dec_map (in_contains xs x) (contains_in xs x) (dec_in xs)
  where
    by_case : (y : X) (ys : List X) → Dec (y ≡ x) → Dec (In ys x) → Dec (In (y ∷ ys) x)
    by_case y ys (inl e) r = inl (inl e)
    by_case y ys (inr f) (inl i) = inl (inr i)
    by_case y ys (inr f) (inr g) = inr no
      where
        no : In (y ∷ ys) x → ⊥
        no (inl e) = f e
        no (inr i) = g i

    dec_in : (ys : List X) → Dec (In ys x)
    dec_in [] = inr (λ i. i)
    dec_in (y ∷ ys) = by_case y ys (d y x) (dec_in ys)

pub dec_all : {X : Type 0} (P : X → Type 0) → ((x : X) → Dec (P x)) → (xs : List X) → Dec (All P xs)
dec_all {X = X} P d xs = dec_map (All-from_recursion P xs) (recursion_from_All P xs) (each xs)
  where
    each : (ys : List X) → Dec (AllByRecursion P ys)
    each [] = inl tt
    each (y ∷ ys) = dec_both (d y) (each ys)

pub dec_below : (P : ℕ → Type 0) → ((i : ℕ) → Dec (P i)) → (n : ℕ) → Dec ((i : ℕ) → i < n → P i)
dec_below P d zero = inl (λ i h. absurd (omega arith))
dec_below P d (suc n) = dec_map join (λ f. ((λ i h. f i (omega arith)), f n (omega arith))) (dec_both (dec_below P d n) (d n))
  where
    join : ((i : ℕ) → i < n → P i) × P n → (i : ℕ) → i < suc n → P i
    join z i h = by_test (i == n) refl
      where
        by_test : (t : Bool) → (i == n) ≡ t → P i
        by_test true e = let q : n ≡ i = grind (arith, e) in subst P q z.1
        by_test false e = z.0 i (grind (arith, e))

dec_text : (a b : List ℕ) → Dec (a ≡ b)
dec_text = dec_list dec_nat

dec_shape : (s t : Shape) → Dec (s ≡ t)
dec_shape s t = dec_map join (λ q. (ap (λ (z : Shape). z.class) q, (ap (λ (z : Shape). z.constant) q, ap (λ (z : Shape). z.array) q)))
    (dec_both (dec_nat s.class t.class) (dec_both (dec_bool s.constant t.constant) (dec_bool s.array t.array)))
  where
    made : ℕ → Bool → Bool → Shape
    made a b c = record { class = a; constant = b; array = c }

    join : (s.class ≡ t.class) × ((s.constant ≡ t.constant) × (s.array ≡ t.array)) → s ≡ t
    join z = ap (λ w. made w s.constant s.array) z.0 ∙ (ap (λ w. made t.class w s.array) z.1.0 ∙ ap (made t.class t.constant) z.1.1)

dec_field : (f g : Field) → Dec (f ≡ g)
dec_field f g = dec_map join (λ q. (ap (λ (z : Field). z.name) q, ap (λ (z : Field). z.shape) q)) (dec_both (dec_text f.name g.name) (dec_shape f.shape g.shape))
  where
    made : List ℕ → Shape → Field
    made a b = record { name = a; shape = b }

    join : (f.name ≡ g.name) × (f.shape ≡ g.shape) → f ≡ g
    join z = ap (λ w. made w f.shape) z.0 ∙ ap (made g.name) z.1

pub dec_class : (c d : Class) → Dec (c ≡ d)
dec_class c d = dec_map join (λ q. (
  ap (λ (z : Class). z.id) q,
  (ap (λ (z : Class). z.name) q, (ap (λ (z : Class). z.super_name) q, (ap (λ (z : Class). z.fields) q, ap (λ (z : Class). z.categories) q))),
))
    (dec_both (dec_nat c.id d.id) (dec_both (dec_text c.name d.name)
    (dec_both (dec_option dec_text c.super_name d.super_name) (dec_both (dec_list dec_field c.fields d.fields) (dec_list dec_text c.categories d.categories)))))
  where
    made : ℕ → List ℕ → Option (List ℕ) → List Field → List (List ℕ) → Class
    made a b s f g = record { id = a; name = b; super_name = s; fields = f; categories = g }

    join : (c.id ≡ d.id) × ((c.name ≡ d.name) × ((c.super_name ≡ d.super_name) × ((c.fields ≡ d.fields) × (c.categories ≡ d.categories)))) → c ≡ d
    join z = ap (λ w. made w c.name c.super_name c.fields c.categories) z.0
        ∙ (ap (λ w. made d.id w c.super_name c.fields c.categories) z.1.0
        ∙ (ap (λ w. made d.id d.name w c.fields c.categories) z.1.1.0
        ∙ (ap (λ w. made d.id d.name d.super_name w c.categories) z.1.1.1.0
        ∙ ap (made d.id d.name d.super_name d.fields) z.1.1.1.1)))
