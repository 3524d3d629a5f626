-- Fields of a value by the offsets where they start, and their texts in any order.
use Rattle.std.specs.Prelude.{◌≡◌, ℕ, zero, suc, ◌+◌, ◌<◌, ◌≤◌, List, [], ◌∷◌, ◌++◌, ◌⊎◌, length, map, drop, slice_get, Some, IfSome}
use Rattle.std.specs.List.{AllByRecursion}
use Rattle.std.specs.Option.{option_map_or}
use Rattle.std.proofs.Common.{ap, arith, refl, sym, ◌∙◌, subst, inl, inr, get_or}
use Rattle.std.proofs.lemmas.List.{append_assoc, append-nil, length-map}
use Rattle.jfr_base.proofs.Ranges.{range_length}
use Rattle.jfr_layout.specs.Classes.{AreFieldLayouts, Class, Classes, Field}
use Rattle.jfr_layout.specs.declared.shape.Shape.{Shape}
use Rattle.jfr_layout.specs.declared.field_layout.FieldLayout.{FieldLayout}
use Rattle.jfr_value.specs.Values.{Value, Values, Nil, Cons, bytes_of, shapes_of}
use Rattle.jfr_value.specs.Nodes.{node_at, IsNode, AreValues}
use Rattle.jfr_value.specs.Visits.{field_shapes}
use Rattle.jfr_value.proofs.PlaceLaws.{get_within}
use Rattle.jfr_value.proofs.LayoutLaws.{layouts_of}
use Rattle.jfr_value.proofs.WalkLaws.{first_of}
use Rattle.serde_json.specs.Data.{Data, object, no_members}
use Rattle.serde_json.specs.Written.{compact_text}
use Rattle.jfr_show.specs.declared.json.order.Lead.{Lead}
use Rattle.jfr_show.specs.declared.json.order.MemberOrder.{MemberOrder}
use Rattle.jfr_show.specs.Json.{json_of, json_of_all, members_with}
use Rattle.jfr_show.specs.Orders.{IsOrder, IsOrderAt, laid_out, lead_of, nth, starts}

module _ (k : Classes) (c : List ℕ) where
  -- The beginnings with those of more values.
  abbrev pub onto_starts : ℕ → List ℕ → Values → List ℕ
  onto_starts from made vs = made ++ starts from vs

  pub no_starts : (from : ℕ) (made : List ℕ) → onto_starts from made Nil ≡ made
  no_starts from made = append-nil made

  pub one_start : (s : Shape) (from p end : ℕ) (made new : List ℕ) (v : Value) (vs : Values) → IsNode k c (node_at s from p) v → end ≡ p → new ≡ made ++ from ∷ []
      → onto_starts from made (Cons v vs) ≡ onto_starts end new vs
  one_start s from p end made new v vs i e n =
      let there : from + length (bytes_of v) ≡ end = (let l = range_length c from p i.within in let b = ap length i.bytes in let o = i.order in omega arith) in
      sym (append_assoc made (from ∷ []) (starts (from + length (bytes_of v)) vs)) ∙ (ap (λ z. (made ++ from ∷ []) ++ starts z vs) there ∙ ap (λ z. z ++ starts end vs) (sym n))

  -- The field with a number.
  pub record Placed (at to : ℕ) (vs : Values) (j : ℕ) (s : Shape) : Type 0 where
    pub place : ℕ
    pub end : ℕ
    pub value : Value
    pub begins : slice_get (starts at vs) j ≡ Some place
    pub node : IsNode k c (node_at s place end) value
    pub within : end ≤ to
    pub json : (refer : ℕ × ℕ → Data) → nth (json_of_all k refer vs) j ≡ json_of k refer value

  pub placed : (at to : ℕ) (ss : List Shape) (vs : Values) (j : ℕ) (s : Shape) → AreValues k c at to ss vs → slice_get ss j ≡ Some s → Placed at to vs j s
  placed at to [] vs j s r e = cc
  placed at to (t ∷ ss) vs zero s r e =
      let h = first_of k c at to t ss vs r in
      let q : t ≡ s = cc in
      subst (λ z. Placed at to z zero s) (sym h.are) (record {
        place = at;
        end = at + length (bytes_of h.value);
        value = h.value;
        begins = refl;
        node = record { shape = sym (h.shape ∙ q); order = h.holds.order; within = h.holds.within; bytes = h.holds.bytes; fits = h.fits };
        within = h.row.order;
        json = λ refer. refl;
      })
  placed at to (t ∷ ss) vs (suc j) s r e =
      let h = first_of k c at to t ss vs r in
      let p = placed (at + length (bytes_of h.value)) to ss h.others j s h.row e in
      subst (λ z. Placed at to z (suc j) s) (sym h.are) (record { place = p.place; end = p.end; value = p.value; begins = p.begins; node = p.node; within = p.within; json = p.json })

-- There is one value for each shape, and one start for each value.
pub count_json : (k : Classes) (refer : ℕ × ℕ → Data) (vs : Values) → length (json_of_all k refer vs) ≡ length (shapes_of vs)
count_json k refer Nil = refl
count_json k refer (Cons v vs) = ap suc (count_json k refer vs)

pub count_starts : (at : ℕ) (vs : Values) → length (starts at vs) ≡ length (shapes_of vs)
count_starts at Nil = refl
count_starts at (Cons v vs) = ap suc (count_starts (at + length (bytes_of v)) vs)

-- The member with an index.
pub all_at : {A : Type 0} (P : A → Type 0) (xs : List A) (i : ℕ) (x : A) → AllByRecursion P xs → slice_get xs i ≡ Some x → P x
all_at P [] i x a e = cc
all_at P (y ∷ xs) zero x a e = let h : y ≡ x = cc in subst P h a.0
all_at P (y ∷ xs) (suc i) x a e = all_at P xs i x a.1 e

pub leads_at : (ls : List Lead) (i : ℕ) (x : Lead) → slice_get ls i ≡ Some x → slice_get (map lead_of ls) i ≡ Some (lead_of x)
leads_at [] i x e = cc
leads_at (y ∷ ls) zero x e = let h : y ≡ x = cc in ap (λ (z : Lead). Some (lead_of z)) h
leads_at (y ∷ ls) (suc i) x e = leads_at ls i x e

pub leads_from : (ls : List Lead) (i : ℕ) (x : Lead) → slice_get ls i ≡ Some x → map lead_of (drop i ls) ≡ lead_of x ∷ map lead_of (drop (i + 1) ls)
leads_from [] i x e = cc
leads_from (y ∷ ls) zero x e = let h : y ≡ x = cc in ap (λ (z : Lead). lead_of z ∷ map lead_of ls) h
leads_from (y ∷ ls) (suc i) x e = let h : suc i + 1 ≡ suc (i + 1) = omega arith in rw h (leads_from ls i x e)

lay_group : (a b c d : List ℕ) → a ++ (b ++ (c ++ d)) ≡ ((a ++ b) ++ c) ++ d
lay_group a b c d = simp append_assoc

-- A value more is laid out.
pub lay_one : (m : List ℕ × ℕ) (ms all : List (List ℕ × ℕ)) (ds : List Data) (d : Data) (was led new : List ℕ) → all ≡ m ∷ ms → led ≡ was ++ m.0 → nth ds m.1 ≡ d → new ≡ led ++ compact_text d
    → was ++ laid_out all ds ≡ new ++ laid_out ms ds
lay_one m ms all ds d was led new a l e n =
    let value : new ≡ (was ++ m.0) ++ compact_text (nth ds m.1) = n ∙ (ap (λ z. z ++ compact_text d) l ∙ ap (λ z. (was ++ m.0) ++ compact_text z) (sym e)) in
    ap (λ z. was ++ laid_out z ds) a ∙ (lay_group was m.0 (compact_text (nth ds m.1)) (laid_out ms ds) ∙ ap (λ z. z ++ laid_out ms ds) (sym value))

-- All are, between braces.
pub lay_all : (fs : List Field) (ms : List (List ℕ × ℕ)) (ds : List Data) (was begun all new : List ℕ) → IsOrder fs ms → length ds ≡ length fs → begun ≡ was ++ 123 ∷ []
    → all ++ laid_out [] ds ≡ begun ++ laid_out ms ds → new ≡ all ++ 125 ∷ [] → new ≡ was ++ compact_text (object (members_with no_members fs ds))
lay_all fs ms ds was begun all new o l b a n =
    n ∙ (a ∙ (ap (λ z. z ++ laid_out ms ds) b ∙ (append_assoc was (123 ∷ []) (laid_out ms ds) ∙ ap (λ z. was ++ 123 ∷ z) (sym (o.exact ds l)))))

-- What is found in a list with one more at its end.
pub found_in : {A : Type 0} (xs : List A) (x y : A) (i : ℕ) → slice_get (xs ++ x ∷ []) i ≡ Some y → (slice_get xs i ≡ Some y) ⊎ ((i ≡ length xs) × (x ≡ y))
found_in [] x y zero e = inr (refl, cc)
found_in [] x y (suc i) e = cc
found_in (z ∷ xs) x y zero e = inl e
found_in (z ∷ xs) x y (suc i) e = elim (found_in xs x y i e) [
  | inl h ↦ inl h
  | inr h ↦ inr (ap suc h.0, h.1)
]

-- The member with an index, from a default that isn't used.
pub got : {A : Type 0} (xs : List A) (i : ℕ) (x d : A) → i < length xs → x ≡ get_or xs i d → slice_get xs i ≡ Some x
got [] i x d l e = absurd (omega arith)
got (y ∷ xs) zero x d l e = ap Some (sym e)
got (y ∷ xs) (suc i) x d l e = got xs i x d (omega arith) e

pub got_is : {A : Type 0} (xs : List A) (i : ℕ) (x y d : A) → slice_get xs i ≡ Some y → x ≡ get_or xs i d → x ≡ y
got_is [] i x y d g e = cc
got_is (z ∷ xs) zero x y d g e = let h : z ≡ y = cc in e ∙ h
got_is (z ∷ xs) (suc i) x y d g e = got_is xs i x y d g e

pub drop_get : {A : Type 0} (xs : List A) (i : ℕ) (x : A) (r : List A) → drop i xs ≡ x ∷ r → slice_get xs i ≡ Some x
drop_get [] zero x r e = cc
drop_get [] (suc i) x r e = cc
drop_get (y ∷ xs) zero x r e = let h : y ≡ x = cc in ap Some h
drop_get (y ∷ xs) (suc i) x r e = drop_get xs i x r e

pub get_below : {A : Type 0} (xs : List A) (i : ℕ) (x : A) → slice_get xs i ≡ Some x → i < length xs
get_below [] i x e = cc
get_below (y ∷ xs) zero x e = omega arith
get_below (y ∷ xs) (suc i) x e = let h = get_below xs i x e in omega arith

-- The order of the class at a place.
pub record Ordered (k : Classes) (place : ℕ) (ls : List Lead) : Type 0 where
  pub class : Class
  pub there : slice_get k place ≡ Some class
  pub order : IsOrder class.fields (map lead_of ls)

pub ordered : (k : Classes) (place : ℕ) (o : MemberOrder) (ls : List Lead) → IsOrderAt k place o → place < length k → ls ≡ o.leads.items → Ordered k place ls
ordered k place o ls a l q =
    let c = get_within k place l in
    record { class = c.0; there = c.1; order = subst (λ z. IsOrder c.0.fields (map lead_of z)) (sym q) (a c.0 c.1) }

-- A lead numbers a field of the class.
pub below_fields : (k : Classes) (place : ℕ) (ls : List Lead) (i : ℕ) (x : Lead) (o : Ordered k place ls) → slice_get ls i ≡ Some x → x.field < length o.class.fields
below_fields k place ls i x o g = all_at (λ m. m.1 < length o.class.fields) (map lead_of ls) i (lead_of x) o.order.within (leads_at ls i x g)

pub below_layouts : (k : Classes) (place : ℕ) (ls : List Lead) (i : ℕ) (x : Lead) (ss : List FieldLayout) → Ordered k place ls → place < length k
    → IfSome (slice_get k place) (λ c. AreFieldLayouts k c.fields ss) → slice_get ls i ≡ Some x → x.field < length ss
below_layouts k place ls i x ss o l a g =
    let s = layouts_of k place ss l a in
    let same : s.class ≡ o.class = (let z : Some s.class ≡ Some o.class = sym s.there ∙ o.there in cc) in
    let count : length ss ≡ length o.class.fields = s.count ∙ ap (λ (z : Class). length z.fields) same in
    omega (arith, below_fields k place ls i x o g, count)

pub shapes_count : (k : Classes) (place : ℕ) (class : Class) → slice_get k place ≡ Some class → length (field_shapes k place) ≡ length class.fields
shapes_count k place class e = ap (λ o. length (option_map_or (λ c. map (λ f. f.shape) c.fields) o [])) e ∙ length-map class.fields (λ (f : Field). f.shape)
