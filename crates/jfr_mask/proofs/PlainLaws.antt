-- The values of plain classes have no masked string, so masking changes nothing in them.
use Rattle.std.specs.Prelude.{◌≡◌, ◌==◌, ◌≤◌, ⊤, ℕ, zero, suc, ◌+◌, ◌<◌, ◌&&◌, ◌⊎◌, Bool, true, false, List, [], ◌∷◌, ◌++◌, length, map, replicate, slice_get, slice_range, Option, Some, None, IfSome, if◌then◌else◌}
use Rattle.std.specs.List.{AllByRecursion, position_or_len}
use Rattle.std.specs.Option.{option_map, option_map_or}
use Rattle.std.proofs.Common.{ap, arith, cond, refl, sym, ◌∙◌, subst, inl, inr}
use Rattle.std.proofs.lemmas.Bool.{cases_lt, lt-ltb}
use Rattle.std.proofs.lemmas.List.Folds.{find_at}
use Rattle.std.proofs.lemmas.Option.{slice_get_within}
use Rattle.jfr_layout.specs.Classes.{AreFieldLayouts, Class, Classes, Field, IsFieldLayout, Sound, class_index, find_class, item_of, kind_of}
use Rattle.jfr_layout.specs.declared.field_layout.FieldLayout.{FieldLayout}
use Rattle.jfr_layout.specs.declared.kind.Kind.{Kind}
use Rattle.jfr_layout.specs.declared.kind.Kind.TheVariants as kinds
use Rattle.jfr_layout.specs.declared.shape.Shape.{Shape}
use Rattle.jfr_value.specs.declared.leaf.Holder.{Holder}
use Rattle.jfr_value.specs.declared.leaf.LeafKind.{LeafKind}
use Rattle.jfr_value.specs.Values.{Value, Values, Single, Group, Nil, Cons, Fits, AllFit, IsHead, IsSingle, bytes_of, shape_of, shapes_of, targets_of}
use Rattle.jfr_value.specs.Leaves.{part_holder}
use Rattle.jfr_value.specs.Nodes.{IsNode, NodeAt, targets, value_of}
use Rattle.jfr_value.proofs.NodeLaws.{value_is}
use Rattle.jfr_chunk.specs.Parts.{Parts}
use Rattle.jfr_rewrite.specs.Changed.{Change, Plain, changed, changed_all, plain, single_of}
use Rattle.jfr_rewrite.specs.Rewrite.{changed_bytes}
use Rattle.jfr_mask.specs.Fields.{Masks, is_masked_field, is_text}
use Rattle.jfr_mask.specs.Masked.{is_held_masked, is_masked_string, is_string_leaf, masked_texts, masked_texts_all, masking, node_texts, numbered_text, string_bytes, string_text}
use Rattle.jfr_mask.specs.Plain.{ArePlain, ClassIsPlain, FieldIsPlain, HasNoMasked, HaveNoMasked, IsPlain, LayoutIsPlain}
use Rattle.jfr_mask.specs.ReachBut.{node_targets_but, targets_but, unkeyed}

-- What holds of all numbers before one, and of it, holds of all before the next.
pub below_next : (P : ℕ → Type 0) (n : ℕ) → ((i : ℕ) → i < n → P i) → P n → (i : ℕ) → i < n + 1 → P i
below_next P n f p i h = by_less (cases_lt i n)
  where
    by_less : (i < n) ⊎ (n ≤ i) → P i
    by_less (inl l) = f i l
    by_less (inr l) = let e : n ≡ i = omega arith in subst P e p

-- The class that is found is at its index.
indexed : (k : Classes) (id : ℕ) (c : Class) → find_class k id ≡ Some c → (i : ℕ) × (class_index k id ≡ Some i) × (slice_get k i ≡ Some c)
indexed k id c e =
    let i : ℕ = position_or_len (λ (d : Class). d.id == id) k in
    let g : slice_get k i ≡ Some c = sym (find_at (λ (d : Class). d.id == id) k) ∙ e in
    (i, ap (λ b. cond b (Some i) None) (lt-ltb i (length k) (slice_get_within k i c g)), g)

-- The layout of the field with a number.
field_layout : (k : Classes) (fs : List Field) (ss : List FieldLayout) → map (λ s. s.shape) ss ≡ map (λ f. f.shape) fs → AllByRecursion (IsFieldLayout k) ss
    → (n : ℕ) (f : Field) → slice_get fs n ≡ Some f → (s : FieldLayout) × (slice_get ss n ≡ Some s) × (s.shape ≡ f.shape) × IsFieldLayout k s
field_layout k [] ss e a n f g = cc
field_layout k (x ∷ fs) [] e a n f g = cc
field_layout k (x ∷ fs) (s ∷ ss) e a zero f g = let h : x ≡ f = cc in let q : s.shape ≡ x.shape = cc in (s, refl, q ∙ ap (λ (z : Field). z.shape) h, a.0)
field_layout k (x ∷ fs) (s ∷ ss) e a (suc n) f g = let q : map (λ (s : FieldLayout). s.shape) ss ≡ map (λ (f : Field). f.shape) fs = cc in field_layout k fs ss q a.1 n f g

module _ (masks : Masks) (k : Classes) (flags : List Bool) where
  -- A field is plain if its layout is.
  field_plain : (index number : ℕ) (f : Field) (s : FieldLayout) → s.shape ≡ f.shape → IsFieldLayout k s → LayoutIsPlain masks flags index number s → FieldIsPlain masks k flags index number f
  field_plain index number f s e l p = λ nc. (
    (p (ap (λ (z : Shape). z.constant) e ∙ nc)).0,
    λ d m found composite at.
        (let kind : Some (kind_of d.name) ≡ Some s.kind =
        sym (ap (option_map (λ (c : Class). kind_of c.name)) (ap (λ (z : Shape). find_class k z.class) e ∙ found)) ∙ l.kind in
        let same : kind_of d.name ≡ s.kind = cc in
        let place : Some s.class_index ≡ Some m = sym l.class_index ∙ (ap (λ (z : Shape). class_index k z.class) e ∙ at) in
        let there : s.class_index ≡ m = cc in
        subst (IsPlain flags) there ((p (ap (λ (z : Shape). z.constant) e ∙ nc)).1 (sym same ∙ composite))),
  )

  -- A composite class is plain if the layouts of its fields are.
  pub composite_plain : (index : ℕ) (kind : Kind) (o : Option Class) (ss : List FieldLayout) → kind ≡ kinds.Composite → IfSome o (λ c. kind ≡ kind_of c.name)
      → IfSome o (λ c. AreFieldLayouts k c.fields ss)
      → ((number : ℕ) (s : FieldLayout) → slice_get ss number ≡ Some s → LayoutIsPlain masks flags index number s) → IfSome o (ClassIsPlain masks k flags index)
  composite_plain index kind None ss e a l p = tt
  composite_plain index kind (Some c) ss e a l p = record {
    fields = λ composite number f g. (let r = field_layout k c.fields ss l.shapes l.each number f g in field_plain index number f r.0 r.2 r.3 (p number r.0 r.1));
    text = λ t. (let h : kinds.Composite ≡ kinds.Text = sym e ∙ (a ∙ t) in cc);
  }

  module _ (right : ArePlain masks k flags) where
    abbrev masked : Option Holder → Bool
    masked = is_held_masked masks k

    -- Values of this shape with this holder have no masked string.
    abbrev ShapeIsPlain : Option Holder → Shape → Type 0
    ShapeIsPlain h s = s.constant ≡ false → (c : Class) → find_class k s.class ≡ Some c
        → (kind_of c.name ≡ kinds.Text → masked h ≡ false) × (kind_of c.name ≡ kinds.Composite → (m : ℕ) → class_index k s.class ≡ Some m → IsPlain flags m)

    abbrev AllPlain : (ℕ → Option Holder) → List Shape → Type 0
    AllPlain f [] = ⊤
    AllPlain f (s ∷ ss) = ShapeIsPlain (f zero) s × AllPlain (λ n. f (suc n)) ss

    -- The items of an array.
    items_plain : (h : Option Holder) (s : Shape) (n : ℕ) → ShapeIsPlain h s → AllPlain (λ i. h) (replicate n (item_of s))
    items_plain h s zero p = tt
    items_plain h s (suc n) p = (p, items_plain h s n p)

    -- The fields of a class.
    fields_plain : (id m : ℕ) (e : ℕ → ℕ) (fs : List Field) → class_index k id ≡ Some m → ((n : ℕ) (f : Field) → slice_get fs n ≡ Some f → FieldIsPlain masks k flags m (e n) f)
        → AllPlain (λ n. Some (record { class = id; field = e n })) (map (λ f. f.shape) fs)
    fields_plain id m e [] at p = tt
    fields_plain id m e (f ∷ fs) at p = (
      λ nc d found. (
        λ t. ap (λ o. option_map_or (λ index. is_masked_field masks index (e zero)) o false) at ∙ (p zero f refl nc).0,
        λ t i g. (p zero f refl nc).1 d i found t g,
      ),
      fields_plain id m (λ n. e (suc n)) fs at (λ n g q. p (suc n) g q),
    )

    -- The parts of a value.
    parts_plain : (h : Option Holder) (s : Shape) (head : List ℕ) (ss : List Shape) → IsHead k s head ss → ShapeIsPlain h s → AllPlain (part_holder s h) ss
    parts_plain h s head ss (inl i) p =
        subst (λ a. AllPlain (if a then (λ n. h) else (λ n. Some (record { class = s.class; field = n }))) ss) (sym i.0) (subst (AllPlain (λ n. h)) (sym i.3) (items_plain h s i.1 p))
    parts_plain h s head ss (inr i) p =
        let x = indexed k s.class i.2 i.3 in
        let c = right x.0 ((p i.1 i.2 i.3).1 i.4 x.0 x.1) i.2 x.2 in
        subst (λ a. AllPlain (if a then (λ n. h) else (λ n. Some (record { class = s.class; field = n }))) ss) (sym i.0)
        (subst (AllPlain (λ n. Some (record { class = s.class; field = n }))) (sym i.6) (fields_plain s.class x.0 (λ n. n) i.2.fields x.1 (c.fields i.4)))

    no_string : (b : Bool) → (b && false) ≡ false
    no_string true = refl
    no_string false = refl

    by_kind : (b : Bool) (kind : Kind) → (kind ≡ kinds.Text → b ≡ false) → (b && is_text kind) ≡ false
    by_kind b kinds.Boolean p = no_string b
    by_kind b kinds.Byte p = no_string b
    by_kind b kinds.Char p = no_string b
    by_kind b kinds.Short p = no_string b
    by_kind b kinds.Int p = no_string b
    by_kind b kinds.Long p = no_string b
    by_kind b kinds.Float p = no_string b
    by_kind b kinds.Double p = no_string b
    by_kind b kinds.Text p = ap (λ z. z && true) (p refl)
    by_kind b kinds.Composite p = no_string b

    single_plain : (h : Option Holder) (s : Shape) (kind : LeafKind) (b : List ℕ) (key : Option ℕ) → IsSingle k s kind b key → ShapeIsPlain h s → HasNoMasked masked h (Single s kind b key)
    single_plain h s kind b key (inl i) p = ap (λ z. masked h && is_string_leaf z) i.4 ∙ no_string (masked h)
    single_plain h s kind b key (inr i) p = ap (λ z. masked h && is_string_leaf z) i.4 ∙ by_kind (masked h) (kind_of i.2.name) (p i.1 i.2 i.3).0

    mutual
      value_plain : (h : Option Holder) (v : Value) → Fits k v → ShapeIsPlain h (shape_of v) → HasNoMasked masked h v
      value_plain h (Single s kind b key) f p = single_plain h s kind b key f p
      value_plain h (Group s head vs) f p = values_plain (part_holder s h) vs f.1 (parts_plain h s head (shapes_of vs) f.0 p)

      values_plain : (f : ℕ → Option Holder) (vs : Values) → AllFit k vs → AllPlain f (shapes_of vs) → HaveNoMasked masked f vs
      values_plain f Nil a p = tt
      values_plain f (Cons v vs) a p = (value_plain (f zero) v a.0 p.0, values_plain (λ n. f (suc n)) vs a.1 p.1)

    -- A value of a plain class that is in no field has no masked string.
    pub class_plain : (s : Shape) (m : ℕ) (v : Value) → Fits k v → s ≡ shape_of v → class_index k s.class ≡ Some m → IsPlain flags m → HasNoMasked masked None v
    class_plain s m v f e at p = value_plain None v f (subst (ShapeIsPlain None) e shape)
      where
        shape : ShapeIsPlain None s
        shape nc c found =
            let x = indexed k s.class c found in
            let there : Some x.0 ≡ Some m = sym x.1 ∙ at in
            let same : x.0 ≡ m = cc in
            let r = right m p c (subst (λ i. slice_get k i ≡ Some c) same x.2) in
            (r.text, λ t i g. (let h : Some m ≡ Some i = sym at ∙ g in let q : m ≡ i = cc in subst (IsPlain flags) q p))

    -- If all classes are plain, no value has a masked string.
    pub all_plain : ((i : ℕ) → i < length k → IsPlain flags i) → (v : Value) → Fits k v → HasNoMasked masked None v
    all_plain all v f = value_plain None v f shape
      where
        shape : ShapeIsPlain None (shape_of v)
        shape nc c found =
            let x = indexed k (shape_of v).class c found in
            let p : IsPlain flags x.0 = all x.0 (slice_get_within k x.0 c x.2) in
            let r = right x.0 p c x.2 in
            (r.text, λ t i g. (let h : Some x.0 ≡ Some i = sym x.1 ∙ g in let q : x.0 ≡ i = cc in subst (IsPlain flags) q p))

-- A change that changes only masked strings changes nothing in such a value.
module _ (masked : Option Holder → Bool) (ch : Change) (stays : (h : Option Holder) (s : Shape) (x : Plain) → is_masked_string masked h (single_of s x) ≡ false → ch h s x ≡ x) where
  mutual
    pub plain_unchanged : (h : Option Holder) (v : Value) → HasNoMasked masked h v → changed ch h v ≡ v
    plain_unchanged h (Single s kind b key) p = ap (single_of s) (stays h s (plain kind b key) p)
    plain_unchanged h (Group s head vs) p = ap (Group s head) (all_unchanged (part_holder s h) vs p)

    all_unchanged : (f : ℕ → Option Holder) (vs : Values) → HaveNoMasked masked f vs → changed_all ch f vs ≡ vs
    all_unchanged f Nil p = refl
    all_unchanged f (Cons v vs) p = ap (λ z. Cons z (changed_all ch (λ n. f (suc n)) vs)) (plain_unchanged (f zero) v p.0) ∙ ap (Cons v) (all_unchanged (λ n. f (suc n)) vs p.1)

-- All that it refers to counts.
pub plain_targets : (masked : Option Holder → Bool) (h : Option Holder) (v : Value) → HasNoMasked masked h v → targets_but (is_masked_string masked) h v ≡ targets_of v
plain_targets masked h v p =
    ap targets_of (plain_unchanged masked (unkeyed (is_masked_string masked)) (λ h s x e. ap (λ b. if b then plain x.kind x.bytes None else x) e) h v p)

-- Masking changes nothing in it.
pub plain_masked : (masked : Option Holder → Bool) (show : List ℕ → List ℕ) (p : Parts) (h : Option Holder) (v : Value) → HasNoMasked masked h v → changed (masking masked show p) h v ≡ v
plain_masked masked show p h v q =
    plain_unchanged masked (masking masked show p) (λ h s x e. ap (λ b. if b then plain x.kind (string_bytes (option_map show (string_text p s.class x.bytes x.key))) None else x) e) h v q

-- It has no texts for the dictionary.
mutual
  pub plain_texts : (masked : Option Holder → Bool) (known : List ℕ → Bool) (p : Parts) (h : Option Holder) (v : Value) → HasNoMasked masked h v → masked_texts masked known p h v ≡ []
  plain_texts masked known p h (Single s kind b key) q = ap (λ t. if t then numbered_text known (string_text p s.class b key) else []) q
  plain_texts masked known p h (Group s head vs) q = no_texts masked known p (part_holder s h) vs q

  no_texts : (masked : Option Holder → Bool) (known : List ℕ → Bool) (p : Parts) (f : ℕ → Option Holder) (vs : Values) → HaveNoMasked masked f vs → masked_texts_all masked known p f vs ≡ []
  no_texts masked known p f Nil q = refl
  no_texts masked known p f (Cons v vs) q =
      ap (λ z. z ++ masked_texts_all masked known p (λ n. f (suc n)) vs) (plain_texts masked known p (f zero) v q.0) ∙ no_texts masked known p (λ n. f (suc n)) vs q.1

-- The node of a value without masked strings has no texts for the dictionary.
pub node_no_texts : (p : Parts) (masked : Option Holder → Bool) (known : List ℕ → Bool) (n : NodeAt) (v : Value) → Sound p.classes → IsNode p.classes p.bytes n v → HasNoMasked masked None v
    → node_texts masked known p n ≡ []
node_no_texts p masked known n v sound i h = ap (λ o. option_map_or (masked_texts masked known p None) o []) (value_is p.classes p.bytes n v sound i) ∙ plain_texts masked known p None v h

-- The node of such a value keeps its bytes.
pub node_unchanged : (p : Parts) (masked : Option Holder → Bool) (show : List ℕ → List ℕ) (n : NodeAt) (v : Value) → Sound p.classes → IsNode p.classes p.bytes n v → HasNoMasked masked None v
    → changed_bytes (masking masked show p) p.classes p.bytes n ≡ slice_range p.bytes n.at n.end
node_unchanged p masked show n v sound i h =
    ap (λ o. option_map_or (λ x. bytes_of (changed (masking masked show p) None x)) o []) (value_is p.classes p.bytes n v sound i) ∙ (ap bytes_of (plain_masked masked show p None v h) ∙ sym i.bytes)

-- What the node of a value of a plain class refers to, when masked strings don't count, is all that it refers to.
pub node_plain : (p : Parts) (masks : Masks) (flags : List Bool) (n : NodeAt) (v : Value) (m : ℕ) → Sound p.classes → ArePlain masks p.classes flags → IsNode p.classes p.bytes n v
    → class_index p.classes n.shape.class ≡ Some m → IsPlain flags m → node_targets_but (is_masked_string (is_held_masked masks p.classes)) p n ≡ targets p.classes p.bytes n
node_plain p masks flags n v m sound right i at f =
    let e : value_of p.classes p.bytes n ≡ Some v = value_is p.classes p.bytes n v sound i in
    ap (λ o. option_map_or (targets_but (is_masked_string (is_held_masked masks p.classes)) None) o []) e
    ∙ (plain_targets (is_held_masked masks p.classes) None v (class_plain masks p.classes flags right n.shape m v i.fits i.shape at f) ∙ sym (ap (λ o. option_map_or targets_of o []) e))

-- A node of a plain class refers to what is listed, given what the code knows of the node.
pub known_plain : (p : Parts) (masks : Masks) (flags : List Bool) (k : Classes) (b : List ℕ) (n : NodeAt) → Sound p.classes → ArePlain masks p.classes flags → k ≡ p.classes → b ≡ p.bytes
    → (v : Value) × IsNode p.classes b n v → (m : ℕ) × (class_index k n.shape.class ≡ Some m) × IsPlain flags m
    → targets k b n ≡ node_targets_but (is_masked_string (is_held_masked masks p.classes)) p n
known_plain p masks flags k b n sound right e q v x =
    ap (λ z. targets z b n) e ∙ (ap (λ z. targets p.classes z n) q
    ∙ sym (node_plain p masks flags n v.0 x.0 sound right (subst (λ z. IsNode p.classes z n v.0) q v.1) (sym (ap (λ z. class_index z n.shape.class) e) ∙ x.1) x.2))
