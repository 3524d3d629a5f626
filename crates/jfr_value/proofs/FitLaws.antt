-- What the format reads is a value by the cases.
use Rattle.jfr_value.specs.declared.leaf.LeafKind.TheVariants as leaf_kinds
use Rattle.jfr_value.specs.Values.{Value, Values, Single, Group, Nil, Cons, values_of, list_of, shape_of, shapes_of, bytes_of, key_of, IsBase, IsSingle, IsHead, Fits, AllFit}
use Rattle.jfr_value.specs.Reading.{base_format, item_format, array_format, shape_format, kind_format, inline_format, class_format, value_format}
use Rattle.std.specs.Prelude.{◌≡◌, ℕ, zero, suc, length, Bool, true, false, List, [], ◌∷◌, map, replicate, Option, Some, None, if◌then◌else◌}
use Rattle.std.specs.List.{AllByRecursion}
use Rattle.std.proofs.Common.{ap, refl, sym, ◌∙◌, subst, inl, inr}
use Rattle.jfr_base.specs.Integer.{Spells}
use Rattle.jfr_base.specs.Formats.{unchecked}
use Rattle.jfr_layout.specs.Classes.{Class, Classes, Field, find_class, kind_of, item_of, is_composite}
use Rattle.jfr_layout.specs.declared.kind.Kind.{Kind}
use Rattle.jfr_layout.specs.declared.kind.Kind.TheVariants as kinds
use Rattle.jfr_layout.specs.declared.shape.Shape.{Shape}
use Rattle.jfr_base.specs.Formats.{Format, Done, Int, Run, ◌>>=◌, with_bytes, times, for_each, Exactly}
use Rattle.jfr_base.proofs.ExactLaws.{exact_bind, bind_exact, exact_with}
use Rattle.jfr_value.proofs.StringLaws.{exact_is, is_exact}
use Rattle.jfr_text.specs.Strings.{IsString, string_format}
use Rattle.std.proofs.lemmas.List.{append-nil}
use Rattle.jfr_value.proofs.TreeLaws.{Good, Tells, class_whole, shape_whole, parts_good, no_rest}

-- The case of one value, its parts' cases aside.
abbrev pub Case : Classes → Value → Type 0
Case k (Single s kind b key) = IsSingle k s kind b key
Case k (Group s h vs) = IsHead k s h (shapes_of vs)

each_shapes : (f : Shape → Format Value) → Tells f → (fs : List Field) (b : List ℕ) (vs : List Value) → Exactly (for_each fs (λ g. f g.shape)) b vs → shapes_of (values_of vs) ≡ map (λ g. g.shape) fs
each_shapes f t [] b vs e = ap (λ z. shapes_of (values_of z)) e.0
each_shapes f t (g ∷ fs) b vs e =
    let i = exact_bind (f g.shape) (λ a. for_each fs (λ g. f g.shape) >>= λ rest. Done (a ∷ rest)) b vs e in
    let j = exact_bind (for_each fs (λ g. f g.shape)) (λ rest. Done (i.value ∷ rest)) i.rest vs i.second in
    let w = t g.shape i.front i.value i.first in
    ap (λ z. shapes_of (values_of z)) j.second.0 ∙ (ap (λ z. z ∷ shapes_of (values_of j.value)) w.0 ∙ ap (λ z. g.shape ∷ z) (each_shapes f t fs j.front j.value j.first))

times_shapes : (x : Format Value) (s : Shape) → ((b : List ℕ) (v : Value) → Exactly x b v → shape_of v ≡ s) → (n : ℕ) (b : List ℕ) (vs : List Value) → Exactly (times n x) b vs
    → shapes_of (values_of vs) ≡ replicate n s
times_shapes x s t zero b vs e = ap (λ z. shapes_of (values_of z)) e.0
times_shapes x s t (suc n) b vs e =
    let i = exact_bind x (λ a. times n x >>= λ rest. Done (a ∷ rest)) b vs e in
    let j = exact_bind (times n x) (λ rest. Done (i.value ∷ rest)) i.rest vs i.second in
    ap (λ z. shapes_of (values_of z)) j.second.0 ∙ (ap (λ z. z ∷ shapes_of (values_of j.value)) (t i.front i.value i.first) ∙ ap (λ z. s ∷ z) (times_shapes x s t n j.front j.value j.first))

run_is : (n : ℕ) (b : List ℕ) (key : Option ℕ) → Exactly (Run n (λ bytes. Done None)) b key → (length b ≡ n) × (key ≡ None)
run_is n b key e = (ap length (no_rest b e.0 e.1 e.2 e.4.1) ∙ e.3, e.4.0)

int_is : (b : List ℕ) (key : Option ℕ) → Exactly (Int unchecked (λ v spelled. Done None)) b key → (v : ℕ) × Spells b v × (key ≡ None)
int_is b key e = (e.2, subst (λ z. Spells z e.2) (sym (no_rest b e.0 e.1 e.3 e.6.1)) e.4, e.6.0)

-- What the format of a base name reads is a value of it.
pub base_is : (kd : Kind) (b : List ℕ) (key : Option ℕ) → is_composite kd ≡ false → Exactly (base_format kd) b key → IsBase kd b key
base_is kinds.Boolean b key o e = run_is 1 b key e
base_is kinds.Byte b key o e = run_is 1 b key e
base_is kinds.Char b key o e = int_is b key e
base_is kinds.Short b key o e = int_is b key e
base_is kinds.Int b key o e = int_is b key e
base_is kinds.Long b key o e = int_is b key e
base_is kinds.Float b key o e = run_is 4 b key e
base_is kinds.Double b key o e = run_is 8 b key e
base_is kinds.Text b key o e =
    let i = exact_bind (string_format true) (λ s. Done (key_of s)) b key e in
    (i.value, subst (λ z. IsString z i.value) (sym (no_rest b i.front i.rest i.split i.second.1)) (exact_is i.front i.value i.first), i.second.0)
base_is kinds.Composite b key o e = cc

-- And back.
is_run : (n : ℕ) (b : List ℕ) (key : Option ℕ) → length b ≡ n → key ≡ None → Exactly (Run n (λ bytes. Done None)) b key
is_run n b key l q = (b, [], sym (append-nil b), l, (q, refl))

is_int : (b : List ℕ) (key : Option ℕ) (v : ℕ) → Spells b v → key ≡ None → Exactly (Int unchecked (λ v spelled. Done None)) b key
is_int b key v s q = (b, [], v, sym (append-nil b), s, refl, (q, refl))

pub is_base : (kd : Kind) (b : List ℕ) (key : Option ℕ) → IsBase kd b key → Exactly (base_format kd) b key
is_base kinds.Boolean b key i = is_run 1 b key i.0 i.1
is_base kinds.Byte b key i = is_run 1 b key i.0 i.1
is_base kinds.Char b key i = is_int b key i.0 i.1 i.2
is_base kinds.Short b key i = is_int b key i.0 i.1 i.2
is_base kinds.Int b key i = is_int b key i.0 i.1 i.2
is_base kinds.Long b key i = is_int b key i.0 i.1 i.2
is_base kinds.Float b key i = is_run 4 b key i.0 i.1
is_base kinds.Double b key i = is_run 8 b key i.0 i.1
is_base kinds.Text b key i = bind_exact (string_format true) (λ s. Done (key_of s)) b [] b i.0 key (sym (append-nil b)) (is_exact b i.0 i.1) (i.2, refl)
is_base kinds.Composite b key i = absurd i

module _ (k : Classes) where
  single_case : (kd : Kind) (s : Shape) (c : Class) (b : List ℕ) (v : Value) → s.array ≡ false → s.constant ≡ false → find_class k s.class ≡ Some c → kind_of c.name ≡ kd → is_composite kd ≡ false
      → Exactly (with_bytes [] (base_format kd) (λ key h. Done (Single s (leaf_kinds.Base kd) h key))) b v → Case k v
  single_case kd s c b v x y q m o e =
      let i = exact_with (base_format kd) (λ key h. Done (Single s (leaf_kinds.Base kd) h key)) [] b v e in
      subst (Case k) (sym i.second.0) (inr (x, y, c, q, ap (λ z. leaf_kinds.Base z) (sym m), subst (λ z. IsBase z i.front i.value) (sym m) (base_is kd i.front i.value o i.first)))

  kind_case : (f : Shape → Format Value) → Tells f → (kd : Kind) (s : Shape) (c : Class) (b : List ℕ) (v : Value) → s.array ≡ false → s.constant ≡ false → find_class k s.class ≡ Some c
      → kind_of c.name ≡ kd
      → Exactly (kind_format kd s (for_each c.fields (λ g. f g.shape))) b v → Case k v
  kind_case f t kinds.Composite s c b v x y q m e =
      let i = exact_bind (for_each c.fields (λ g. f g.shape)) (λ vs. Done (Group s [] (values_of vs))) b v e in
      subst (Case k) (sym i.second.0) (inr (x, y, c, q, m, refl, each_shapes f t c.fields i.front i.value i.first))
  kind_case f t kinds.Boolean s c b v x y q m e = single_case kinds.Boolean s c b v x y q m refl e
  kind_case f t kinds.Byte s c b v x y q m e = single_case kinds.Byte s c b v x y q m refl e
  kind_case f t kinds.Char s c b v x y q m e = single_case kinds.Char s c b v x y q m refl e
  kind_case f t kinds.Short s c b v x y q m e = single_case kinds.Short s c b v x y q m refl e
  kind_case f t kinds.Int s c b v x y q m e = single_case kinds.Int s c b v x y q m refl e
  kind_case f t kinds.Long s c b v x y q m e = single_case kinds.Long s c b v x y q m refl e
  kind_case f t kinds.Float s c b v x y q m e = single_case kinds.Float s c b v x y q m refl e
  kind_case f t kinds.Double s c b v x y q m e = single_case kinds.Double s c b v x y q m refl e
  kind_case f t kinds.Text s c b v x y q m e = single_case kinds.Text s c b v x y q m refl e

  tells : (n : ℕ) → Tells (shape_format (class_format n k))
  tells n s b v e = let w = shape_whole (class_format n k) (class_whole k n) s b v e in (w.shape, w.bytes)

  class_case : (n : ℕ) (s : Shape) (b : List ℕ) (v : Value) → s.array ≡ false → s.constant ≡ false → Exactly (class_format n k s) b v → Case k v
  unfolding class_format
  class_case zero s b v x y e = absurd e
  class_case (suc n) s b v x y e = by_class (find_class k s.class) refl e
    where
      by_class : (o : Option Class) → find_class k s.class ≡ o → Exactly (inline_format (class_format n k) s o) b v → Case k v
      by_class None q e = absurd e
      by_class (Some c) q e = kind_case (shape_format (class_format n k)) (tells n) (kind_of c.name) s c b v x y q refl e

  shape_case : (n : ℕ) (s : Shape) (b : List ℕ) (v : Value) → Exactly (shape_format (class_format n k) s) b v → Case k v
  shape_case n s b v e = by_array s.array refl e
    where
      by_constant : (t : Bool) → s.array ≡ false → s.constant ≡ t → Exactly (if t then Int unchecked (λ key b. Done (Single s (leaf_kinds.Key key) b (Some key))) else class_format n k s) b v
          → Case k v
      by_constant true x y e = subst (Case k) (sym e.6.0) (inl (x, y, e.2, e.4, refl, refl))
      by_constant false x y e = class_case n s b v x y e

      by_array : (t : Bool) → s.array ≡ t → Exactly (if t then array_format (item_format (class_format n k) (item_of s)) s else item_format (class_format n k) s) b v → Case k v
      by_array true x e =
          let i = exact_bind (times e.2 (item_format (class_format n k) (item_of s))) (λ vs. Done (Group s e.0 (values_of vs))) e.1 v e.6 in
          subst (Case k) (sym i.second.0) (inl (
            x,
            e.2,
            e.4,
            times_shapes (item_format (class_format n k) (item_of s)) (item_of s)
                (λ b v e. (tells n (item_of s) b v e).0) e.2 i.front i.value i.first,
          ))
      by_array false x e = by_constant s.constant x refl e

  pub good_case : (v : Value) → Good k v → Case k v
  unfolding value_format
  good_case v g = shape_case 34 (shape_of v) (bytes_of v) v g

  mutual
    pub good_fits : (v : Value) → Good k v → Fits k v
    good_fits (Single s kind b key) g = good_case (Single s kind b key) g
    good_fits (Group s h vs) g = (good_case (Group s h vs) g, all_fit vs (parts_good k (Group s h vs) g))

    pub all_fit : (vs : Values) → AllByRecursion (Good k) (list_of vs) → AllFit k vs
    all_fit Nil g = tt
    all_fit (Cons v vs) g = (good_fits v g.0, all_fit vs g.1)
