-- What a value's format reads: its bytes, and parts that are values by themselves.
use Rattle.jfr_value.specs.declared.leaf.LeafKind.{LeafKind}
use Rattle.jfr_value.specs.declared.leaf.LeafKind.TheVariants as leaf_kinds
use Rattle.jfr_value.specs.Values.{Value, Single, Group, values_of, list_of, shape_of, parts_of, bytes_of, bytes_of_all}
use Rattle.jfr_value.specs.Reading.{base_format, item_format, array_format, shape_format, fields_format, kind_format, inline_format, class_format, value_format}
use Rattle.std.specs.Prelude.{◌≡◌, ℕ, zero, suc, Bool, true, false, List, [], ◌∷◌, ◌++◌, Option, Some, None, if◌then◌else◌}
use Rattle.std.specs.List.{AllByRecursion}
use Rattle.std.proofs.Common.{ap, refl, sym, ◌∙◌, subst}
use Rattle.std.proofs.lemmas.List.{append-nil}
use Rattle.jfr_base.specs.Formats.{unchecked}
use Rattle.jfr_layout.specs.Classes.{Class, Classes, Field, find_class, kind_of, item_of}
use Rattle.jfr_layout.specs.declared.kind.Kind.{Kind}
use Rattle.jfr_layout.specs.declared.kind.Kind.TheVariants as kinds
use Rattle.jfr_layout.specs.declared.shape.Shape.{Shape}
use Rattle.jfr_base.specs.Formats.{Format, Done, Int, ◌>>=◌, with_bytes, times, for_each, Exactly}
use Rattle.jfr_base.proofs.ExactLaws.{exact_bind, bind_exact, exact_with, times_more, each_more}

-- A format of more depth reads at least as much.
abbrev pub More : (f g : Shape → Format Value) → Type 0
More f g = (s : Shape) (b : List ℕ) (v : Value) → Exactly (f s) b v → Exactly (g s) b v

item_more : (f g : Shape → Format Value) → More f g → More (item_format f) (item_format g)
item_more f g m s b v e = by_mark s.constant (m s b v) e
  where
    by_mark : (t : Bool) → (Exactly (f s) b v → Exactly (g s) b v) → Exactly (if t then Int unchecked (λ key b. Done (Single s (leaf_kinds.Key key) b (Some key))) else f s) b v
        → Exactly (if t then Int unchecked (λ key b. Done (Single s (leaf_kinds.Key key) b (Some key))) else g s) b v
    by_mark true m e = e
    by_mark false m e = m e

array_more : (f g : Format Value) → ((b : List ℕ) (v : Value) → Exactly f b v → Exactly g b v) → (s : Shape) (b : List ℕ) (v : Value) → Exactly (array_format f s) b v → Exactly (array_format g s) b v
array_more f g m s b v e =
    let i = exact_bind (times e.2 f) (λ vs. Done (Group s e.0 (values_of vs))) e.1 v e.6 in
    (e.0, e.1, e.2, e.3, e.4, e.5, bind_exact (times e.2 g) (λ vs. Done (Group s e.0 (values_of vs))) i.front i.rest e.1 i.value v i.split (times_more f g m e.2 i.front i.value i.first) i.second)

pub shape_more : (f g : Shape → Format Value) → More f g → More (shape_format f) (shape_format g)
shape_more f g m s b v e = by_mark s.array e
  where
    by_mark : (t : Bool) → Exactly (if t then array_format (item_format f (item_of s)) s else item_format f s) b v
        → Exactly (if t then array_format (item_format g (item_of s)) s else item_format g s) b v
    by_mark true e = array_more (item_format f (item_of s)) (item_format g (item_of s)) (item_more f g m (item_of s)) s b v e
    by_mark false e = item_more f g m s b v e

kind_more : (x y : Format (List Value)) → ((b : List ℕ) (vs : List Value) → Exactly x b vs → Exactly y b vs) → (kd : Kind) (s : Shape) (b : List ℕ) (v : Value) → Exactly (kind_format kd s x) b v
    → Exactly (kind_format kd s y) b v
kind_more x y m kinds.Composite s b v e =
    let i = exact_bind x (λ vs. Done (Group s [] (values_of vs))) b v e in
    bind_exact y (λ vs. Done (Group s [] (values_of vs))) i.front i.rest b i.value v i.split (m i.front i.value i.first) i.second
kind_more x y m kd s b v e = e

module _ (k : Classes) where
  pub class_more : (n : ℕ) → More (class_format n k) (class_format (suc n) k)
  unfolding class_format
  class_more zero s b v e = absurd e
  class_more (suc n) s b v e = by_class (find_class k s.class) e (class_more n)
    where
      by_class : (o : Option Class) → Exactly (inline_format (class_format n k) s o) b v → More (class_format n k) (class_format (suc n) k) → Exactly (inline_format (class_format (suc n) k) s o) b v
      by_class None e m = absurd e
      by_class (Some c) e m =
          kind_more (fields_format (class_format n k) c.fields) (fields_format (class_format (suc n) k) c.fields)
          (λ b vs. each_more (λ f. shape_format (class_format n k) f.shape) (λ f. shape_format (class_format (suc n) k) f.shape)
          (λ f. shape_more (class_format n k) (class_format (suc n) k) m f.shape) c.fields b vs)
          (kind_of c.name) s b v e

-- The value that is read has this shape and these bytes, and each part is a value by itself.
pub record Whole (f : Shape → Format Value) (s : Shape) (b : List ℕ) (v : Value) : Type 0 where
  pub shape : shape_of v ≡ s
  pub bytes : bytes_of v ≡ b
  pub parts : AllByRecursion (λ w. Exactly (f (shape_of w)) (bytes_of w) w) (parts_of v)

-- Parts that are read one after another.
pub record ClassLayout (f : Shape → Format Value) (b : List ℕ) (vs : List Value) : Type 0 where
  pub bytes : bytes_of_all (values_of vs) ≡ b
  pub each : AllByRecursion (λ w. Exactly (f (shape_of w)) (bytes_of w) w) (list_of (values_of vs))

abbrev pub Tells : (f : Shape → Format Value) → Type 0
Tells f = (s : Shape) (b : List ℕ) (v : Value) → Exactly (f s) b v → (shape_of v ≡ s) × (bytes_of v ≡ b)

row_more : (f : Shape → Format Value) (s : Shape) (h r b : List ℕ) (v : Value) (vs : List Value) → b ≡ h ++ r → Exactly (f s) h v → shape_of v ≡ s → bytes_of v ≡ h → ClassLayout f r vs
    → ClassLayout f b (v ∷ vs)
row_more f s h r b v vs e x t u i = record {
  bytes = ap (λ z. z ++ bytes_of_all (values_of vs)) u ∙ (ap (λ z. h ++ z) i.bytes ∙ sym e);
  each = (subst (λ z. Exactly (f z) (bytes_of v) v) (sym t) (subst (λ z. Exactly (f s) z v) (sym u) x), i.each);
}

each_row : (f : Shape → Format Value) → Tells f → (fs : List Field) (b : List ℕ) (vs : List Value) → Exactly (for_each fs (λ g. f g.shape)) b vs → ClassLayout f b vs
each_row f t [] b vs e = subst (ClassLayout f b) (sym e.0) (record { bytes = sym e.1; each = tt })
each_row f t (g ∷ fs) b vs e =
    let i = exact_bind (f g.shape) (λ a. for_each fs (λ g. f g.shape) >>= λ rest. Done (a ∷ rest)) b vs e in
    let j = exact_bind (for_each fs (λ g. f g.shape)) (λ rest. Done (i.value ∷ rest)) i.rest vs i.second in
    let w = t g.shape i.front i.value i.first in
    let r : i.rest ≡ j.front = j.split ∙ (ap (λ z. j.front ++ z) j.second.1 ∙ append-nil j.front) in
    subst (ClassLayout f b) (sym j.second.0) (row_more f g.shape i.front j.front b i.value j.value (i.split ∙ ap (λ z. i.front ++ z) r) i.first w.0 w.1 (each_row f t fs j.front j.value j.first))

times_row : (f : Shape → Format Value) (x : Format Value) (s : Shape) → ((b : List ℕ) (v : Value) → Exactly x b v → (shape_of v ≡ s) × (bytes_of v ≡ b) × Exactly (f s) b v)
    → (n : ℕ) (b : List ℕ) (vs : List Value) → Exactly (times n x) b vs → ClassLayout f b vs
times_row f x s t zero b vs e = subst (ClassLayout f b) (sym e.0) (record { bytes = sym e.1; each = tt })
times_row f x s t (suc n) b vs e =
    let i = exact_bind x (λ a. times n x >>= λ rest. Done (a ∷ rest)) b vs e in
    let j = exact_bind (times n x) (λ rest. Done (i.value ∷ rest)) i.rest vs i.second in
    let w = t i.front i.value i.first in
    let r : i.rest ≡ j.front = j.split ∙ (ap (λ z. j.front ++ z) j.second.1 ∙ append-nil j.front) in
    subst (ClassLayout f b) (sym j.second.0) (row_more f s i.front j.front b i.value j.value (i.split ∙ ap (λ z. i.front ++ z) r) w.2 w.0 w.1 (times_row f x s t n j.front j.value j.first))

single_whole : (f : Shape → Format Value) (s : Shape) (kind : LeafKind) (h b : List ℕ) (key : Option ℕ) (v : Value) → v ≡ Single s kind h key → b ≡ h → Whole f s b v
single_whole f s kind h b key v e d = subst (Whole f s b) (sym e) (record { shape = refl; bytes = sym d; parts = tt })

parts_whole : (f : Shape → Format Value) (s : Shape) (h r b : List ℕ) (vs : List Value) (v : Value) → v ≡ Group s h (values_of vs) → b ≡ h ++ r → ClassLayout f r vs → Whole f s b v
parts_whole f s h r b vs v e d i = subst (Whole f s b) (sym e) (record { shape = refl; bytes = ap (λ z. h ++ z) i.bytes ∙ sym d; parts = i.each })

pub no_rest : (b h r : List ℕ) → b ≡ h ++ r → r ≡ [] → b ≡ h
no_rest b h r e d = e ∙ (ap (λ z. h ++ z) d ∙ append-nil h)

-- If a format of inline values reads whole values, so does that of a shape.
abbrev pub Each : (f : Shape → Format Value) → Type 0
Each f = (s : Shape) (b : List ℕ) (v : Value) → Exactly (f s) b v → Whole (shape_format f) s b v

pub item_whole : (f : Shape → Format Value) → Each f → (s : Shape) (b : List ℕ) (v : Value) → Exactly (item_format f s) b v → Whole (shape_format f) s b v
item_whole f m s b v e = by_mark s.constant e
  where
    by_mark : (t : Bool) → Exactly (if t then Int unchecked (λ key b. Done (Single s (leaf_kinds.Key key) b (Some key))) else f s) b v → Whole (shape_format f) s b v
    by_mark true e = single_whole (shape_format f) s (leaf_kinds.Key e.2) e.0 b (Some e.2) v e.6.0 (no_rest b e.0 e.1 e.3 e.6.1)
    by_mark false e = m s b v e

pub shape_whole : (f : Shape → Format Value) → Each f → (s : Shape) (b : List ℕ) (v : Value) → Exactly (shape_format f s) b v → Whole (shape_format f) s b v
shape_whole f m s b v e = by_mark s.array e
  where
    item : (b : List ℕ) (v : Value) → Exactly (item_format f (item_of s)) b v → (shape_of v ≡ item_of s) × (bytes_of v ≡ b) × Exactly (shape_format f (item_of s)) b v
    item b v e = let w = item_whole f m (item_of s) b v e in (w.shape, w.bytes, e)

    by_mark : (t : Bool) → Exactly (if t then array_format (item_format f (item_of s)) s else item_format f s) b v → Whole (shape_format f) s b v
    by_mark true e =
        let i = exact_bind (times e.2 (item_format f (item_of s))) (λ vs. Done (Group s e.0 (values_of vs))) e.1 v e.6 in
        let r : e.1 ≡ i.front = no_rest e.1 i.front i.rest i.split i.second.1 in
        parts_whole (shape_format f) s e.0 i.front b i.value v i.second.0 (e.3 ∙ ap (λ z. e.0 ++ z) r)
        (times_row (shape_format f) (item_format f (item_of s)) (item_of s) item e.2 i.front i.value i.first)
    by_mark false e = item_whole f m s b v e

single_kind : (f : Shape → Format Value) (kd : Kind) (s : Shape) (b : List ℕ) (v : Value) → Exactly (with_bytes [] (base_format kd) (λ key h. Done (Single s (leaf_kinds.Base kd) h key))) b v
    → Whole f s b v
single_kind f kd s b v e =
    let i = exact_with (base_format kd) (λ key h. Done (Single s (leaf_kinds.Base kd) h key)) [] b v e in
    single_whole f s (leaf_kinds.Base kd) i.front b i.value v i.second.0 (no_rest b i.front i.rest i.split i.second.1)

kind_whole : (f : Shape → Format Value) → Tells f → (kd : Kind) (s : Shape) (fs : List Field) (b : List ℕ) (v : Value) → Exactly (kind_format kd s (for_each fs (λ g. f g.shape))) b v → Whole f s b v
kind_whole f t kinds.Composite s fs b v e =
    let i = exact_bind (for_each fs (λ g. f g.shape)) (λ vs. Done (Group s [] (values_of vs))) b v e in
    parts_whole f s [] i.front b i.value v i.second.0 (no_rest b i.front i.rest i.split i.second.1) (each_row f t fs i.front i.value i.first)
kind_whole f t kinds.Boolean s fs b v e = single_kind f kinds.Boolean s b v e
kind_whole f t kinds.Byte s fs b v e = single_kind f kinds.Byte s b v e
kind_whole f t kinds.Char s fs b v e = single_kind f kinds.Char s b v e
kind_whole f t kinds.Short s fs b v e = single_kind f kinds.Short s b v e
kind_whole f t kinds.Int s fs b v e = single_kind f kinds.Int s b v e
kind_whole f t kinds.Long s fs b v e = single_kind f kinds.Long s b v e
kind_whole f t kinds.Float s fs b v e = single_kind f kinds.Float s b v e
kind_whole f t kinds.Double s fs b v e = single_kind f kinds.Double s b v e
kind_whole f t kinds.Text s fs b v e = single_kind f kinds.Text s b v e

whole_more : (f g : Shape → Format Value) → More f g → (s : Shape) (b : List ℕ) (v : Value) → Whole f s b v → Whole g s b v
whole_more f g m s b v w = record { shape = w.shape; bytes = w.bytes; parts = each (parts_of v) w.parts }
  where
    each : (vs : List Value) → AllByRecursion (λ w. Exactly (f (shape_of w)) (bytes_of w) w) vs → AllByRecursion (λ w. Exactly (g (shape_of w)) (bytes_of w) w) vs
    each [] a = tt
    each (v ∷ vs) a = (m (shape_of v) (bytes_of v) v a.0, each vs a.1)

module _ (k : Classes) where
  pub class_whole : (n : ℕ) → Each (class_format n k)
  unfolding class_format
  class_whole zero s b v e = absurd e
  class_whole (suc n) s b v e =
      whole_more (shape_format (class_format n k)) (shape_format (class_format (suc n) k)) (shape_more (class_format n k) (class_format (suc n) k) (class_more k n)) s b v
      (by_class (find_class k s.class) e (class_whole n))
    where
      by_class : (o : Option Class) → Exactly (inline_format (class_format n k) s o) b v → Each (class_format n k) → Whole (shape_format (class_format n k)) s b v
      by_class None e m = absurd e
      by_class (Some c) e m =
          kind_whole (shape_format (class_format n k)) (λ s b v e. (let w = shape_whole (class_format n k) m s b v e in (w.shape, w.bytes))) (kind_of c.name) s c.fields b v e

  -- A value, and each part of a value, is read by its shape from its bytes.
  abbrev pub Good : Value → Type 0
  Good v = Exactly (value_format k (shape_of v)) (bytes_of v) v

  pub value_whole : (s : Shape) (b : List ℕ) (v : Value) → Exactly (value_format k s) b v → (shape_of v ≡ s) × (bytes_of v ≡ b) × Good v
  unfolding value_format
  value_whole s b v e =
      let w = shape_whole (class_format 34 k) (class_whole 34) s b v e in
      (w.shape, w.bytes, subst (λ z. Exactly (value_format k z) (bytes_of v) v) (sym w.shape) (subst (λ z. Exactly (value_format k s) z v) (sym w.bytes) e))

  pub parts_good : (v : Value) → Good v → AllByRecursion Good (parts_of v)
  unfolding value_format
  parts_good v g = (shape_whole (class_format 34 k) (class_whole 34) (shape_of v) (bytes_of v) v g).parts
