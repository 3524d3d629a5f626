-- A changed value has the same shape, fits, is read, and has the changed leaves.
use Rattle.std.specs.Prelude.{◌≡◌, ℕ, zero, suc, ◌+◌, List, [], ◌∷◌, ◌++◌, length, map, Option, None, slice_get, Bool, true, false, if◌then◌else◌}
use Rattle.std.specs.Option.{option_map}
use Rattle.std.proofs.Common.{ap, refl, sym, ◌∙◌, subst, inl, inr}
use Rattle.std.proofs.lemmas.List.{map-append}
use Rattle.jfr_base.specs.Formats.{Exactly}
use Rattle.jfr_base.specs.Integer.{worth_within}
use Rattle.jfr_layout.specs.Classes.{Classes, Sound, kind_of}
use Rattle.jfr_layout.specs.declared.shape.Shape.{Shape}
use Rattle.jfr_value.specs.declared.leaf.Holder.{Holder}
use Rattle.jfr_value.specs.declared.leaf.LeafKind.{LeafKind}
use Rattle.jfr_value.specs.declared.leaf.LeafKind.TheVariants as leaf_kinds
use Rattle.jfr_value.specs.declared.node.Step.{Step}
use Rattle.jfr_value.specs.declared.node.Step.TheVariants as steps
use Rattle.jfr_value.specs.Values.{Value, Values, Single, Group, Nil, Cons, list_of, shape_of, shapes_of, bytes_of, IsSingle, IsHead, Fits, AllFit}
use Rattle.jfr_value.specs.Reading.{value_format}
use Rattle.jfr_value.specs.Nodes.{picked}
use Rattle.jfr_value.specs.Leaves.{LeafAt, leaves_at, leaves_from, part_holder}
use Rattle.jfr_value.proofs.NodeLaws.{part}
use Rattle.jfr_value.proofs.DepthLaws.{fits_good}
use Rattle.jfr_value.proofs.LeafLaws.{base_key}
use Rattle.jfr_rewrite.specs.Changed.{plain, Change, changed, changed_all, KeepsFit, content, content_of, changed_leaf, IsReadChanged}

module _ (ch : Change) where
  pub changed_shape : (x : Option Holder) (v : Value) → shape_of (changed ch x v) ≡ shape_of v
  changed_shape x (Single s kind b key) = refl
  changed_shape x (Group s h vs) = refl

  pub changed_shapes : (f : ℕ → Option Holder) (vs : Values) → shapes_of (changed_all ch f vs) ≡ shapes_of vs
  changed_shapes f Nil = refl
  changed_shapes f (Cons v vs) =
      ap (λ z. z ∷ shapes_of (changed_all ch (λ i. f (suc i)) vs)) (changed_shape (f zero) v) ∙ ap (λ z. shape_of v ∷ z) (changed_shapes (λ i. f (suc i)) vs)

  module _ (k : Classes) (keeps : KeepsFit k ch) where
    mutual
      pub changed_fits : (x : Option Holder) (v : Value) → Fits k v → Fits k (changed ch x v)
      changed_fits x (Single s kind b key) f = keeps x s (plain kind b key) f
      changed_fits x (Group s h vs) f = (subst (IsHead k s h) (sym (changed_shapes (part_holder s x) vs)) f.0, changed_fit (part_holder s x) vs f.1)

      pub changed_fit : (g : ℕ → Option Holder) (vs : Values) → AllFit k vs → AllFit k (changed_all ch g vs)
      changed_fit g Nil f = tt
      changed_fit g (Cons v vs) f = (changed_fits (g zero) v f.0, changed_fit (λ i. g (suc i)) vs f.1)

  -- The part with a number is the changed part, given its holder.
  pub changed_get : (f : ℕ → Option Holder) (vs : Values) (i : ℕ) → slice_get (list_of (changed_all ch f vs)) i ≡ option_map (changed ch (f i)) (slice_get (list_of vs) i)
  changed_get f Nil i = refl
  changed_get f (Cons v vs) zero = refl
  changed_get f (Cons v vs) (suc i) = changed_get (λ j. f (suc j)) vs i

  -- The holder of the part to which a step leads.
  abbrev pub stepped : Option Holder → Shape → Step → Option Holder
  stepped x s (steps.Field i) = part_holder s x i
  stepped x s (steps.Item i) = part_holder s x i
  stepped x s steps.Follow = x

  group_part : (x : Option Holder) (s : Shape) (h : List ℕ) (vs : Values) (st : Step) → part (changed ch x (Group s h vs)) st ≡ option_map (changed ch (stepped x s st)) (part (Group s h vs) st)
  group_part x s h vs (steps.Field i) = by_mark s.array
    where
      by_mark : (t : Bool)
          → (if t then None else slice_get (list_of (changed_all ch (part_holder s x) vs)) i) ≡ option_map (changed ch (part_holder s x i)) (if t then None else slice_get (list_of vs) i)
      by_mark true = refl
      by_mark false = changed_get (part_holder s x) vs i
  group_part x s h vs (steps.Item i) = by_mark s.array
    where
      by_mark : (t : Bool)
          → (if t then slice_get (list_of (changed_all ch (part_holder s x) vs)) i else None) ≡ option_map (changed ch (part_holder s x i)) (if t then slice_get (list_of vs) i else None)
      by_mark true = changed_get (part_holder s x) vs i
      by_mark false = refl
  group_part x s h vs steps.Follow = refl

  abbrev nothing : Option Value
  nothing = None

  none_part : (s : Shape) (st : Step) → picked {A = Value} s [] st ≡ None
  none_part s (steps.Field i) = by_mark s.array
    where
      by_mark : (t : Bool) → (if t then nothing else nothing) ≡ nothing
      by_mark true = refl
      by_mark false = refl
  none_part s (steps.Item i) = by_mark s.array
    where
      by_mark : (t : Bool) → (if t then nothing else nothing) ≡ nothing
      by_mark true = refl
      by_mark false = refl
  none_part s steps.Follow = refl

  pub changed_part : (x : Option Holder) (v : Value) (st : Step) → part (changed ch x v) st ≡ option_map (changed ch (stepped x (shape_of v) st)) (part v st)
  changed_part x (Group s h vs) st = group_part x s h vs st
  changed_part x (Single s kind b key) st =
      none_part s st ∙ ap (option_map (changed ch (stepped x s st))) (sym (none_part s st))

  module _ (k : Classes) where
    abbrev leaf : Option Holder → ℕ → Shape → LeafKind → List ℕ → LeafAt
    leaf h at s kind b = record { kind = kind; class = s.class; holder = h; at = at; spelled = b }

    -- A single value as a change sees it is the same as its leaf.
    single_leaf : (h : Option Holder) (at : ℕ) (s : Shape) (kind : LeafKind) (b : List ℕ) (key : Option ℕ) → IsSingle k s kind b key
        → content_of s.class (ch h s (plain kind b key)) ≡ changed_leaf ch (leaf h at s kind b)
    single_leaf h at s kind b key (inl i) = by_kind (sym i.4)
      where
        by_kind : leaf_kinds.Key i.2 ≡ kind → content_of s.class (ch h s (plain kind b key)) ≡ changed_leaf ch (leaf h at s kind b)
        by_kind e =
            subst (λ z. content_of s.class (ch h s (plain z b key)) ≡ changed_leaf ch (leaf h at s z b)) e
            (λ j. content_of s.class (ch h (record { class = s.class; constant = i.1 j; array = i.0 j }) (plain (leaf_kinds.Key i.2) b (i.5 j))))
    single_leaf h at s kind b key (inr i) = by_kind (sym i.4)
      where
        by_kind : leaf_kinds.Base (kind_of i.2.name) ≡ kind → content_of s.class (ch h s (plain kind b key)) ≡ changed_leaf ch (leaf h at s kind b)
        by_kind e =
            subst (λ z. content_of s.class (ch h s (plain z b key)) ≡ changed_leaf ch (leaf h at s z b)) e
            (λ j. content_of s.class (ch h (record { class = s.class; constant = i.1 j; array = i.0 j })
            (plain (leaf_kinds.Base (kind_of i.2.name)) b (sym (base_key (kind_of i.2.name) b key i.5) j))))

    -- An array's count.
    abbrev head_leaves : Option Holder → ℕ → Shape → List ℕ → List LeafAt
    head_leaves h at s head = if s.array then leaf h at s (leaf_kinds.Count (worth_within 8 head)) head ∷ [] else []

    head_content : (h : Option Holder) (at to : ℕ) (s : Shape) (head : List ℕ) → map content (head_leaves h to s head) ≡ map (changed_leaf ch) (head_leaves h at s head)
    head_content h at to s head = by_mark s.array
      where
        by_mark : (t : Bool) → map content (if t then leaf h to s (leaf_kinds.Count (worth_within 8 head)) head ∷ [] else [])
            ≡ map (changed_leaf ch) (if t then leaf h at s (leaf_kinds.Count (worth_within 8 head)) head ∷ [] else [])
        by_mark true = refl
        by_mark false = refl

    both_parts : (es fs xs ys : List LeafAt) → map content es ≡ map (changed_leaf ch) fs → map content xs ≡ map (changed_leaf ch) ys → map content (es ++ xs) ≡ map (changed_leaf ch) (fs ++ ys)
    both_parts es fs xs ys e f =
        map-append content es xs ∙ (ap (λ z. z ++ map content xs) e ∙ (ap (λ z. map (changed_leaf ch) fs ++ z) f ∙ sym (map-append (changed_leaf ch) fs ys)))

    mutual
      pub changed_leaves : (h : Option Holder) (v : Value) (at to : ℕ) → Fits k v → map content (leaves_at h to (changed ch h v)) ≡ map (changed_leaf ch) (leaves_at h at v)
      changed_leaves h (Single s kind b key) at to f = ap (λ z. z ∷ []) (single_leaf h at s kind b key f)
      changed_leaves h (Group s head vs) at to f =
          both_parts (head_leaves h to s head) (head_leaves h at s head) (leaves_from (part_holder s h) (to + length head) (changed_all ch (part_holder s h) vs))
          (leaves_from (part_holder s h) (at + length head) vs)
          (head_content h at to s head) (changed_from (part_holder s h) vs (at + length head) (to + length head) f.1)

      pub changed_from : (g : ℕ → Option Holder) (vs : Values) (at to : ℕ) → AllFit k vs → map content (leaves_from g to (changed_all ch g vs)) ≡ map (changed_leaf ch) (leaves_from g at vs)
      changed_from g Nil at to f = refl
      changed_from g (Cons v vs) at to f =
          both_parts (leaves_at (g zero) to (changed ch (g zero) v)) (leaves_at (g zero) at v)
          (leaves_from (λ n. g (suc n)) (to + length (bytes_of (changed ch (g zero) v))) (changed_all ch (λ n. g (suc n)) vs)) (leaves_from (λ n. g (suc n)) (at + length (bytes_of v)) vs)
          (changed_leaves (g zero) v at to f.0) (changed_from (λ n. g (suc n)) vs (at + length (bytes_of v)) (to + length (bytes_of (changed ch (g zero) v))) f.1)

pub read_changed : (k : Classes) (ch : Change) (x : Option Holder) (v : Value) → Sound k → KeepsFit k ch → Fits k v → IsReadChanged k ch x v
read_changed k ch x v sound keeps f =
    let w : Fits k (changed ch x v) = changed_fits ch k keeps x v f in
    record {
      shape = changed_shape ch x v;
      fits = w;
      read = subst (λ z. Exactly (value_format k z) (bytes_of (changed ch x v)) (changed ch x v)) (changed_shape ch x v) (fits_good k (changed ch x v) sound w);
      leaves = λ at to. changed_leaves ch k x v at to f;
    }
