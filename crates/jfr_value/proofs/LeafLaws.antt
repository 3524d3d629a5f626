-- The leaves of a value: what they refer to, and that there are no more of them than bytes.
use Rattle.std.specs.Prelude.{◌≡◌, ℕ, zero, suc, ◌+◌, ◌≤◌, List, [], ◌∷◌, ◌++◌, length, Option, Some, None, Bool, true, false, if◌then◌else◌}
use Rattle.std.specs.List.{filter_map, cons_option}
use Rattle.std.specs.Option.{option_map}
use Rattle.std.proofs.Common.{ap, arith, refl, sym, ◌∙◌, inl, inr}
use Rattle.std.proofs.lemmas.List.{length-append}
use Rattle.std.proofs.lemmas.List.Elements.{filter_map-append}
use Rattle.jfr_base.specs.Integer.{IsSpellingWithin, worth_within}
use Rattle.jfr_text.specs.Strings.{Content, Null, Empty, Key, Utf8, Units, Latin, IsString}
use Rattle.jfr_layout.specs.Classes.{Classes, kind_of}
use Rattle.jfr_layout.specs.declared.kind.Kind.{Kind}
use Rattle.jfr_layout.specs.declared.kind.Kind.TheVariants as kinds
use Rattle.jfr_layout.specs.declared.shape.Shape.{Shape}
use Rattle.jfr_value.specs.declared.leaf.Holder.{Holder}
use Rattle.jfr_value.specs.declared.leaf.LeafKind.{LeafKind}
use Rattle.jfr_value.specs.declared.leaf.LeafKind.TheVariants as leaf_kinds
use Rattle.jfr_value.specs.Values.{Value, Values, Single, Group, Nil, Cons, shapes_of, bytes_of, bytes_of_all, targets_of, targets_of_all, key_of, IsBase, IsSingle, IsHead, Fits, AllFit}
use Rattle.jfr_value.specs.Leaves.{LeafAt, leaves_at, leaves_from, leaf_target, leaf_key, part_holder, spelled_key}

abbrev head_leaves : Option Holder → ℕ → Shape → List ℕ → List LeafAt
head_leaves g at s h = if s.array then record { kind = leaf_kinds.Count (worth_within 8 h); class = s.class; holder = g; at = at; spelled = h } ∷ [] else []

head_none : (g : Option Holder) (at : ℕ) (s : Shape) (h : List ℕ) → filter_map leaf_target (head_leaves g at s h) ≡ []
head_none g at s h = by_mark s.array
  where
    by_mark : (b : Bool) → filter_map leaf_target (if b then record { kind = leaf_kinds.Count (worth_within 8 h); class = s.class; holder = g; at = at; spelled = h } ∷ [] else []) ≡ []
    by_mark true = refl
    by_mark false = refl

-- The key of a leaf is that of the value.
pub string_key : (b : List ℕ) (s : Content) → IsString b s → spelled_key b ≡ key_of s
string_key [] s i = absurd i
string_key (kind ∷ rest) Null i = ap (λ z. spelled_key (z ∷ rest)) i.0
string_key (kind ∷ rest) Empty i = ap (λ z. spelled_key (z ∷ rest)) i.0
string_key (kind ∷ rest) (Key key) i = ap (λ z. spelled_key (z ∷ rest)) i.0 ∙ ap (λ z. Some z) (sym i.1.worth)
string_key (kind ∷ rest) (Utf8 bytes) i = ap (λ z. spelled_key (z ∷ rest)) i.0
string_key (kind ∷ rest) (Units units) i = ap (λ z. spelled_key (z ∷ rest)) i.0
string_key (kind ∷ rest) (Latin bytes) i = ap (λ z. spelled_key (z ∷ rest)) i.0

pub base_key : (kd : Kind) (b : List ℕ) (key : Option ℕ) → IsBase kd b key → leaf_key (leaf_kinds.Base kd) b ≡ key
base_key kinds.Boolean b key i = sym i.1
base_key kinds.Byte b key i = sym i.1
base_key kinds.Char b key i = sym i.2
base_key kinds.Short b key i = sym i.2
base_key kinds.Int b key i = sym i.2
base_key kinds.Long b key i = sym i.2
base_key kinds.Float b key i = sym i.1
base_key kinds.Double b key i = sym i.1
base_key kinds.Text b key i = string_key b i.0 i.1 ∙ sym i.2
base_key kinds.Composite b key i = absurd i

pub single_key : (k : Classes) (s : Shape) (kind : LeafKind) (b : List ℕ) (key : Option ℕ) → IsSingle k s kind b key → leaf_key kind b ≡ key
single_key k s kind b key (inl p) = ap (λ z. leaf_key z b) p.4 ∙ sym p.5
single_key k s kind b key (inr p) = ap (λ z. leaf_key z b) p.4 ∙ base_key (kind_of p.2.name) b key p.5

single_target : (s : Shape) (kind : LeafKind) (b : List ℕ) (key : Option ℕ) → leaf_key kind b ≡ key
    → cons_option (option_map (λ key. (s.class, key)) (leaf_key kind b)) [] ≡ targets_of (Single s kind b key)
single_target s kind b None e = ap (λ z. cons_option (option_map (λ key. (s.class, key)) z) []) e
single_target s kind b (Some key) e = ap (λ z. cons_option (option_map (λ key. (s.class, key)) z) []) e

-- A value refers to what its leaves refer to.
mutual
  pub leaf_targets : (k : Classes) (g : Option Holder) (at : ℕ) (v : Value) → Fits k v → filter_map leaf_target (leaves_at g at v) ≡ targets_of v
  leaf_targets k g at (Single s kind b key) i = single_target s kind b key (single_key k s kind b key i)
  leaf_targets k g at (Group s h vs) i =
      filter_map-append leaf_target (head_leaves g at s h) (leaves_from (part_holder s g) (at + length h) vs)
      ∙ (ap (λ z. z ++ filter_map leaf_target (leaves_from (part_holder s g) (at + length h) vs)) (head_none g at s h) ∙ leaf_targets_from k (part_holder s g) (at + length h) vs i.1)

  pub leaf_targets_from : (k : Classes) (f : ℕ → Option Holder) (at : ℕ) (vs : Values) → AllFit k vs → filter_map leaf_target (leaves_from f at vs) ≡ targets_of_all vs
  leaf_targets_from k f at Nil i = refl
  leaf_targets_from k f at (Cons v vs) i =
      filter_map-append leaf_target (leaves_at (f zero) at v) (leaves_from (λ n. f (suc n)) (at + length (bytes_of v)) vs)
      ∙ (ap (λ z. z ++ filter_map leaf_target (leaves_from (λ n. f (suc n)) (at + length (bytes_of v)) vs)) (leaf_targets k (f zero) at v i.0)
      ∙ ap (λ z. targets_of v ++ z) (leaf_targets_from k (λ n. f (suc n)) (at + length (bytes_of v)) vs i.1))

-- A value without parts has a byte, and so has an array's count.
spelled : (k : ℕ) (h : List ℕ) → IsSpellingWithin k h → 1 ≤ length h
spelled k [] s = absurd s
spelled k (b ∷ h) s = omega arith

string_has : (b : List ℕ) (s : Content) → IsString b s → 1 ≤ length b
string_has [] s i = absurd i
string_has (c ∷ b) s i = omega arith

base_has : (kd : Kind) (b : List ℕ) (key : Option ℕ) → IsBase kd b key → 1 ≤ length b
base_has kinds.Boolean b key i = omega (arith, i.0)
base_has kinds.Byte b key i = omega (arith, i.0)
base_has kinds.Char b key i = spelled 8 b i.1.form
base_has kinds.Short b key i = spelled 8 b i.1.form
base_has kinds.Int b key i = spelled 8 b i.1.form
base_has kinds.Long b key i = spelled 8 b i.1.form
base_has kinds.Float b key i = omega (arith, i.0)
base_has kinds.Double b key i = omega (arith, i.0)
base_has kinds.Text b key i = string_has b i.0 i.1
base_has kinds.Composite b key i = absurd i

pub single_has : (k : Classes) (s : Shape) (kind : LeafKind) (b : List ℕ) (key : Option ℕ) → IsSingle k s kind b key → 1 ≤ length b
single_has k s kind b key (inl p) = spelled 8 b p.3.form
single_has k s kind b key (inr p) = base_has (kind_of p.2.name) b key p.5

head_has : (k : Classes) (g : Option Holder) (at : ℕ) (s : Shape) (h : List ℕ) (ss : List Shape) → IsHead k s h ss → length (head_leaves g at s h) ≤ length h
head_has k g at s h ss (inl p) = by_mark s.array (spelled 8 h p.2.form)
  where
    by_mark : (b : Bool) → 1 ≤ length h
        → length {A = LeafAt} (if b then record { kind = leaf_kinds.Count (worth_within 8 h); class = s.class; holder = g; at = at; spelled = h } ∷ [] else []) ≤ length h
    by_mark true l = l
    by_mark false l = omega arith
head_has k g at s h ss (inr p) = by_mark s.array p.0
  where
    by_mark : (b : Bool) → b ≡ false → length {A = LeafAt} (if b then record { kind = leaf_kinds.Count (worth_within 8 h); class = s.class; holder = g; at = at; spelled = h } ∷ [] else []) ≤ length h
    by_mark true q = cc
    by_mark false q = omega arith

-- There are no more leaves than bytes.
mutual
  pub leaves_within : (k : Classes) (g : Option Holder) (at : ℕ) (v : Value) → Fits k v → length (leaves_at g at v) ≤ length (bytes_of v)
  leaves_within k g at (Single s kind b key) i = single_has k s kind b key i
  leaves_within k g at (Group s h vs) i =
      let a : length (head_leaves g at s h) ≤ length h = head_has k g at s h (shapes_of vs) i.0 in
      let r : length (leaves_from (part_holder s g) (at + length h) vs) ≤ length (bytes_of_all vs) = all_within k (part_holder s g) (at + length h) vs i.1 in
      let l : length (h ++ bytes_of_all vs) ≡ length h + length (bytes_of_all vs) = length-append h (bytes_of_all vs) in
      let m : length (head_leaves g at s h ++ leaves_from (part_holder s g) (at + length h) vs) ≡ length (head_leaves g at s h) + length (leaves_from (part_holder s g) (at + length h) vs) =
      length-append (head_leaves g at s h) (leaves_from (part_holder s g) (at + length h) vs) in
      omega arith

  pub all_within : (k : Classes) (f : ℕ → Option Holder) (at : ℕ) (vs : Values) → AllFit k vs → length (leaves_from f at vs) ≤ length (bytes_of_all vs)
  all_within k f at Nil i = omega arith
  all_within k f at (Cons v vs) i =
      let a : length (leaves_at (f zero) at v) ≤ length (bytes_of v) = leaves_within k (f zero) at v i.0 in
      let r : length (leaves_from (λ n. f (suc n)) (at + length (bytes_of v)) vs) ≤ length (bytes_of_all vs) = all_within k (λ n. f (suc n)) (at + length (bytes_of v)) vs i.1 in
      let l : length (bytes_of v ++ bytes_of_all vs) ≡ length (bytes_of v) + length (bytes_of_all vs) = length-append (bytes_of v) (bytes_of_all vs) in
      let m : length (leaves_at (f zero) at v ++ leaves_from (λ n. f (suc n)) (at + length (bytes_of v)) vs) ≡ length (leaves_at (f zero) at v) + length
      (leaves_from (λ n. f (suc n)) (at + length (bytes_of v)) vs) =
      length-append (leaves_at (f zero) at v) (leaves_from (λ n. f (suc n)) (at + length (bytes_of v)) vs) in
      omega arith

-- The number of leaves doesn't depend on the holders.
mutual
  same_count : (g h : Option Holder) (at : ℕ) (v : Value) → length (leaves_at g at v) ≡ length (leaves_at h at v)
  same_count g h at (Single s kind b key) = refl
  same_count g h at (Group s b vs) =
      length-append (head_leaves g at s b) (leaves_from (part_holder s g) (at + length b) vs)
      ∙ (ap (λ z. z + length (leaves_from (part_holder s g) (at + length b) vs)) (by_mark s.array)
      ∙ (ap (λ z. length (head_leaves h at s b) + z) (same_counts (part_holder s g) (part_holder s h) (at + length b) vs)
      ∙ sym (length-append (head_leaves h at s b) (leaves_from (part_holder s h) (at + length b) vs))))
    where
      leaf : Option Holder → LeafAt
      leaf g = record { kind = leaf_kinds.Count (worth_within 8 b); class = s.class; holder = g; at = at; spelled = b }

      by_mark : (x : Bool) → length (if x then leaf g ∷ [] else []) ≡ length (if x then leaf h ∷ [] else [])
      by_mark true = refl
      by_mark false = refl

  pub same_counts : (f e : ℕ → Option Holder) (at : ℕ) (vs : Values) → length (leaves_from f at vs) ≡ length (leaves_from e at vs)
  same_counts f e at Nil = refl
  same_counts f e at (Cons v vs) =
      length-append (leaves_at (f zero) at v) (leaves_from (λ n. f (suc n)) (at + length (bytes_of v)) vs)
      ∙ (ap (λ z. z + length (leaves_from (λ n. f (suc n)) (at + length (bytes_of v)) vs)) (same_count (f zero) (e zero) at v)
      ∙ (ap (λ z. length (leaves_at (e zero) at v) + z) (same_counts (λ n. f (suc n)) (λ n. e (suc n)) (at + length (bytes_of v)) vs)
      ∙ sym (length-append (leaves_at (e zero) at v) (leaves_from (λ n. e (suc n)) (at + length (bytes_of v)) vs))))
