-- The keys of leaves.
use Rattle.std.specs.Prelude.{◌≡◌, ℕ, zero, suc, ◌+◌, ◌<◌, Bool, true, false, List, [], ◌∷◌, ◌++◌, length, slice_index, slice_range, take, Option, Some, None, IsSome, if◌then◌else◌}
use Rattle.std.specs.List.{AllByRecursion}
use Rattle.std.proofs.Common.{ap, arith, refl, sym, ◌∙◌, subst, inl, inr}
use Rattle.std.proofs.lemmas.List.{take_all}
use Rattle.jfr_base.specs.declared.integer.Var.{Var}
use Rattle.jfr_base.specs.Formats.{int_at}
use Rattle.jfr_base.specs.Integer.{IntAt, IsSpellingWithin, Spells, worth_within}
use Rattle.jfr_base.proofs.OneAnswer.{int_computed}
use Rattle.jfr_text.specs.Strings.{IsString}
use Rattle.jfr_text.specs.Strings as strings
use Rattle.jfr_layout.specs.Classes.{Classes, Sound, kind_of}
use Rattle.jfr_layout.specs.declared.kind.Kind.TheVariants as kinds
use Rattle.jfr_layout.specs.declared.shape.Shape.{Shape}
use Rattle.jfr_value.specs.declared.leaf.Holder.{Holder}
use Rattle.jfr_value.specs.declared.leaf.LeafKind.{LeafKind}
use Rattle.jfr_value.specs.declared.leaf.LeafKind.TheVariants as leaf_kinds
use Rattle.jfr_value.specs.Values.{Value, Values, Single, Group, Nil, Cons, bytes_of, IsBase, IsSingle, Fits, AllFit}
use Rattle.jfr_value.specs.Nodes.{NodeAt, IsNode}
use Rattle.jfr_value.specs.Leaves.{KeyIsSpelled, LeafAt, spelled_key, leaves, leaves_at, leaves_from, part_holder}
use Rattle.jfr_value.proofs.TargetLaws.{leaves_are}

pub all_append : {X : Type 0} (P : X → Type 0) (xs ys : List X) → AllByRecursion P xs → AllByRecursion P ys → AllByRecursion P (xs ++ ys)
all_append P [] ys a b = b
all_append P (x ∷ xs) ys a b = (a.0, all_append P xs ys a.1 b)

-- The integer after the kind byte.
pub key_behind : (rest : List ℕ) → IsSpellingWithin 8 rest → int_at (2 ∷ rest) 1 (length (2 ∷ rest)) ≡ Some (record { value = worth_within 8 rest; end = length (2 ∷ rest) })
key_behind rest s =
    let e : slice_range (2 ∷ rest) 1 (length (2 ∷ rest)) ≡ rest = ap (λ z. take z rest) (omega arith) ∙ take_all (length rest) rest (omega arith) in
    let j : IntAt (2 ∷ rest) 1 (length (2 ∷ rest)) (worth_within 8 rest) =
    record { order = omega arith; within = omega arith; spelled = subst (λ z. Spells z (worth_within 8 rest)) (sym e) (record { form = s; worth = refl }) } in
    int_computed (2 ∷ rest) 1 (length (2 ∷ rest)) (length (2 ∷ rest)) (worth_within 8 rest) (omega arith) (omega arith) j (omega arith)

begins_with : (b : List ℕ) → 0 < length b → slice_index b 0 ≡ 2 → (rest : List ℕ) × (b ≡ 2 ∷ rest)
begins_with [] h e = absurd (omega (h, arith))
begins_with (kind ∷ rest) h e = (rest, ap (λ z. z ∷ rest) e)

module _ (b : List ℕ) (spelled : (rest : List ℕ) → b ≡ 2 ∷ rest → IsSpellingWithin 8 rest) where
  -- A string that is a key.
  pub key_there : 0 < length b → slice_index b 0 ≡ 2 → IsSome (int_at b 1 (length b))
  key_there h e =
      let r = begins_with b h e in
      subst (λ z. IsSome (int_at z 1 (length z))) (sym r.1) (subst (λ z. IsSome z) (sym (key_behind r.0 (spelled r.0 r.1))) refl)

  pub key_read : (w : Var) → 0 < length b → slice_index b 0 ≡ 2 → int_at b 1 (length b) ≡ Some w → Some w.value ≡ spelled_key b
  key_read w h e i =
      let r = begins_with b h e in
      let q : int_at (2 ∷ r.0) 1 (length (2 ∷ r.0)) ≡ Some w = subst (λ z. int_at z 1 (length z) ≡ Some w) r.1 i in
      let x : record { value = worth_within 8 r.0; end = length (2 ∷ r.0) } ≡ w = (let y = sym (key_behind r.0 (spelled r.0 r.1)) ∙ q in cc) in
      ap (λ (z : Var). Some z.value) (sym x) ∙ sym (ap spelled_key r.1)

-- A string that is something else.
pub other_key : (b : List ℕ) → ((0 < length b) × (slice_index b 0 ≡ 2) → ⊥) → spelled_key b ≡ None
other_key [] h = refl
other_key (kind ∷ rest) h = let other : kind ≡ 2 → ⊥ = λ e. h (omega arith, e) in grind arith

-- In a string that is a key, one integer follows the kind byte.
string_spelled : (b : List ℕ) (s : strings.Content) → IsString b s → (rest : List ℕ) → b ≡ 2 ∷ rest → IsSpellingWithin 8 rest
string_spelled [] s i rest e = absurd i
string_spelled (kind ∷ b) strings.Null i rest e = let q : kind ≡ 2 = cc in let p : kind ≡ 0 = i.0 in cc
string_spelled (kind ∷ b) strings.Empty i rest e = let q : kind ≡ 2 = cc in let p : kind ≡ 1 = i.0 in cc
string_spelled (kind ∷ b) (strings.Key key) i rest e = let q : b ≡ rest = cc in subst (IsSpellingWithin 8) q i.1.form
string_spelled (kind ∷ b) (strings.Utf8 bytes) i rest e = let q : kind ≡ 2 = cc in let p : kind ≡ 3 = i.0 in cc
string_spelled (kind ∷ b) (strings.Units units) i rest e = let q : kind ≡ 2 = cc in let p : kind ≡ 4 = i.0 in cc
string_spelled (kind ∷ b) (strings.Latin bytes) i rest e = let q : kind ≡ 2 = cc in let p : kind ≡ 5 = i.0 in cc

single_spelled : (k : Classes) (s : Shape) (kind : LeafKind) (b : List ℕ) (key : Option ℕ) → IsSingle k s kind b key → kind ≡ leaf_kinds.Base kinds.Text → (rest : List ℕ) → b ≡ 2 ∷ rest
    → IsSpellingWithin 8 rest
single_spelled k s kind b key (inl i) t rest e = let q = i.4 in cc
single_spelled k s kind b key (inr i) t rest e =
    let p : leaf_kinds.Base (kind_of i.2.name) ≡ leaf_kinds.Base kinds.Text = sym i.4 ∙ t in
    let q : kind_of i.2.name ≡ kinds.Text = cc in
    let j : IsBase kinds.Text b key = subst (λ z. IsBase z b key) q i.5 in
    string_spelled b j.0 j.1 rest e

abbrev head_leaves : Option Holder → ℕ → Shape → List ℕ → List LeafAt
head_leaves h at s head = if s.array then record { kind = leaf_kinds.Count (worth_within 8 head); class = s.class; holder = h; at = at; spelled = head } ∷ [] else []

head_spelled : (h : Option Holder) (at : ℕ) (s : Shape) (head : List ℕ) → AllByRecursion KeyIsSpelled (head_leaves h at s head)
head_spelled h at s head = by_mark s.array
  where
    by_mark : (t : Bool) → AllByRecursion KeyIsSpelled (if t then record { kind = leaf_kinds.Count (worth_within 8 head); class = s.class; holder = h; at = at; spelled = head } ∷ [] else [])
    by_mark true = (λ e. cc, tt)
    by_mark false = tt

mutual
  value_spelled : (k : Classes) (h : Option Holder) (at : ℕ) (v : Value) → Fits k v → AllByRecursion KeyIsSpelled (leaves_at h at v)
  value_spelled k h at (Single s kind b key) f = (single_spelled k s kind b key f, tt)
  value_spelled k h at (Group s head vs) f =
      all_append KeyIsSpelled (head_leaves h at s head) (leaves_from (part_holder s h) (at + length head) vs) (head_spelled h at s head) (values_spelled k (part_holder s h) (at + length head) vs f.1)

  values_spelled : (k : Classes) (g : ℕ → Option Holder) (at : ℕ) (vs : Values) → AllFit k vs → AllByRecursion KeyIsSpelled (leaves_from g at vs)
  values_spelled k g at Nil f = tt
  values_spelled k g at (Cons v vs) f =
      all_append KeyIsSpelled (leaves_at (g zero) at v) (leaves_from (λ n. g (suc n)) (at + length (bytes_of v)) vs)
      (value_spelled k (g zero) at v f.0) (values_spelled k (λ n. g (suc n)) (at + length (bytes_of v)) vs f.1)

pub keys_spelled : (k : Classes) (c : List ℕ) (n : NodeAt) (v : Value) → Sound k → IsNode k c n v → AllByRecursion KeyIsSpelled (leaves k c n)
keys_spelled k c n v sound i = subst (AllByRecursion KeyIsSpelled) (sym (leaves_are k sound c n v i)) (value_spelled k None n.at v i.fits)
