-- What a sound list's stages say of each class and field.
use Rattle.std.proofs.Common.{◌≡◌, ℕ, zero, suc, ◌+◌, ◌<◌, List, [], ◌∷◌, ◌++◌, length, take, Option, Some, None, Bool, true, false, cond, sym, ◌∙◌, ap, refl, arith, subst}
use Rattle.std.specs.Prelude.{is_some, position, ◌==◌}
use Rattle.std.specs.List.{slice_get, list_any, position_from, AllByRecursion}
use Rattle.std.specs.Option.{option_map_or}
use Rattle.std.specs.Str.{bytes_eq}
use Rattle.std.proofs.lemmas.Bool.{or_parts, eq-eqb, eqb-false}
use Rattle.std.proofs.lemmas.Slice.Eq.{bytes_eq-Decides}
use Rattle.std.proofs.lemmas.Iterator.Adapters.{position_from-zero}
use Rattle.std.proofs.lemmas.Option.{same_Some}
use Rattle.jfr_base.specs.declared.reason.Reason.TheVariants.{ClassTwice, FieldTwice, EmptyInline, InlineDeep}
use Rattle.jfr_layout.specs.Classes.{Class, Classes, Field, Sound, class_faults, repeats, unknown, empty_inline, deep, has_id, has_name, name_repeats, flaw_if, find_class, class_index, field_number, is_empty_inline, begins_chain, Agree, AgreeWithin}
use Rattle.jfr_layout.specs.Laws.{AreFound, AreKnown, EndsInline, AgreeOnFields}
use Rattle.jfr_layout.proofs.Lists.{nil_parts, none_at, chained}
use Rattle.jfr_layout.proofs.Indices.{find-position, is_some-find}
use Rattle.jfr_layout.proofs.Stages.{no_flaw}
use Rattle.jfr_layout.proofs.IdsSeen.{found_repeats}
use Rattle.jfr_layout.proofs.NamesSeen.{found_name}
use Rattle.jfr_layout.proofs.Filled.{found_empty, found_empties}
use Rattle.jfr_layout.proofs.Depth.{found_deep}
use Rattle.jfr_layout.proofs.FieldIndices.{known_index, indexed_class}

sound_repeats : (k : Classes) → Sound k → repeats k ≡ []
unfolding class_faults
sound_repeats k s = (nil_parts (repeats k) (unknown k ++ (empty_inline k ++ deep k)) s.none).0

sound_rest : (k : Classes) → Sound k → unknown k ++ (empty_inline k ++ deep k) ≡ []
unfolding class_faults
sound_rest k s = (nil_parts (repeats k) (unknown k ++ (empty_inline k ++ deep k)) s.none).1

pub sound_unknown : (k : Classes) → Sound k → unknown k ≡ []
sound_unknown k s = (nil_parts (unknown k) (empty_inline k ++ deep k) (sound_rest k s)).0

sound_empty : (k : Classes) → Sound k → empty_inline k ≡ []
sound_empty k s = (nil_parts (empty_inline k) (deep k) (nil_parts (unknown k) (empty_inline k ++ deep k) (sound_rest k s)).1).0

sound_deep : (k : Classes) → Sound k → deep k ≡ []
sound_deep k s = (nil_parts (empty_inline k) (deep k) (nil_parts (unknown k) (empty_inline k ++ deep k) (sound_rest k s)).1).1

-- The first member that passes a test.
first_from : {X : Type 0} (p : X → Bool) (n : ℕ) (xs : List X) (i : ℕ) (x : X) (j : ℕ) → slice_get xs i ≡ Some x → p x ≡ true → list_any p (take i xs) ≡ false → n + i ≡ j
    → position_from p n xs ≡ Some j
first_from p n [] i x j e t u q = cc
first_from p n (y ∷ xs) zero x j e t u q =
    let m : n ≡ j = omega arith in
    ap (λ b. cond b (Some n) (position_from p (n + 1) xs)) (ap p (same_Some y x e) ∙ t) ∙ ap Some m
first_from p n (y ∷ xs) (suc i) x j e t u q =
    let r = or_parts (p y) (list_any p (take i xs)) u in
    ap (λ b. cond b (Some n) (position_from p (n + 1) xs)) r.0 ∙ first_from p (n + 1) xs i x j e t r.1 (omega arith)

first_at : {X : Type 0} (p : X → Bool) (xs : List X) (i : ℕ) (x : X) → slice_get xs i ≡ Some x → p x ≡ true → list_any p (take i xs) ≡ false → position p xs ≡ Some i
first_at p xs i x e t u = position_from-zero p xs ∙ first_from p 0 xs i x i e t u (omega arith)

id_index : (k : Classes) (i : ℕ) (c : Class) → Sound k → slice_get k i ≡ Some c → class_index k c.id ≡ Some i
id_index k i c s e =
    let n = none_at (found_repeats k) k i c (sound_repeats k s) e in
    first_at (λ (d : Class). d.id == c.id) k i c e (eq-eqb c.id c.id refl)
    (no_flaw (has_id (take i k) c.id) i None ClassTwice (nil_parts (flaw_if (has_id (take i k) c.id) i None ClassTwice) (name_repeats i c.fields) n).0)

name_number : (k : Classes) (i j : ℕ) (c : Class) (f : Field) → Sound k → slice_get k i ≡ Some c → slice_get c.fields j ≡ Some f → field_number c.fields f.name ≡ Some j
name_number k i j c f s e g =
    let n = (nil_parts (flaw_if (has_id (take i k) c.id) i None ClassTwice) (name_repeats i c.fields) (none_at (found_repeats k) k i c (sound_repeats k s) e)).1 in
    first_at (λ (h : Field). bytes_eq h.name f.name) c.fields j f g ((bytes_eq-Decides f.name f.name).1 refl)
    (no_flaw (has_name (take j c.fields) f.name) i (Some j) FieldTwice (none_at (found_name i c.fields) c.fields j f n g))

pub are_found : (k : Classes) → Sound k → AreFound k
are_found k s = record {
  id = λ i c e. (id_index k i c s e, find-position (λ (d : Class). d.id == c.id) k i (id_index k i c s e) ∙ e);
  name = λ i j c f e g. name_number k i j c f s e g;
}

fields_some : (n : ℕ) → (n == 0) ≡ false → 0 < n
fields_some n e = let h = eqb-false n 0 e in omega arith

pub are_known : (k : Classes) → Sound k → AreKnown k
are_known k s = record {
  class = λ i j f e. is_some-find (λ (c : Class). c.id == f.shape.class) k ∙ ap is_some (known_index k i j f (sound_unknown k s) e).1;
  filled = λ i j f d e g.
      (let c = chained (λ (c : Class). slice_get c.fields j) (slice_get k i) f e in
      let n = none_at (found_empty k i) c.0.fields j f (none_at (found_empties k) k i c.0 (sound_empty k s) c.1) c.2 in
      fields_some (length d.fields) (sym (ap (λ o. option_map_or (λ (z : Class). length z.fields == 0) o false) g) ∙ no_flaw (is_empty_inline k f) i (Some j) EmptyInline n));
}

found_at : (k : Classes) (id : ℕ) (c : Class) (o : Option ℕ) → o ≡ class_index k id → find_class k id ≡ Some c → (i : ℕ) × (slice_get k i ≡ Some c)
found_at k id c None e f = let n : find_class k id ≡ None = sym (indexed_class k id None e) in cc
found_at k id c (Some i) e f = (i, indexed_class k id (Some i) e ∙ f)

pub ends_inline : (k : Classes) → Sound k → EndsInline k
ends_inline k s = record {
  class = λ id c e.
      (let i = found_at k id c (class_index k id) refl e in
      no_flaw (begins_chain 33 k c) i.0 None InlineDeep (none_at (found_deep k) k i.0 c (sound_deep k s) i.1));
}

each_depth : (k m : Classes) (fs : List Field) → ((n : ℕ) → AllByRecursion (λ f. AgreeWithin n k m f.shape.class) fs) → AllByRecursion (λ f. Agree k m f.shape.class) fs
each_depth k m [] a = tt
each_depth k m (f ∷ fs) a = (λ n. (a n).0, each_depth k m fs (λ n. (a n).1))

pub agree_on_fields : (k m : Classes) → AgreeOnFields k m
agree_on_fields k m = record {
  field = λ id c a e. each_depth k m c.fields (λ n.
      (let h = a (suc n) in
      let q : h.0 ≡ c = cc (h.2, e) in
      subst (λ (d : Class). AllByRecursion (λ f. AgreeWithin n k m f.shape.class) d.fields) q h.7));
}
