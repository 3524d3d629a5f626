-- Fields that are passed at once end where they do one by one.
use Rattle.std.specs.Prelude.{◌≡◌, ◌⊎◌, ℕ, zero, suc, ◌+◌, ◌-◌, ◌<◌, ◌≤◌, List, [], ◌∷◌, ◌++◌, take, drop, length, map, slice_get, Option, Some, None, Result, Ok, Err, IfOk, IfSome, nat_le, slice_range, true, if◌then◌else◌}
use Rattle.std.specs.List.{AllByRecursion, flat_map}
use Rattle.std.specs.Option.{option_map_or}
use Rattle.std.specs.Result.{result_ok}
use Rattle.std.proofs.Common.{ap, arith, get_or, inl, inr, refl, subst, sym, ◌∙◌}
use Rattle.std.proofs.lemmas.List.{drop_all, drop_more}
use Rattle.jfr_base.specs.declared.flaw.Flaw.{Flaw}
use Rattle.jfr_base.specs.declared.integer.Var.{Var}
use Rattle.jfr_base.specs.Formats.{Answer, Format, Done, Int, int_at, after_int, integer, unchecked, refused, run, end_or_flaw, times}
use Rattle.jfr_base.specs.declared.reason.Reason.TheVariants.{Short}
use Rattle.jfr_base.proofs.Exact.{int_found}
use Rattle.jfr_base.proofs.Ranges.{range_length}
use Rattle.jfr_base.proofs.FormatEnds.{then_at, then_at_ok, end_or_flaw-for_each, end_or_flaw-times}
use Rattle.jfr_layout.specs.Classes.{AreFieldLayouts, Class, Classes, IsFieldLayout, inline_form, item_of}
use Rattle.jfr_layout.specs.Fused.{AreIntegers, AreFused, AreRaw, IsEventPrelude, IsFused, IsOf, Passes, passed_by}
use Rattle.jfr_layout.specs.Resolved.{IsClassLayout}
use Rattle.jfr_layout.specs.declared.class_layout.ClassLayout.{ClassLayout}
use Rattle.jfr_layout.specs.declared.fused.FusedFields.{FusedFields}
use Rattle.jfr_layout.specs.declared.form.Form.TheVariants as forms
use Rattle.jfr_layout.specs.declared.kind.Kind.{Kind}
use Rattle.jfr_layout.specs.declared.kind.Kind.TheVariants as kinds
use Rattle.jfr_layout.specs.declared.shape.Shape.{Shape}
use Rattle.jfr_layout.specs.declared.field_layout.FieldLayout.{FieldLayout}
use Rattle.jfr_text.specs.Strings.{string_format}
use Rattle.jfr_value.specs.declared.leaf.KeyAt.{KeyAt}
use Rattle.jfr_value.specs.declared.leaf.LeafKind.TheVariants as leaf_kinds
use Rattle.jfr_value.specs.Values.{IsLayoutOrKey, Value, Single, key_of}
use Rattle.jfr_value.specs.Leaves.{key_between, keys_at}
use Rattle.jfr_value.specs.Reading.{base_format, class_format, item_format, values_format, shape_format}
use Rattle.jfr_value.specs.Visits.{AreNumbers, IsNumbers, TakesAll, TakesRead, TakesReadAll, field_shapes, shapes_of_layouts}
use Rattle.jfr_value.proofs.AppendLaws.{both_seen, both_taken, then_same}
use Rattle.jfr_value.proofs.EndLaws.{key_ends, shape_item}
use Rattle.jfr_value.proofs.FormLaws.{inline_there, key_there, plain_there}
use Rattle.jfr_value.proofs.PlaceLaws.{get_within}
use Rattle.jfr_value.proofs.SkipLaws.{base_skipped}
use Rattle.jfr_value.proofs.LayoutLaws.{by_shapes, of_shapes}
use Rattle.jfr_value.proofs.LayoutEnds.{base_ends, inline_taken, text_ends, text_taken}
use Rattle.jfr_value.proofs.PlacedLaws.{ReadsPlaced, placed_within, shape_placed}
use Rattle.jfr_value.proofs.TakingLaws.{TakesRemaining, cons_taken, item_taken, no_value, plain_taken}

all_take : {X : Type 0} (P : X → Type 0) (n : ℕ) (xs : List X) → AllByRecursion P xs → AllByRecursion P (take n xs)
all_take P zero xs a = tt
all_take P (suc n) [] a = tt
all_take P (suc n) (x ∷ xs) a = (a.0, all_take P n xs a.1)

all_drop : {X : Type 0} (P : X → Type 0) (n : ℕ) (xs : List X) → AllByRecursion P xs → AllByRecursion P (drop n xs)
all_drop P zero xs a = a
all_drop P (suc n) [] a = tt
all_drop P (suc n) (x ∷ xs) a = all_drop P n xs a.1

pub all_passed : (P : FieldLayout → Type 0) (ss : List FieldLayout) (l : FusedFields) → AllByRecursion P ss → AllByRecursion P (passed_by ss l)
all_passed P ss l a = all_take P (l.first + l.fields - l.first) (drop l.first ss) (all_drop P l.first ss a)

integer_kind : (kind : Kind) → forms.Integer ≡ inline_form kind → (kind ≡ kinds.Char) ⊎ ((kind ≡ kinds.Short) ⊎ ((kind ≡ kinds.Int) ⊎ (kind ≡ kinds.Long)))
integer_kind kinds.Char e = inl refl
integer_kind kinds.Short e = inr (inl refl)
integer_kind kinds.Int e = inr (inr (inl refl))
integer_kind kinds.Long e = inr (inr (inr refl))
integer_kind kinds.Boolean e = cc
integer_kind kinds.Byte e = cc
integer_kind kinds.Float e = cc
integer_kind kinds.Double e = cc
integer_kind kinds.Text e = cc
integer_kind kinds.Composite e = cc

abbrev nothing : Format (Option ℕ)
nothing = Done None

raw_ends : (kind : Kind) (count : ℕ) (x : List ℕ) (end at : ℕ) → forms.Raw count ≡ inline_form kind → at + count ≤ end → Ok (at + count) ≡ end_or_flaw (run (base_format kind) x end at)
unfolding run
raw_ends kind count x end at e l = by_kind kind e
  where
    fits : (n : ℕ) → count ≡ n → Ok (at + count) ≡ end_or_flaw (if nat_le (at + n) end then run nothing x end (at + n) else refused at Short)
    fits n h = let t : nat_le (at + count) end ≡ true =
        grind arith in subst (λ m. Ok (at + count) ≡ end_or_flaw (if nat_le (at + m) end then run nothing x end (at + m) else refused at Short)) h (rw t refl)

    by_kind : (kind : Kind) → forms.Raw count ≡ inline_form kind → Ok (at + count) ≡ end_or_flaw (run (base_format kind) x end at)
    by_kind kinds.Boolean e = fits 1 (let h : forms.Raw count ≡ forms.Raw 1 = e in cc)
    by_kind kinds.Byte e = fits 1 (let h : forms.Raw count ≡ forms.Raw 1 = e in cc)
    by_kind kinds.Float e = fits 4 (let h : forms.Raw count ≡ forms.Raw 4 = e in cc)
    by_kind kinds.Double e = fits 8 (let h : forms.Raw count ≡ forms.Raw 8 = e in cc)
    by_kind kinds.Char e = cc
    by_kind kinds.Short e = cc
    by_kind kinds.Int e = cc
    by_kind kinds.Long e = cc
    by_kind kinds.Text e = cc
    by_kind kinds.Composite e = cc

pub all_integers : (ss : List FieldLayout) → AllByRecursion (λ s. s.form ≡ forms.Integer) ss → AreNumbers ss
all_integers [] e = tt
all_integers (s ∷ ss) e = (inl e.0, all_integers ss e.1)

pub all_raw : (ss : List FieldLayout) (count : ℕ) → AreRaw count ss → AreNumbers ss
all_raw [] count a = tt
all_raw (s ∷ ss) count a = (inr (a.0, a.2), all_raw ss a.1 a.4)

-- What is found where the values end.
pub found_end : (r e : Result ℕ Flaw) (o : Option ℕ) → o ≡ result_ok r → r ≡ e → IfSome o (λ to. Ok to ≡ e)
found_end (Ok to) e o f q = subst (λ z. IfSome z (λ to. Ok to ≡ e)) (sym f) q
found_end (Err w) e o f q = subst (λ z. IfSome z (λ to. Ok to ≡ e)) (sym f) tt

pub found_bytes : (r e : Result ℕ Flaw) (o : Option ℕ) (at count end : ℕ) → o ≡ result_ok r → IfOk r (λ to. (to ≡ at + count) × (to ≤ end)) → (at + count ≤ end → Ok (at + count) ≡ e)
    → IfSome o (λ to. Ok to ≡ e)
found_bytes (Ok to) e o at count end f h q = subst (λ z. IfSome z (λ to. Ok to ≡ e)) (sym f) (ap (λ n. Ok n) h.0 ∙ q (let x = h.0 in omega (arith, h.1)))
found_bytes (Err w) e o at count end f h q = subst (λ z. IfSome z (λ to. Ok to ≡ e)) (sym f) tt

module _ (k : Classes) (levels : ℕ) (x : List ℕ) (end : ℕ) where
  abbrev inline : Shape → Format Value
  inline = class_format (levels + 1) k

  abbrev one : FieldLayout → Format Value
  one s = shape_format inline s.shape

  abbrev row : List FieldLayout → ℕ → Answer (List Value)
  row ss at = run (values_format (levels + 1) k ss) x end at

  placed : (s : FieldLayout) → IsFieldLayout k s → IsLayoutOrKey k s
  placed s i = record { form = i.form; of_class = λ o. i }

  -- One field.
  alone_seen : (s : FieldLayout) (at : ℕ) → end_or_flaw (row (s ∷ []) at) ≡ end_or_flaw (run (one s) x end at)
  unfolding run
  alone_seen s at = end_or_flaw-for_each s [] one x end at ∙ then_at_ok (end_or_flaw (run (one s) x end at))

  integer_seen : (s : FieldLayout) (at : ℕ) → IsFieldLayout k s → s.form ≡ forms.Integer → end_or_flaw (run integer x end at) ≡ end_or_flaw (run (one s) x end at)
  integer_seen s at i e =
      let m = inline_there s i.form forms.Integer e tt in
      base_skipped s.kind x end at (integer_kind s.kind m.form) ∙ base_ends k s levels x end at (placed s i) forms.Integer m (λ q. cc)

  each_integer_seen : (ss : List FieldLayout) (at : ℕ) → AllByRecursion (IsFieldLayout k) ss → AllByRecursion (λ s. s.form ≡ forms.Integer) ss
      → end_or_flaw (run (times (length ss) integer) x end at) ≡ end_or_flaw (row ss at)
  unfolding run
  each_integer_seen [] at i e = refl
  each_integer_seen (s ∷ ss) at i e =
      end_or_flaw-times (length ss) integer x end at
      ∙ (then_same (end_or_flaw (run integer x end at)) (end_or_flaw (run (one s) x end at)) (λ p. end_or_flaw (run (times (length ss) integer) x end p)) (λ p. end_or_flaw (row ss p))
      (integer_seen s at i.0 e.0) (λ p. each_integer_seen ss p i.1 e.1)
      ∙ sym (end_or_flaw-for_each s ss one x end at))

  pub integers_seen : (count : ℕ) (ss : List FieldLayout) (at : ℕ) → AllByRecursion (IsFieldLayout k) ss → AreIntegers count ss
      → end_or_flaw (run (times count integer) x end at) ≡ end_or_flaw (row ss at)
  integers_seen count ss at i e = ap (λ n. end_or_flaw (run (times n integer) x end at)) (sym e.0) ∙ each_integer_seen ss at i e.1

  pub integer_alone : (ss : List FieldLayout) (at : ℕ) → AllByRecursion (IsFieldLayout k) ss → AreIntegers 1 ss → end_or_flaw (run integer x end at) ≡ end_or_flaw (row ss at)
  unfolding run
  integer_alone ss at i e = sym (end_or_flaw-times 0 integer x end at ∙ then_at_ok (end_or_flaw (run integer x end at))) ∙ integers_seen 1 ss at i e

  raw_one : (s : FieldLayout) (count at : ℕ) → IsFieldLayout k s → s.form ≡ forms.Raw count → at + count ≤ end → Ok (at + count) ≡ end_or_flaw (run (one s) x end at)
  raw_one s count at i e l =
      let m = inline_there s i.form (forms.Raw count) e tt in
      raw_ends s.kind count x end at m.form l ∙ base_ends k s levels x end at (placed s i) (forms.Raw count) m (λ q. cc)

  pub raw_seen : (ss : List FieldLayout) (count at : ℕ) → AllByRecursion (IsFieldLayout k) ss → AreRaw count ss → at + count ≤ end → Ok (at + count) ≡ end_or_flaw (row ss at)
  unfolding run
  raw_seen [] count at i a l = let z : at + count ≡ at = omega (arith, a) in ap (λ n. Ok n) z
  raw_seen (s ∷ ss) count at i a l =
      let bytes : ℕ = a.0 in
      let rest : ℕ = a.1 in
      let z : at + count ≡ at + bytes + rest = omega (arith, a.3) in
      ap (λ n. Ok n) z
      ∙ (raw_seen ss rest (at + bytes) i.1 a.4 (omega (arith, l, a.3))
      ∙ (ap (λ r. then_at r (λ p. end_or_flaw (row ss p))) (raw_one s bytes at i.0 a.2 (omega (arith, l, a.3)))
      ∙ sym (end_or_flaw-for_each s ss one x end at)))

  key_one : (class : ℕ) (s : FieldLayout) (at : ℕ) → IsFieldLayout k s → IsOf forms.Key class s → end_or_flaw (run integer x end at) ≡ end_or_flaw (run (one s) x end at)
  key_one class s at i o =
      let m = key_there s i.form o.0 in
      key_ends inline s.shape x end at m.1 ∙ sym (shape_item inline s.shape x end at m.0)

  pub key_seen : (class : ℕ) (ss : List FieldLayout) (at : ℕ) → AllByRecursion (IsFieldLayout k) ss → (s : FieldLayout) × (ss ≡ s ∷ []) × IsOf forms.Key class s
      → end_or_flaw (run integer x end at) ≡ end_or_flaw (row ss at)
  key_seen class ss at i h =
      let j = subst (AllByRecursion (IsFieldLayout k)) h.1 i in
      key_one class h.0 at j.0 h.2 ∙ (sym (alone_seen h.0 at) ∙ ap (λ z. end_or_flaw (row z at)) (sym h.1))

  pub text_seen : (class : ℕ) (ss : List FieldLayout) (at : ℕ) → AllByRecursion (IsFieldLayout k) ss → (s : FieldLayout) × (ss ≡ s ∷ []) × IsOf forms.Text class s
      → end_or_flaw (run (base_format kinds.Text) x end at) ≡ end_or_flaw (row ss at)
  text_seen class ss at i h =
      let j = subst (AllByRecursion (IsFieldLayout k)) h.1 i in
      text_ends k h.0 levels x end at (placed h.0 j.0) h.2.0 ∙ (sym (alone_seen h.0 at) ∙ ap (λ z. end_or_flaw (row z at)) (sym h.1))

  one_placed : end ≤ length x → (s : FieldLayout) → ReadsPlaced x end (one s)
  one_placed within s = shape_placed x end within (levels + 1) k s.shape

  -- What is taken of them.
  module _ {A : Type 0} (takes : KeyAt → A → A → Type 0) (within : end ≤ length x) where
    cons_ends : (s : FieldLayout) (ss : List FieldLayout) (at : ℕ) (old now new : A) → at ≤ end → TakesRead takes at (run (one s) x end at) old now
        → ((to : ℕ) → to ≤ end → TakesReadAll takes to (row ss to) now new) → TakesReadAll takes at (row (s ∷ ss) at) old new
    cons_ends s ss at old now new o h t = by_end (end_or_flaw (run (one s) x end at)) refl
      where
        by_end : (r : Result ℕ Flaw) → end_or_flaw (run (one s) x end at) ≡ r → TakesReadAll takes at (row (s ∷ ss) at) old new
        by_end (Ok to) e = cons_taken takes x end at o within (one s) (values_format (levels + 1) k ss) to old now new (one_placed within s) e h
            (t to (placed_within end at to (run (one s) x end at) e (one_placed within s at o)))
        by_end (Err w) e = no_value (row (s ∷ ss) at) w (λ got. _) (sym (end_or_flaw-for_each s ss one x end at ∙ ap (λ r. then_at r (λ p. end_or_flaw (row ss p))) e))

    alone_taken : (s : FieldLayout) (at : ℕ) (old new : A) → at ≤ end → TakesRead takes at (run (one s) x end at) old new → TakesReadAll takes at (row (s ∷ []) at) old new
    unfolding run
    alone_taken s at old new o h = cons_ends s [] at old new new o h (λ to l. refl)

    plain_one : (s : FieldLayout) (at : ℕ) (a : A) → at ≤ end → IsFieldLayout k s → IsNumbers s → TakesRead takes at (run (one s) x end at) a a
    plain_one s at a o i e =
        let m = plain_there s i.form e in
        inline_taken k s levels x end at (placed s i) takes a a o within m.array m.constant (plain_taken takes x end at o within (levels + 1) k s a (omega arith) i m.not_composite m.not_text)

    plain_all : (ss : List FieldLayout) (at : ℕ) (a : A) → at ≤ end → AllByRecursion (IsFieldLayout k) ss → AreNumbers ss → TakesReadAll takes at (row ss at) a a
    unfolding run
    plain_all [] at a o i e = refl
    plain_all (s ∷ ss) at a o i e = cons_ends s ss at a a a o (plain_one s at a o i.0 e.0) (λ to l. plain_all ss to a l i.1 e.1)

    pub integers_taken : (count : ℕ) (ss : List FieldLayout) (at : ℕ) (a : A) → at ≤ end → AllByRecursion (IsFieldLayout k) ss → AreIntegers count ss → TakesReadAll takes at (row ss at) a a
    integers_taken count ss at a o i e = plain_all ss at a o i (all_integers ss e.1)

    pub raw_taken : (ss : List FieldLayout) (count at : ℕ) (a : A) → at ≤ end → AllByRecursion (IsFieldLayout k) ss → AreRaw count ss → TakesReadAll takes at (row ss at) a a
    raw_taken ss count at a o i e = plain_all ss at a o i (all_raw ss count e)

    key_item : (s : Shape) (at : ℕ) (old new : A) → at ≤ end → s.constant ≡ true
        → IfOk (run integer x end at) (λ key. takes (record { class = s.class; key = key.value; at = at; end = key.place }) old new)
        → TakesRead takes at (run (item_format inline (item_of s)) x end at) old new
    unfolding run
    key_item s at old new order o h =
        subst (λ t. TakesRead takes at (run (if t then Int unchecked (λ key b. Done (Single (item_of s) (leaf_kinds.Key key) b (Some key))) else inline (item_of s)) x end at) old new) (sym o)
        (by_int (int_at x at end) refl h)
      where
        by_int : (o : Option Var) → int_at x at end ≡ o
            → IfOk (after_int x at unchecked (λ v b p. run (Done v) x end p) o) (λ key. takes (record { class = s.class; key = key.value; at = at; end = key.place }) old new)
            → IfOk (after_int x at unchecked (λ v b p. run (Done (Single (item_of s) (leaf_kinds.Key v) b (Some v))) x end p) o) (λ got. TakesAll takes (keys_at at got.value) old new)
        by_int None e h = tt
        by_int (Some v) e h =
            let found = int_found x at end v order within e in
            let l : length (slice_range x at v.end) ≡ v.end - at = range_length x at v.end (omega (arith, found.1)) in
            let a : at ≤ v.end = found.0.order in
            let to : v.end ≡ at + length (slice_range x at v.end) = omega arith in
            (new, subst (λ n. takes (record { class = s.class; key = v.value; at = at; end = n }) old new) to h, refl)

    pub key_taken : (class : ℕ) (ss : List FieldLayout) (at : ℕ) (old new : A) → at ≤ end → AllByRecursion (IsFieldLayout k) ss → (s : FieldLayout) × (ss ≡ s ∷ []) × IsOf forms.Key class s
        → IfOk (run integer x end at) (λ key. takes (record { class = class; key = key.value; at = at; end = key.place }) old new)
        → TakesReadAll takes at (row ss at) old new
    key_taken class ss at old new o i h t =
        let s : FieldLayout = h.0 in
        let j = subst (AllByRecursion (IsFieldLayout k)) h.1 i in
        let m = key_there s j.0.form h.2.0 in
        let u = subst (λ c. IfOk (run integer x end at) (λ key. takes (record { class = c; key = key.value; at = at; end = key.place }) old new)) (sym h.2.1) t in
        subst (λ z. TakesReadAll takes at (row z at) old new) (sym h.1)
        (alone_taken s at old new o (item_taken takes x end at o within inline s.shape old new m.0 (key_item s.shape at old new o m.1 u)))

    pub text_taken_all : (class : ℕ) (ss : List FieldLayout) (at : ℕ) (old new : A) → at ≤ end → AllByRecursion (IsFieldLayout k) ss → (s : FieldLayout) × (ss ≡ s ∷ []) × IsOf forms.Text class s
        → IfOk (run (string_format true) x end at) (λ got. TakesAll takes (key_between class (at + 1) got.place (key_of got.value)) old new) → TakesReadAll takes at (row ss at) old new
    text_taken_all class ss at old new o i h t =
        let s : FieldLayout = h.0 in
        let j = subst (AllByRecursion (IsFieldLayout k)) h.1 i in
        let u = subst (λ c. IfOk (run (string_format true) x end at) (λ got. TakesAll takes (key_between c (at + 1) got.place (key_of got.value)) old new)) (sym h.2.1) t in
        subst (λ z. TakesReadAll takes at (row z at) old new) (sym h.1) (alone_taken s at old new o (text_taken k s levels x end at (placed s j.0) takes old new o within h.2.0 u))

  -- The front: two integers, a key, and a key.
  module _ (thread trace : ℕ) (ss : List FieldLayout) (i : AllByRecursion (IsFieldLayout k) ss) (f : IsEventPrelude thread trace ss) where
    abbrev begun : List FieldLayout
    begun = f.start ∷ f.duration ∷ []

    each : AllByRecursion (IsFieldLayout k) (f.start ∷ f.duration ∷ f.threads ∷ f.traces ∷ [])
    each = subst (AllByRecursion (IsFieldLayout k)) f.all i

    begun_seen : (at : ℕ) → end_or_flaw (run (times 2 integer) x end at) ≡ end_or_flaw (row begun at)
    begun_seen at = integers_seen 2 begun at (each.0, (each.1.0, tt)) (refl, (f.start_is, (f.duration_is, tt)))

    thread_seen : (at : ℕ) → end_or_flaw (run integer x end at) ≡ end_or_flaw (row (f.threads ∷ []) at)
    thread_seen at = key_seen thread (f.threads ∷ []) at (each.1.1.0, tt) (f.threads, refl, f.thread_is)

    trace_seen : (at : ℕ) → end_or_flaw (run integer x end at) ≡ end_or_flaw (row (f.traces ∷ []) at)
    trace_seen at = key_seen trace (f.traces ∷ []) at (each.1.1.1.0, tt) (f.traces, refl, f.trace_is)

    -- The keys after the integers, and the trace after the thread.
    behind : (at : ℕ) → end_or_flaw (row ss at) ≡ then_at (end_or_flaw (run (times 2 integer) x end at)) (λ p. end_or_flaw (row (f.threads ∷ f.traces ∷ []) p))
    behind at =
        ap (λ z. end_or_flaw (row z at)) f.all
        ∙ (both_seen one x end begun (f.threads ∷ f.traces ∷ []) at
        ∙ ap (λ r. then_at r (λ p. end_or_flaw (row (f.threads ∷ f.traces ∷ []) p))) (sym (begun_seen at)))

    keys_seen : (at : ℕ) → end_or_flaw (row (f.threads ∷ f.traces ∷ []) at) ≡ then_at (end_or_flaw (run integer x end at)) (λ p. end_or_flaw (run integer x end p))
    keys_seen at =
        both_seen one x end (f.threads ∷ []) (f.traces ∷ []) at
        ∙ then_same (end_or_flaw (row (f.threads ∷ []) at)) (end_or_flaw (run integer x end at)) (λ p. end_or_flaw (row (f.traces ∷ []) p)) (λ p. end_or_flaw (run integer x end p))
        (sym (thread_seen at)) (λ p. sym (trace_seen p))

    -- Where its parts end.
    abbrev then_keys : ℕ → Result ℕ Flaw
    then_keys p = then_at (end_or_flaw (run integer x end p)) (λ q. end_or_flaw (run integer x end q))

    front_seen : (at : ℕ) → end_or_flaw (row ss at) ≡ then_at (end_or_flaw (run (times 2 integer) x end at)) then_keys
    front_seen at = behind at ∙ then_same (end_or_flaw (run (times 2 integer) x end at)) (end_or_flaw (run (times 2 integer) x end at))
        (λ p. end_or_flaw (row (f.threads ∷ f.traces ∷ []) p)) then_keys refl (λ p. keys_seen p)

    pub begun_fails : (at : ℕ) (w : Flaw) → Err w ≡ end_or_flaw (run (times 2 integer) x end at) → Err w ≡ end_or_flaw (row ss at)
    begun_fails at w e = ap (λ r. then_at r then_keys) e ∙ sym (front_seen at)

    pub thread_fails : (at threads : ℕ) (w : Flaw) → Ok threads ≡ end_or_flaw (run (times 2 integer) x end at) → Err w ≡ end_or_flaw (run integer x end threads) → Err w ≡ end_or_flaw (row ss at)
    thread_fails at threads w p e = ap (λ r. then_at r (λ q. end_or_flaw (run integer x end q))) e ∙ (ap (λ r. then_at r then_keys) p ∙ sym (front_seen at))

    pub front_ends : (at threads traces : ℕ) (r : Result ℕ Flaw) → Ok threads ≡ end_or_flaw (run (times 2 integer) x end at) → Ok traces ≡ end_or_flaw (run integer x end threads)
        → r ≡ end_or_flaw (run integer x end traces) → r ≡ end_or_flaw (row ss at)
    front_ends at threads traces r p q e = e ∙ (ap (λ r. then_at r (λ q. end_or_flaw (run integer x end q))) q ∙ (ap (λ r. then_at r then_keys) p ∙ sym (front_seen at)))

    pub front_taken : {A : Type 0} (takes : KeyAt → A → A → Type 0) (within : end ≤ length x) (at threads traces : ℕ) (old now new : A) → at ≤ end → threads ≤ end → traces ≤ end
        → Ok threads ≡ end_or_flaw (run (times 2 integer) x end at) → Ok traces ≡ end_or_flaw (run integer x end threads)
        → IfOk (run integer x end threads) (λ key. takes (record { class = thread; key = key.value; at = threads; end = key.place }) old now)
        → IfOk (run integer x end traces) (λ key. takes (record { class = trace; key = key.value; at = traces; end = key.place }) now new)
        → TakesReadAll takes at (row ss at) old new
    front_taken takes within at threads traces old now new l m n p q h t =
        subst (λ z. TakesReadAll takes at (row z at) old new) (sym f.all)
        (both_taken one x end takes within (one_placed within) begun (f.threads ∷ f.traces ∷ []) at threads old old new l (p ∙ begun_seen at)
        (integers_taken takes within 2 begun at old l (each.0, (each.1.0, tt)) (refl, (f.start_is, (f.duration_is, tt))))
        (both_taken one x end takes within (one_placed within) (f.threads ∷ []) (f.traces ∷ []) threads traces old now new m (q ∙ thread_seen threads)
        (key_taken takes within thread (f.threads ∷ []) threads old now m (each.1.1.0, tt) (f.threads, refl, f.thread_is) h)
        (key_taken takes within trace (f.traces ∷ []) traces now new n (each.1.1.1.0, tt) (f.traces, refl, f.trace_is) t)))

pub passed_length : (ss : List FieldLayout) (l : FusedFields) → IsFused ss l → length (passed_by ss l) ≡ l.fields
passed_length ss l i = let x = range_length ss l.first (l.first + l.fields) i.within in omega arith

-- The layout of the class at a place.
pub row_layouts : (k : Classes) (o : Option Class) (row : ClassLayout) → IfSome o (λ c. IsClassLayout k c row) → IfSome o (λ c. AreFieldLayouts k c.fields row.layouts.items)
row_layouts k None row h = h
row_layouts k (Some c) row h = h.layouts

pub row_shapes : (k : Classes) (place : ℕ) (row : ClassLayout) → place < length k → IfSome (slice_get k place) (λ c. IsClassLayout k c row) → field_shapes k place ≡ shapes_of_layouts row.layouts.items
row_shapes k place row l h =
    let c = get_within k place l in
    let i : AreFieldLayouts k c.0.fields row.layouts.items = (subst (λ o. IfSome o (λ c. IsClassLayout k c row)) c.1 h).layouts in
    ap (λ o. option_map_or (λ c. map (λ f. f.shape) c.fields) o []) c.1 ∙ sym i.shapes

pub row_each : (k : Classes) (place : ℕ) (row : ClassLayout) → place < length k → IfSome (slice_get k place) (λ c. IsClassLayout k c row) → AllByRecursion (IsFieldLayout k) row.layouts.items
row_each k place row l h = let c = get_within k place l in (subst (λ o. IfSome o (λ c. IsClassLayout k c row)) c.1 h).layouts.each

pub row_fused : (k : Classes) (place : ℕ) (row : ClassLayout) → place < length k → IfSome (slice_get k place) (λ c. IsClassLayout k c row) → AreFused row.layouts.items row.fused_fields.items
row_fused k place row l h = let c = get_within k place l in (subst (λ o. IfSome o (λ c. IsClassLayout k c row)) c.1 h).fused_fields

-- The fused fields from a number on.
module _ (ss : List FieldLayout) (fused_fields : List FusedFields) where
  abbrev pub left_by : ℕ → List FieldLayout
  left_by i = flat_map (passed_by ss) (drop i fused_fields)

  pub fused_there : (i : ℕ) (d : FusedFields) → i < length fused_fields → AllByRecursion (IsFused ss) fused_fields → IsFused ss (get_or fused_fields i d)
  fused_there i d h a = all_get fused_fields i d h a
    where
      all_get : (ls : List FusedFields) (i : ℕ) (d : FusedFields) → i < length ls → AllByRecursion (IsFused ss) ls → IsFused ss (get_or ls i d)
      all_get [] i d h a = absurd (omega arith)
      all_get (l ∷ ls) zero d h a = a.0
      all_get (l ∷ ls) (suc i) d h a = all_get ls i d (omega arith) a.1

  pub left_next : (i : ℕ) (d : FusedFields) → i < length fused_fields → left_by i ≡ passed_by ss (get_or fused_fields i d) ++ left_by (i + 1)
  left_next i d h = ap (flat_map (passed_by ss)) (drop_more fused_fields i d h)

  module _ (k : Classes) (levels : ℕ) (x : List ℕ) (end : ℕ) where
    abbrev by_fused : ℕ → ℕ → Answer (List Value)
    by_fused i at = run (values_format (levels + 1) k (left_by i)) x end at

    pub left_none : (i : ℕ) → length fused_fields ≤ i → left_by i ≡ []
    left_none i h = ap (flat_map (passed_by ss)) (drop_all i fused_fields h)

    pub fused_end : (i at : ℕ) → length fused_fields ≤ i → end_or_flaw (by_fused i at) ≡ Ok at
    unfolding run
    fused_end i at h = ap (λ z. end_or_flaw (run (values_format (levels + 1) k z) x end at)) (left_none i h)

    pub fused_taken : {A : Type 0} (takes : KeyAt → A → A → Type 0) (start : ℕ) (all : Answer (List Value)) (i at : ℕ) (old now : A) → length fused_fields ≤ i
        → TakesRemaining takes start all at (by_fused i at) old now → TakesReadAll takes start all old now
    unfolding run
    fused_taken takes start all i at old now h l = l.then_all now (subst (λ z. TakesReadAll takes at (run (values_format (levels + 1) k z) x end at) now now) (sym (left_none i h)) refl)

    pub fused_step : (i at : ℕ) (d : FusedFields) → i < length fused_fields
        → end_or_flaw (by_fused i at) ≡ then_at (end_or_flaw (run (values_format (levels + 1) k (passed_by ss (get_or fused_fields i d))) x end at)) (λ p. end_or_flaw (by_fused (i + 1) p))
    fused_step i at d h =
        ap (λ z. end_or_flaw (run (values_format (levels + 1) k z) x end at)) (left_next i d h)
        ∙ both_seen (λ (s : FieldLayout). shape_format (class_format (levels + 1) k) s.shape) x end (passed_by ss (get_or fused_fields i d)) (left_by (i + 1)) at

    pub fused_goes : {A : Type 0} (takes : KeyAt → A → A → Type 0) (within : end ≤ length x) (start : ℕ) (all : Answer (List Value)) (i at to : ℕ) (d : FusedFields) (old now new : A)
        → i < length fused_fields → at ≤ end → TakesRemaining takes start all at (by_fused i at) old now
        → Ok to ≡ end_or_flaw (run (values_format (levels + 1) k (passed_by ss (get_or fused_fields i d))) x end at)
        → TakesReadAll takes at (run (values_format (levels + 1) k (passed_by ss (get_or fused_fields i d))) x end at) now new
        → TakesRemaining takes start all to (by_fused (i + 1) to) old new
    fused_goes takes within start all i at to d old now new h o l e t = record {
      then_all = λ last u. l.then_all last
          (subst (λ z. TakesReadAll takes at (run (values_format (levels + 1) k z) x end at) now last) (sym (left_next i d h))
          (both_taken (λ (s : FieldLayout). shape_format (class_format (levels + 1) k) s.shape) x end takes within (λ s. shape_placed x end within (levels + 1) k s.shape)
          (passed_by ss (get_or fused_fields i d)) (left_by (i + 1)) at to now new last o e t u));
    }

-- The next fused fields of a class.
pub record NextFused (k : Classes) (P : Shape → Type 0) (row : ClassLayout) (i : ℕ) (l : FusedFields) (passed : List FieldLayout) : Type 0 where
  pub left : left_by row.layouts.items row.fused_fields.items i ≡ passed ++ left_by row.layouts.items row.fused_fields.items (i + 1)
  pub fused : IsFused row.layouts.items l
  pub each : AllByRecursion (IsFieldLayout k) passed
  pub count : length passed ≡ l.fields
  pub passes : Passes l.kind passed
  pub shapes : AllByRecursion P (shapes_of_layouts passed)

pub next_fused : (k : Classes) (place : ℕ) (row : ClassLayout) (fs : List FusedFields) (i : ℕ) (d : FusedFields) (passed : List FieldLayout) (P : Shape → Type 0) → place < length k
    → IfSome (slice_get k place) (λ c. IsClassLayout k c row) → AllByRecursion P (field_shapes k place)
    → fs ≡ row.fused_fields.items → i < length fs → passed ≡ passed_by row.layouts.items (get_or fs i d) → NextFused k P row i (get_or fs i d) passed
next_fused k place row fs i d passed P l h a e n q =
    subst (λ z. NextFused k P row i (get_or z i d) passed) (sym e) (made (subst (λ z. i < length z) e n) (subst (λ z. passed ≡ passed_by row.layouts.items (get_or z i d)) e q))
  where
    ss : List FieldLayout
    ss = row.layouts.items

    made : i < length row.fused_fields.items → passed ≡ passed_by row.layouts.items (get_or row.fused_fields.items i d) → NextFused k P row i (get_or row.fused_fields.items i d) passed
    made n q =
        let fused = get_or row.fused_fields.items i d in
        let u = fused_there ss row.fused_fields.items i d n (row_fused k place row l h).each in
        subst (NextFused k P row i fused) (sym q) (record {
          left = left_next ss row.fused_fields.items i d n;
          fused = u;
          each = all_passed (IsFieldLayout k) ss fused (row_each k place row l h);
          count = passed_length ss fused u;
          passes = u.passes;
          shapes = of_shapes P (passed_by ss fused) (all_passed (λ s. P s.shape) ss fused (by_shapes P ss (subst (AllByRecursion P) (row_shapes k place row l h) a)));
        })
