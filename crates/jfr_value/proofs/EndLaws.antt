-- Where the formats of values end, one step of a walk after another.
use Rattle.std.specs.Prelude.{◌≡◌, ◌≢◌, ℕ, zero, suc, ◌+◌, ◌-◌, ◌<◌, ◌≤◌, ◌↔◌, IsTrue, IfSome, Bool, true, false, List, [], ◌∷◌, drop, map, slice_get, slice_range, Result, Ok, Err, Option, Some, None, if◌then◌else◌}
use Rattle.std.specs.List.{AllByRecursion}
use Rattle.std.proofs.Common.{ap, refl, sym, ◌∙◌, arith, subst}
use Rattle.jfr_base.specs.declared.flaw.Flaw.{Flaw}
use Rattle.jfr_base.specs.declared.integer.Var.{Var}
use Rattle.jfr_base.specs.declared.reason.Reason.TheVariants.{Short}
use Rattle.jfr_base.specs.Formats.{Answer, Format, Done, Int, ◌>>=◌, int_at, for_each, integer, unchecked, after_int, run, end_or_flaw, times, with_bytes}
use Rattle.jfr_base.proofs.FormatEnds.{then_at, end_or_flaw-made, end_or_flaw-times, end_or_flaw-for_each, end_or_flaw-with}
use Rattle.jfr_layout.specs.Classes.{AreFieldLayouts, Class, Classes, Field, IsFieldLayout, find_class, class_index, kind_of, item_of}
use Rattle.jfr_layout.specs.declared.kind.Kind.{Kind}
use Rattle.jfr_layout.specs.declared.kind.Kind.TheVariants as kinds
use Rattle.jfr_layout.specs.declared.shape.Shape.{Shape}
use Rattle.jfr_layout.specs.declared.field_layout.FieldLayout.{FieldLayout}
use Rattle.jfr_text.specs.Strings.{Content, string_format}
use Rattle.jfr_value.specs.declared.leaf.LeafKind.TheVariants as leaf_kinds
use Rattle.jfr_value.specs.Values.{Value, Nil, Single, Group, values_of, key_of, IsHollowArray}
use Rattle.jfr_value.specs.Reading.{base_format, item_format, array_format, shape_format, fields_format, kind_format, inline_format, class_format, value_format}
use Rattle.jfr_value.proofs.PlaceLaws.{placed_class}
use Rattle.jfr_value.proofs.SkipLaws.{int_made}
use Rattle.jfr_value.proofs.LayoutLaws.{layout_class}

pub class_of_fields : (depth : ℕ) (k : Classes) (t : Shape) (c : Class) → 0 < depth → find_class k t.class ≡ Some c → kind_of c.name ≡ kinds.Composite
    → class_format depth k t ≡ fields_format (class_format (depth - 1) k) c.fields >>= λ vs. Done (Group t [] (values_of vs))
unfolding class_format
class_of_fields zero k t c z e h = absurd (omega arith)
class_of_fields (suc d) k t c z e h =
    let down : suc d - 1 ≡ d = omega arith in
    rw down (ap (λ o. inline_format (class_format d k) t o) e ∙ ap (λ o. kind_format o t (fields_format (class_format d k) c.fields)) h)

class_fields : (depth : ℕ) (k : Classes) (t : Shape) (c : Class) (x : List ℕ) (end at : ℕ) → 0 < depth → find_class k t.class ≡ Some c → kind_of c.name ≡ kinds.Composite
    → end_or_flaw (run (class_format depth k t) x end at) ≡ end_or_flaw (run (fields_format (class_format (depth - 1) k) c.fields) x end at)
class_fields depth k t c x end at z e h =
    ap (λ f. end_or_flaw (run f x end at)) (class_of_fields depth k t c z e h) ∙ end_or_flaw-made (fields_format (class_format (depth - 1) k) c.fields) (λ vs. Group t [] (values_of vs)) x end at

base_is : (kind : Kind) (t : Shape) (f : Format (List Value)) → kind ≢ kinds.Composite → kind_format kind t f ≡ with_bytes [] (base_format kind) (λ key b. Done (Single t (leaf_kinds.Base kind) b key))
base_is kinds.Composite t f n = absurd (n refl)
base_is kind t f n = refl

pub class_of_base : (depth : ℕ) (k : Classes) (t : Shape) (c : Class) (kind : Kind) → 0 < depth → find_class k t.class ≡ Some c → kind ≡ kind_of c.name → kind ≢ kinds.Composite
    → class_format depth k t ≡ with_bytes [] (base_format kind) (λ key b. Done (Single t (leaf_kinds.Base kind) b key))
unfolding class_format
class_of_base zero k t c kind z e h n = absurd (omega arith)
class_of_base (suc d) k t c kind z e h n =
    ap (λ o. inline_format (class_format d k) t o) e
    ∙ (ap (λ o. kind_format o t (fields_format (class_format d k) c.fields)) (sym h)
    ∙ base_is kind t (fields_format (class_format d k) c.fields) n)

class_base : (depth : ℕ) (k : Classes) (t : Shape) (c : Class) (kind : Kind) (x : List ℕ) (end at : ℕ) → 0 < depth → find_class k t.class ≡ Some c → kind ≡ kind_of c.name → kind ≢ kinds.Composite
    → end_or_flaw (run (class_format depth k t) x end at) ≡ end_or_flaw (run (base_format kind) x end at)
class_base depth k t c kind x end at z e h n =
    ap (λ f. end_or_flaw (run f x end at)) (class_of_base depth k t c kind z e h n) ∙ end_or_flaw-with [] (base_format kind) (λ key b. Single t (leaf_kinds.Base kind) b key) x end at

pub items_step : {A : Type 0} (n i : ℕ) (f : Format A) (x : List ℕ) (end at : ℕ) → i < n
    → end_or_flaw (run (times (n - i) f) x end at) ≡ then_at (end_or_flaw (run f x end at)) (λ p. end_or_flaw (run (times (n - (i + 1)) f) x end p))
items_step n i f x end at h = let e : n - i ≡ suc (n - (i + 1)) = omega arith in rw e (end_or_flaw-times (n - (i + 1)) f x end at)

pub each_step : {X A : Type 0} (f : X → Format A) (xs : List X) (i : ℕ) (y : X) (x : List ℕ) (end at : ℕ) → slice_get xs i ≡ Some y
    → end_or_flaw (run (for_each (drop i xs) f) x end at) ≡ then_at (end_or_flaw (run (f y) x end at)) (λ p. end_or_flaw (run (for_each (drop (i + 1) xs) f) x end p))
each_step f [] i y x end at e = cc
each_step f (z ∷ xs) zero y x end at e =
    let h : z ≡ y = cc in
    end_or_flaw-for_each z xs f x end at ∙ ap (λ w. then_at (end_or_flaw (run (f w) x end at)) (λ p. end_or_flaw (run (for_each xs f) x end p))) h
each_step f (z ∷ xs) (suc i) y x end at e =
    let h : suc i + 1 ≡ suc (i + 1) = omega arith in rw h (each_step f xs i y x end at e)

-- One step of a loop whose step answered.
pub after_ok : (r : Result ℕ Flaw) (q : ℕ) (f : ℕ → Result ℕ Flaw) (a z : Result ℕ Flaw) → a ≡ then_at r f → r ≡ Ok q → a ≡ z → f q ≡ z
after_ok r q f a z e h k = ap (λ v. then_at v f) (sym h) ∙ (sym e ∙ k)

pub after_err : (r : Result ℕ Flaw) (w : Flaw) (f : ℕ → Result ℕ Flaw) (a z : Result ℕ Flaw) → a ≡ then_at r f → r ≡ Err w → a ≡ z → Err w ≡ z
after_err r w f a z e h k = ap (λ v. then_at v f) (sym h) ∙ (sym e ∙ k)

pub key_ends : (inline : Shape → Format Value) (s : Shape) (x : List ℕ) (end at : ℕ) → s.constant ≡ true
    → end_or_flaw (run integer x end at) ≡ end_or_flaw (run (item_format inline (item_of s)) x end at)
key_ends inline s x end at c =
    int_made (λ v b. Single (item_of s) (leaf_kinds.Key v) b (Some v)) x end at
    ∙ ap (λ t. end_or_flaw (run (if t then Int unchecked (λ key b. Done (Single (item_of s) (leaf_kinds.Key key) b (Some key))) else inline (item_of s)) x end at)) (sym c)

pub shape_item : (inline : Shape → Format Value) (s : Shape) (x : List ℕ) (end at : ℕ) → s.array ≡ false
    → end_or_flaw (run (shape_format inline s) x end at) ≡ end_or_flaw (run (item_format inline (item_of s)) x end at)
shape_item inline s x end at a =
    let flat : Bool → Shape = λ b. record { class = s.class; constant = s.constant; array = b } in
    ap (λ b. end_or_flaw (run (if b then array_format (item_format inline (item_of s)) s else item_format inline (flat s.array)) x end at)) a
    ∙ ap (λ b. end_or_flaw (run (item_format inline (flat b)) x end at)) a

pub shape_items : (inline : Shape → Format Value) (s : Shape) (v : Var) (x : List ℕ) (end at : ℕ) → s.array ≡ true → int_at x at end ≡ Some v
    → end_or_flaw (run (shape_format inline s) x end at) ≡ end_or_flaw (run (times v.value (item_format inline (item_of s))) x end v.end)
unfolding run
shape_items inline s v x end at a e =
    ap (λ b. end_or_flaw (run (if b then array_format (item_format inline (item_of s)) s else item_format inline s) x end at)) a
    ∙ (ap (λ o. end_or_flaw (after_int x at unchecked (λ n b p. run (times n (item_format inline (item_of s)) >>= λ vs. Done (Group s b (values_of vs))) x end p) o)) e
    ∙ end_or_flaw-made (times v.value (item_format inline (item_of s))) (λ vs. Group s (slice_range x at v.end) (values_of vs)) x end v.end)

pub no_more : {A : Type 0} (n i : ℕ) (f : Format A) (x : List ℕ) (end at : ℕ) → n ≤ i → end_or_flaw (run (times (n - i) f) x end at) ≡ Ok at
unfolding run
no_more n i f x end at h = let e : n - i ≡ 0 = omega arith in ap (λ k. end_or_flaw (run (times k f) x end at)) e

-- The fields of a class by their layouts.
each_by : {X Y A : Type 0} (v : X → Y) (f : Y → Format A) (xs : List X) → for_each xs (λ x. f (v x)) ≡ for_each (map v xs) f
each_by v f [] = refl
each_by v f (x ∷ xs) = ap (λ z. f (v x) >>= λ a. z >>= λ rest. Done (a ∷ rest)) (each_by v f xs)

pub fields_by : (k : Classes) (inline : Shape → Format Value) (fs : List Field) (ss : List FieldLayout) → AreFieldLayouts k fs ss
    → fields_format inline fs ≡ for_each ss (λ s. shape_format inline s.shape)
fields_by k inline fs ss a = each_by (λ f. f.shape) (shape_format inline) fs ∙ (ap (λ z. for_each z (shape_format inline)) (sym a.shapes) ∙ sym (each_by (λ s. s.shape) (shape_format inline) ss))

pub layout_fields : (depth : ℕ) (k : Classes) (s : FieldLayout) (ss : List FieldLayout) (x : List ℕ) (end at : ℕ) → 0 < depth → IsFieldLayout k s → s.kind ≡ kinds.Composite
    → IfSome (slice_get k s.class_index) (λ c. AreFieldLayouts k c.fields ss)
    → end_or_flaw (run (class_format depth k (item_of s.shape)) x end at) ≡ end_or_flaw (run (for_each ss (λ z. shape_format (class_format (depth - 1) k) z.shape)) x end at)
layout_fields depth k s ss x end at z i q a =
    let c = layout_class k s i in
    class_fields depth k (item_of s.shape) c.class x end at z c.found (sym c.kind ∙ q)
    ∙ ap (λ f. end_or_flaw (run f x end at)) (fields_by k (class_format (depth - 1) k) c.class.fields ss (subst (λ o. IfSome o (λ c. AreFieldLayouts k c.fields ss)) c.there a))

pub layout_base : (depth : ℕ) (k : Classes) (s : FieldLayout) (x : List ℕ) (end at : ℕ) → 0 < depth → IsFieldLayout k s → s.kind ≢ kinds.Composite
    → end_or_flaw (run (class_format depth k (item_of s.shape)) x end at) ≡ end_or_flaw (run (base_format s.kind) x end at)
layout_base depth k s x end at z i n = let c = layout_class k s i in class_base depth k (item_of s.shape) c.class s.kind x end at z c.found c.kind n

pub layout_text : (depth : ℕ) (k : Classes) (s : FieldLayout) (x : List ℕ) (end at : ℕ) → 0 < depth → IsFieldLayout k s → s.kind ≡ kinds.Text
    → end_or_flaw (run (class_format depth k (item_of s.shape)) x end at) ≡ end_or_flaw (run (base_format kinds.Text) x end at)
layout_text depth k s x end at z i e =
    layout_base depth k s x end at z i (λ n. (let y : kinds.Text ≡ kinds.Composite = sym e ∙ n in cc)) ∙ ap (λ kind. end_or_flaw (run (base_format kind) x end at)) e

pub layouts_there : (k : Classes) (s : FieldLayout) (ss : List FieldLayout) → IsFieldLayout k s → IfSome (slice_get k s.class_index) (λ c. AreFieldLayouts k c.fields ss)
    → AllByRecursion (IsFieldLayout k) ss
layouts_there k s ss i a = let c = layout_class k s i in (subst (λ o. IfSome o (λ c. AreFieldLayouts k c.fields ss)) c.there a).each

-- A string ends where the format of its content does.
pub text_seen : (x : List ℕ) (end at : ℕ) (r : Answer Content) → r ≡ run (string_format true) x end at → end_or_flaw r ≡ end_or_flaw (run (base_format kinds.Text) x end at)
text_seen x end at r e = ap end_or_flaw e ∙ sym (end_or_flaw-made (string_format true) key_of x end at)

-- Items of a class without fields have no bytes, so an array of them is only its count.
pub hollow_item : (k : Classes) (s : Shape) (c : Class) → find_class k s.class ≡ Some c → kind_of c.name ≡ kinds.Composite → c.fields ≡ [] → s.constant ≡ false
    → (x : List ℕ) (end at : ℕ) → run (item_format (class_format 34 k) (item_of s)) x end at ≡ Ok (record { value = Group (item_of s) [] Nil; place = at })
unfolding run
hollow_item k s c q e z o x end at =
    ap (λ t. run (if t then Int unchecked (λ key spelled. Done (Single (item_of s) (leaf_kinds.Key key) spelled (Some key))) else class_format 34 k (item_of s)) x end at) o
    ∙ (ap (λ f. run f x end at) (class_of_fields 34 k (item_of s) c (omega arith) q e)
    ∙ ap (λ fs. run (fields_format (class_format 33 k) fs >>= λ vs. Done (Group (item_of s) [] (values_of vs))) x end at) z)

pub hollow_items : (k : Classes) (s : Shape) (c : Class) → find_class k s.class ≡ Some c → kind_of c.name ≡ kinds.Composite → c.fields ≡ [] → s.constant ≡ false
    → (n : ℕ) (x : List ℕ) (end at : ℕ) → end_or_flaw (run (times n (item_format (class_format 34 k) (item_of s))) x end at) ≡ Ok at
unfolding run
hollow_items k s c q e z o zero x end at = refl
hollow_items k s c q e z o (suc n) x end at =
    end_or_flaw-times n (item_format (class_format 34 k) (item_of s)) x end at
    ∙ (ap (λ r. then_at (end_or_flaw r) (λ p. end_or_flaw (run (times n (item_format (class_format 34 k) (item_of s))) x end p))) (hollow_item k s c q e z o x end at)
    ∙ hollow_items k s c q e z o n x end at)

pub hollow_array : (k : Classes) (s : Shape) (place : ℕ) (c : Class) (v : Var) (x : List ℕ) (end at : ℕ) → class_index k s.class ≡ Some place → slice_get k place ≡ Some c → IsHollowArray s c
    → int_at x at end ≡ Some v
    → end_or_flaw (run (value_format k s) x end at) ≡ Ok v.end
unfolding value_format
hollow_array k s place c v x end at p q h e =
    shape_items (class_format 34 k) s v x end at h.0 e ∙ hollow_items k s c (placed_class k s.class place p ∙ q) h.2.0 h.2.1 h.1 v.value x end v.end

pub array_short : (k : Classes) (s : Shape) (x : List ℕ) (end at : ℕ) → s.array ≡ true → int_at x at end ≡ None
    → end_or_flaw (run (value_format k s) x end at) ≡ Err (record { offset = at; reason = Short })
unfolding value_format run
array_short k s x end at a e =
    ap (λ b. end_or_flaw (run (if b then array_format (item_format (class_format 34 k) (item_of s)) s else item_format (class_format 34 k) s) x end at)) a
    ∙ ap (λ o. end_or_flaw (after_int x at unchecked (λ n b p. run (times n (item_format (class_format 34 k) (item_of s)) >>= λ vs. Done (Group s b (values_of vs))) x end p) o)) e

-- The two answers about an array that was found to be hollow.
pub hollow_is : (k : Classes) (s : Shape) (place : ℕ) (b : Bool) (c : Class) → slice_get k place ≡ Some c → IfSome (slice_get k place) (λ c. IsTrue b ↔ IsHollowArray s c) → b ≡ true
    → IsHollowArray s c
hollow_is k s place b c q h t = (subst (λ o. IfSome o (λ c. IsTrue b ↔ IsHollowArray s c)) q h).0 t

pub hollow_count : (k : Classes) (s : FieldLayout) (b : Bool) (x : List ℕ) (end at : ℕ) → IsFieldLayout k s → IfSome (slice_get k s.class_index) (λ c. IsTrue b ↔ IsHollowArray s.shape c) → b ≡ true
    → end_or_flaw (run integer x end at) ≡ end_or_flaw (run (value_format k s.shape) x end at)
unfolding run
hollow_count k s b x end at i h t = by_int (int_at x at end) refl
  where
    hollow : (c : Class) × (slice_get k s.class_index ≡ Some c) × IsHollowArray s.shape c
    hollow = let c = layout_class k s i in (c.class, c.there, hollow_is k s.shape s.class_index b c.class c.there h t)

    by_int : (o : Option Var) → int_at x at end ≡ o → end_or_flaw (after_int x at unchecked (λ v s p. run (Done v) x end p) o) ≡ end_or_flaw (run (value_format k s.shape) x end at)
    by_int None e = sym (array_short k s.shape x end at hollow.2.0 e)
    by_int (Some v) e = sym (hollow_array k s.shape s.class_index hollow.0 v x end at i.class_index hollow.1 hollow.2 e)
