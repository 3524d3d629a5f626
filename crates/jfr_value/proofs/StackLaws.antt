-- The stack of a walk.
use Rattle.std.specs.Prelude.{◌≡◌, ℕ, zero, suc, ◌+◌, ◌-◌, ◌*◌, ◌<◌, ◌≤◌, Bool, true, false, List, [], ◌∷◌, ◌++◌, drop, length, map, replicate, slice_get, Option, Some, None, IsSome, IfSome, ◌↔◌, if◌then◌else◌}
use Rattle.std.specs.Option.{option_map_or, option_and_then}
use Rattle.std.specs.List.{AllByRecursion}
use Rattle.std.proofs.Common.{ap, arith, refl, sym, ◌∙◌, subst}
use Rattle.std.proofs.lemmas.List.{append_assoc, append-nil, length-append}
use Rattle.jfr_layout.specs.Classes.{Class, Classes, Field, field_at, find_class, kind_of, is_composite, inline_fields, step_class, begins_chain}
use Rattle.jfr_layout.specs.declared.kind.Kind.TheVariants as kinds
use Rattle.jfr_layout.specs.declared.shape.Shape.{Shape}
use Rattle.jfr_value.specs.declared.leaf.Holder.{Holder}
use Rattle.jfr_value.specs.declared.stack.Frame.{Frame}
use Rattle.jfr_value.specs.declared.stack.NextValue.{NextValue}
use Rattle.jfr_value.specs.declared.stack.RemainingFields.{RemainingFields}
use Rattle.jfr_value.specs.declared.stack.Frame.TheVariants.{Fields, Items}
use Rattle.jfr_value.specs.Walks.{DepthBound, IsFrame, AreFrames, fields_from, frame_holders, frame_shapes, remaining_holders, remaining_shapes}
use Rattle.jfr_value.proofs.DepthLaws.{any_none, steps_to}

-- What a pushed frame has comes first.
pub shapes_push : (k : Classes) (fs : List Frame) (f : Frame) → remaining_shapes k (fs ++ f ∷ []) ≡ frame_shapes k f ++ remaining_shapes k fs
shapes_push k [] f = sym (append-nil (frame_shapes k f))
shapes_push k (g ∷ fs) f = ap (λ z. z ++ frame_shapes k g) (shapes_push k fs f) ∙ append_assoc (frame_shapes k f) (remaining_shapes k fs) (frame_shapes k g)

pub holders_push : (k : Classes) (fs : List Frame) (f : Frame) → remaining_holders k (fs ++ f ∷ []) ≡ frame_holders k f ++ remaining_holders k fs
holders_push k [] f = sym (append-nil (frame_holders k f))
holders_push k (g ∷ fs) f = ap (λ z. z ++ frame_holders k g) (holders_push k fs f) ∙ append_assoc (frame_holders k f) (remaining_holders k fs) (frame_holders k g)

pub frames_push : (k : Classes) (h n : ℕ) (fs : List Frame) (f : Frame) → n ≡ suc (h + length fs) → AreFrames k h fs → IsFrame k n f → AreFrames k h (fs ++ f ∷ [])
frames_push k h n [] f e a i = (subst (λ z. IsFrame k z f) (let q : n ≡ suc h = omega arith in q) i, tt)
frames_push k h n (g ∷ fs) f e a i = (a.0, frames_push k (suc h) n fs f (omega arith) a.1 i)

pub frames_pop : (k : Classes) (h n : ℕ) (fs : List Frame) (f : Frame) → n ≡ suc (h + length fs) → AreFrames k h (fs ++ f ∷ []) → AreFrames k h fs × IsFrame k n f
frames_pop k h n [] f e a = (tt, subst (λ z. IsFrame k z f) (let q : suc h ≡ n = omega arith in q) a.0)
frames_pop k h n (g ∷ fs) f e a = let r = frames_pop k (suc h) n fs f (omega arith) a.1 in ((a.0, r.0), r.1)

-- The fields from a number on.
drop_at_get : {X : Type 0} (xs : List X) (i : ℕ) (x : X) → slice_get xs i ≡ Some x → drop i xs ≡ x ∷ drop (i + 1) xs
drop_at_get [] i x e = cc
drop_at_get (y ∷ ys) zero x e = let h : y ≡ x = cc in ap (λ z. z ∷ ys) h
drop_at_get (y ∷ ys) (suc i) x e = let h : suc i + 1 ≡ suc (i + 1) = omega arith in rw h (drop_at_get ys i x e)

drop_past : {X : Type 0} (xs : List X) (i : ℕ) → length xs ≤ i → drop i xs ≡ []
drop_past [] zero h = refl
drop_past [] (suc i) h = refl
drop_past (x ∷ xs) zero h = absurd (omega arith)
drop_past (x ∷ xs) (suc i) h = drop_past xs i (omega arith)

-- The field by its number, and its class.
pub field_there : (k : Classes) (place number : ℕ) (f : Field) → field_at k place number ≡ Some f → (c : Class) × (slice_get k place ≡ Some c) × (slice_get c.fields number ≡ Some f)
field_there k place number f e = by_class (slice_get k place) refl e
  where
    by_class : (o : Option Class) → slice_get k place ≡ o → option_and_then (λ c. slice_get c.fields number) o ≡ Some f
        → (c : Class) × (slice_get k place ≡ Some c) × (slice_get c.fields number ≡ Some f)
    by_class None q e = cc
    by_class (Some c) q e = (c, q, e)

-- The fields after the next one.
abbrev pub others : RemainingFields → RemainingFields
others f = record { class = f.class; place = f.place; number = f.number + 1; levels = f.levels }

pub next_field : (k : Classes) (f : RemainingFields) (d : Field) → field_at k f.place f.number ≡ Some d → frame_shapes k (Fields f) ≡ d.shape ∷ frame_shapes k (Fields (others f))
next_field k f d e =
    let t = field_there k f.place f.number d e in
    let here : Option Class → ℕ → List Shape = λ o n. option_map_or (λ c. map (λ f. f.shape) (drop n c.fields)) o [] in
    ap (λ o. here o f.number) t.1 ∙ (ap (map (λ f. f.shape)) (drop_at_get t.0.fields f.number d t.2) ∙ ap (λ o. d.shape ∷ here o (f.number + 1)) (sym t.1))

pub no_fields : (k : Classes) (f : RemainingFields) → IfSome (slice_get k f.place) (λ c. length c.fields ≤ f.number) → frame_shapes k (Fields f) ≡ []
no_fields k f h = by_class (slice_get k f.place) h
  where
    by_class : (o : Option Class) → IfSome o (λ c. length c.fields ≤ f.number) → option_map_or (λ c. map (λ f. f.shape) (drop f.number c.fields)) o [] ≡ []
    by_class None h = refl
    by_class (Some c) h = ap (map (λ f. f.shape)) (drop_past c.fields f.number h)

pub next_item : (k : Classes) (v : NextValue) (remaining n : ℕ) → remaining ≡ suc n → frame_shapes k (Items v remaining) ≡ v.shape ∷ frame_shapes k (Items v n)
next_item k v remaining n e = ap (λ z. replicate z v.shape) e

pub no_items : (k : Classes) (v : NextValue) (remaining : ℕ) → remaining ≡ 0 → frame_shapes k (Items v remaining) ≡ []
no_items k v remaining e = ap (λ z. replicate z v.shape) e

pub no_item_holders : (k : Classes) (v : NextValue) (remaining : ℕ) → remaining ≡ 0 → frame_holders k (Items v remaining) ≡ []
no_item_holders k v remaining e = ap (λ z. replicate z v.holder) e

-- The room for a field.
all_get : {X : Type 0} (P : X → Type 0) (xs : List X) (i : ℕ) (x : X) → AllByRecursion P xs → slice_get xs i ≡ Some x → P x
all_get P [] i x a e = cc
all_get P (y ∷ xs) zero x a e = let h : y ≡ x = cc in subst P h a.0
all_get P (y ∷ xs) (suc i) x a e = all_get P xs i x a.1 e

pub field_depth : (k : Classes) (height : ℕ) (f : RemainingFields) (d : Field) → IsFrame k height (Fields f) → field_at k f.place f.number ≡ Some d → DepthBound k f.levels d.shape
field_depth k height f d i e = let t = field_there k f.place f.number d e in all_get (λ z. DepthBound k f.levels z.shape) t.0.fields f.number d (i.2 t.0 t.1) t.2

-- Into a composite class there is an inline step less.
rooms : (k : Classes) (n : ℕ) (fs : List Field) → AllByRecursion (λ f. option_map_or (λ d. begins_chain n k d) (step_class k f) false ≡ false) fs → AllByRecursion (λ f. DepthBound k n f.shape) fs
rooms k n [] a = tt
rooms k n (f ∷ fs) a = (λ o d q c. ap (λ z. option_map_or (λ d. begins_chain n k d) z false) (sym (steps_to k f d o q c)) ∙ a.0, rooms k n fs a.1)

pub inner_depth : (k : Classes) (levels : ℕ) (s : Shape) (d : Class) → DepthBound k levels s → s.constant ≡ false → find_class k s.class ≡ Some d → kind_of d.name ≡ kinds.Composite
    → (1 ≤ levels) × AllByRecursion (λ f. DepthBound k (levels - 1) f.shape) d.fields
inner_depth k zero s d r o q m = let z : true ≡ false = r o d q (ap is_composite m) in cc
inner_depth k (suc n) s d r o q m =
    let g = r o d q (ap is_composite m) in
    let i : inline_fields d ≡ d.fields = ap (λ t. if is_composite t then d.fields else []) m in
    let e : suc n - 1 ≡ n = omega arith in (
      omega arith,
      subst (λ z. AllByRecursion (λ f. DepthBound k z f.shape) d.fields) (sym e)
          (rooms k n d.fields (subst (AllByRecursion (λ f. option_map_or (λ d. begins_chain n k d) (step_class k f) false ≡ false)) i
          (any_none (λ f. option_map_or (λ d. begins_chain n k d) (step_class k f) false) (inline_fields d) g))),
    )

-- The frame of the fields of a composite value.
pub fields_frame : (k : Classes) (height levels place class : ℕ) (s : Shape) (d : Class) → DepthBound k levels s → s.constant ≡ false → find_class k s.class ≡ Some d → slice_get k place ≡ Some d
    → place < length k → kind_of d.name ≡ kinds.Composite → height + 2 * levels ≤ 68
    → IsFrame k (suc height) (Fields (record { class = class; place = place; number = 0; levels = levels - 1 }))
fields_frame k height levels place class s d r o q p l m b =
    let i = inner_depth k levels s d r o q m in
    let z : 1 ≤ levels = i.0 in
    (omega arith, l, λ c e. (let h : d ≡ c = cc in subst (λ (y : Class). AllByRecursion (λ f. DepthBound k (levels - 1) f.shape) y.fields) h i.1))

pub either_height : (b : Bool) (n : ℕ) → n ≤ 67 → n ≤ (if b then 67 else 68)
either_height true n h = h
either_height false n h = omega arith

pub most_height : (b : Bool) (n : ℕ) → n ≤ (if b then 67 else 68) → n ≤ 68
most_height true n h = omega arith
most_height false n h = h

pub array_height : (b : Bool) (n : ℕ) → b ≡ true → n ≤ (if b then 67 else 68) → n ≤ 67
array_height true n e h = h
array_height false n e h = cc

pub fields_from_start : (k : Classes) (class place levels : ℕ) (d : Class) → slice_get k place ≡ Some d
    → frame_shapes k (Fields (record { class = class; place = place; number = 0; levels = levels })) ≡ map (λ f. f.shape) d.fields
fields_from_start k class place levels d q = ap (λ o. option_map_or (λ c. map (λ f. f.shape) (drop 0 c.fields)) o []) q

-- A frame that goes on with its next value.
pub pushed_field : (k : Classes) (fs new : List Frame) (f : RemainingFields) (d : Field) (s : Shape) → field_at k f.place f.number ≡ Some d → s ≡ d.shape → new ≡ fs ++ Fields (others f) ∷ []
    → frame_shapes k (Fields f) ++ remaining_shapes k fs ≡ s ∷ remaining_shapes k new
pushed_field k fs new f d s e q n =
    ap (λ z. z ++ remaining_shapes k fs) (next_field k f d e)
    ∙ (ap (λ z. z ∷ (frame_shapes k (Fields (others f)) ++ remaining_shapes k fs)) (sym q)
    ∙ ap (λ z. s ∷ z) (sym (ap (remaining_shapes k) n ∙ shapes_push k fs (Fields (others f)))))

pub field_holders : (k : Classes) (fs new : List Frame) (f : RemainingFields) (d : Field) → field_at k f.place f.number ≡ Some d → new ≡ fs ++ Fields (others f) ∷ []
    → frame_holders k (Fields f) ++ remaining_holders k fs ≡ Some (record { class = f.class; field = f.number }) ∷ remaining_holders k new
field_holders k fs new f d e n =
    let holder : Option Holder = Some (record { class = f.class; field = f.number }) in
    ap (λ z. fields_from f.class f.number z ++ remaining_holders k fs) (next_field k f d e) ∙ ap (λ z. holder ∷ z) (sym (ap (remaining_holders k) n ∙ holders_push k fs (Fields (others f))))

pub pushed_item : (k : Classes) (fs new : List Frame) (v : NextValue) (remaining : ℕ) → 0 < remaining → new ≡ fs ++ Items v (remaining - 1) ∷ []
    → frame_shapes k (Items v remaining) ++ remaining_shapes k fs ≡ v.shape ∷ remaining_shapes k new
pushed_item k fs new v remaining l n =
    ap (λ z. z ++ remaining_shapes k fs) (next_item k v remaining (remaining - 1) (omega arith))
    ∙ ap (λ z. v.shape ∷ z) (sym (ap (remaining_shapes k) n ∙ shapes_push k fs (Items v (remaining - 1))))

pub item_holders : (k : Classes) (fs new : List Frame) (v : NextValue) (remaining : ℕ) → 0 < remaining → new ≡ fs ++ Items v (remaining - 1) ∷ []
    → frame_holders k (Items v remaining) ++ remaining_holders k fs ≡ v.holder ∷ remaining_holders k new
item_holders k fs new v remaining l n =
    let e : remaining ≡ suc (remaining - 1) = omega arith in
    ap (λ z. replicate z v.holder ++ remaining_holders k fs) e ∙ ap (λ z. v.holder ∷ z) (sym (ap (remaining_holders k) n ∙ holders_push k fs (Items v (remaining - 1))))

-- What a stack has before a frame is taken from it.
pub record Popped (k : Classes) (fs gs : List Frame) (f : Frame) : Type 0 where
  pub frames : AreFrames k 0 gs
  pub frame : IsFrame k (length gs + 1) f
  pub shapes : remaining_shapes k fs ≡ frame_shapes k f ++ remaining_shapes k gs
  pub holders : remaining_holders k fs ≡ frame_holders k f ++ remaining_holders k gs
  pub height : length fs ≡ length gs + 1

pub popped : (k : Classes) (fs gs : List Frame) (g f : Frame) → fs ≡ gs ++ g ∷ [] → g ≡ f → AreFrames k 0 fs → Popped k fs gs f
popped k fs gs g f e q a =
    let h : fs ≡ gs ++ f ∷ [] = e ∙ ap (λ (z : Frame). gs ++ z ∷ []) q in
    let p = frames_pop k 0 (length gs + 1) gs f (omega arith) (subst (λ (z : List Frame). AreFrames k 0 z) h a) in
    record {
      frames = p.0;
      frame = p.1;
      shapes = ap (remaining_shapes k) h ∙ shapes_push k gs f;
      holders = ap (remaining_holders k) h ∙ holders_push k gs f;
      height = ap length h
          ∙ length-append gs (f ∷ []);
    }

pub nothing_left : (fs : List Frame) → IsSome {T = Frame} None ↔ (0 < length fs) → fs ≡ []
nothing_left [] h = refl
nothing_left (f ∷ fs) h = let z : IsSome {T = Frame} None = h.1 (omega arith) in cc
