-- The first fields of an event, read where they are.
use Rattle.std.specs.Prelude.{◌≡◌, ℕ, zero, suc, ◌+◌, ◌^◌, ◌<◌, ◌≤◌, ℤ, Bool, true, false, List, length, map, nat_lt, slice_get, slice_index_or, Option, Some, None, IfSome, option_and_then, if◌then◌else◌}
use Rattle.std.specs.Int.{cast_signed, w64}
use Rattle.std.proofs.Common.{ap, arith, refl, sym, subst, ◌∙◌}
use Rattle.std.proofs.lemmas.Option.{slice_get-get_or}
use Rattle.jfr_base.specs.declared.integer.Var.{Var}
use Rattle.jfr_base.specs.Formats.{int_at}
use Rattle.jfr_base.specs.Integer.{worth_within}
use Rattle.jfr_layout.specs.Classes.{AreFieldLayouts, Class, Classes, IsFieldLayout, find_class, form_of, kind_of}
use Rattle.jfr_layout.specs.declared.field_layout.FieldLayout.{FieldLayout}
use Rattle.jfr_layout.specs.declared.form.Form.TheVariants as forms
use Rattle.jfr_layout.specs.declared.kind.Kind.{Kind}
use Rattle.jfr_layout.specs.declared.kind.Kind.TheVariants as kinds
use Rattle.jfr_layout.specs.declared.shape.Shape.{Shape}
use Rattle.jfr_layout.proofs.Lists.{all_at}
use Rattle.jfr_value.specs.declared.node.Step.TheVariants as steps
use Rattle.jfr_value.specs.Values.{Values, Nil, Cons, bytes_of, list_of}
use Rattle.jfr_value.specs.Nodes.{NodeAt, AreValues, child, children, laid, node_at, node_bytes, node_of}
use Rattle.jfr_value.proofs.ChildLaws.{fields_in}
use Rattle.jfr_value.proofs.LayoutLaws.{layout_class}
use Rattle.jfr_value.proofs.NodeLaws.{children_are}
use Rattle.jfr_value.proofs.RowLaws.{row_at, shapes_get, start_of}
use Rattle.jfr_chunk.specs.declared.event.Event.{Event}
use Rattle.jfr_chunk.specs.Indexed.{event_at}
use Rattle.jfr_chunk.specs.Parts.{Parts, AreParts, events_of}
use Rattle.jfr_chunk.specs.Windows.{long_by, long_of, signed}
use Rattle.jfr_chunk.proofs.HasNodesLaws.{event_is}
use Rattle.jfr_worklist.specs.Members.{In}
use Rattle.jfr_worklist.proofs.Members.{get_in}
use Rattle.jfr_path.specs.Times.{HasLayouts, StartsAt, number_at}
use Rattle.jfr_path.proofs.EventLaws.{event_class, known}
use Rattle.jfr_path.proofs.StepLaws.{sound}
use Rattle.jfr_path.proofs.TimeLaws.{signed_is, spelled}

-- The fields of an event have the layouts of its class.
module _ (p : Parts) (parts : AreParts p) (e : Event) (q : slice_get (events_of p) e.number ≡ Some (event_at e)) where
  pub event_layouts : (k : Classes) (place : ℕ) (ss : List FieldLayout) → k ≡ p.classes → slice_get p.classes place ≡ find_class p.classes e.frame.type_id
      → IfSome (slice_get k place) (λ c. AreFieldLayouts k c.fields ss) → HasLayouts p (node_of e.node) ss
  event_layouts k place ss h there l =
      let listed : In (events_of p) (event_at e) = get_in (events_of p) e.number (event_at e) q in
      let i = event_is p parts (event_at e) listed in
      let n : NodeAt = node_of e.node in
      let d = known p.classes e.frame.type_id (event_class p (event_at e) listed) in
      let found : find_class p.classes n.shape.class ≡ Some d.class = ap (λ (z : Shape). find_class p.classes z.class) i.shape ∙ d.found in
      let array : n.shape.array ≡ false = ap (λ (z : Shape). z.array) i.shape in
      let constant : n.shape.constant ≡ false = ap (λ (z : Shape). z.constant) i.shape in
      let f = fields_in p.classes p.bytes n i.value d.class i.node array constant found d.composite in
      let m : IfSome (slice_get p.classes place) (λ c. AreFieldLayouts p.classes c.fields ss) = subst (λ (z : Classes). IfSome (slice_get z place) (λ c. AreFieldLayouts z c.fields ss)) h l in
      let a : AreFieldLayouts p.classes d.class.fields ss = subst (λ z. IfSome z (λ (c : Class). AreFieldLayouts p.classes c.fields ss)) (there ∙ d.found) m in
      record {
        values = f.parts;
        row = subst (λ z. AreValues p.classes p.bytes n.at n.end z f.parts) (sym a.shapes) f.row;
        each = λ j. ap (λ t. if t then None else slice_get (children p.classes p.bytes n) j) array ∙ ap (λ z. slice_get z j) (children_are p.classes p.bytes n i.value (sound p parts) i.node ∙ f.is);
        layouts_are = a.each;
      }

-- A layout that was read from a list of them.
pub layout_got : (ss : List FieldLayout) (j : ℕ) (s other : FieldLayout) → true ≡ nat_lt j (length ss) → s ≡ slice_index_or ss j other → slice_get ss j ≡ Some s
layout_got ss j s other l e = slice_get-get_or ss j other (grind arith) ∙ ap (λ z. Some z) (sym e)

-- Each value starts where the one before it ends.
laid_starts : (at : ℕ) (vs : Values) (j : ℕ) → IfSome (slice_get (laid at (list_of vs)) j) (λ m. m.at ≡ start_of at vs j)
laid_starts at Nil j = tt
laid_starts at (Cons v vs) zero = refl
laid_starts at (Cons v vs) (suc j) = laid_starts (at + length (bytes_of v)) vs j

-- A field whose values are integers, and whose class is `long`, is inline.
inline_marks : (a b : Bool) → (if a then forms.Array else if b then forms.Key else forms.Integer) ≡ forms.Integer → (a ≡ false) × (b ≡ false)
inline_marks true b e = cc
inline_marks false true e = cc
inline_marks false false e = (refl, refl)

-- The number of an inline `long`.
long_of_is : (p : Parts) (m : NodeAt) (d : Class) → m.shape.array ≡ false → m.shape.constant ≡ false → find_class p.classes m.shape.class ≡ Some d → kind_of d.name ≡ kinds.Long
    → long_of p m ≡ Some (signed (worth_within 8 (node_bytes p.bytes m)))
long_of_is p m d array constant found long =
    let by_long : Kind → Option ℤ = λ kind. long_by kind (node_bytes p.bytes m) in
    ap (λ t. if t then None else if m.shape.constant then None else option_and_then (λ (c : Class). by_long (kind_of c.name)) (find_class p.classes m.shape.class)) array
    ∙ (ap (λ t. if t then None else option_and_then (λ (c : Class). by_long (kind_of c.name)) (find_class p.classes m.shape.class)) constant
    ∙ (ap (λ o. option_and_then (λ (c : Class). by_long (kind_of c.name)) o) found ∙ ap by_long long))

module _ (p : Parts) (n : NodeAt) (ss : List FieldLayout) (h : HasLayouts p n ss) where
  -- The first field starts where the fields start.
  pub first_starts : StartsAt p n 0 n.at
  first_starts = subst (λ z. IfSome z (λ (m : NodeAt). m.at ≡ n.at)) (sym (h.each 0)) (laid_starts n.at h.values 0)

  -- A field that is an inline `long` and starts at an offset: its integer is there, and the next field starts
  -- after it.
  module _ (j at : ℕ) (s : FieldLayout) (there : slice_get ss j ≡ Some s) (kind : s.kind ≡ kinds.Long) (form : s.form ≡ forms.Integer) (starts : StartsAt p n j at) where
    record Long : Type 0 where
      number : ℕ
      place : ℕ
      order : at ≤ n.end
      found : int_at p.bytes at n.end ≡ Some (record { value = number; end = place })
      value : number_at p n j ≡ Some (signed number)
      next : StartsAt p n (j + 1) place

    long : Long
    long =
        let r = row_at p.classes p.bytes n.at n.end (map (λ s. s.shape) ss) h.values j s.shape h.row (shapes_get ss j s there) in
        let m : NodeAt = node_at s.shape (start_of n.at h.values j) (start_of n.at h.values (j + 1)) in
        let is : child p.classes p.bytes n (steps.Field j) ≡ Some m = h.each j ∙ r.is in
        let at_is : start_of n.at h.values j ≡ at = subst (λ z. IfSome z (λ (f : NodeAt). f.at ≡ at)) is starts in
        let l : IsFieldLayout p.classes s = all_at (IsFieldLayout p.classes) ss j s h.layouts_are there in
        let c = layout_class p.classes s l in
        let is_long : kind_of c.class.name ≡ kinds.Long = sym c.kind ∙ kind in
        let marks = inline_marks s.shape.array s.shape.constant (ap (form_of s.shape) (sym kind) ∙ (sym l.form ∙ form)) in
        let word = spelled p.classes p.bytes m r.value c.class r.node marks.0 marks.1 c.found is_long in
        record {
          number = word.0;
          place = start_of n.at h.values (j + 1);
          order = subst (λ z. z ≤ n.end) at_is (omega (arith, r.node.order, r.within));
          found = subst (λ z. int_at p.bytes z n.end ≡ Some (record { value = word.0; end = start_of n.at h.values (j + 1) })) at_is (word.1 n.end r.within h.row.within);
          value = ap (option_and_then (long_of p)) is ∙ (long_of_is p m c.class marks.0 marks.1 c.found is_long ∙ ap (λ z. Some (signed z)) (sym word.2));
          next = subst (λ z. IfSome z (λ (f : NodeAt). f.at ≡ start_of n.at h.values (j + 1))) (sym (h.each (j + 1))) (laid_starts n.at h.values (j + 1));
        }

    pub long_order : at ≤ n.end
    long_order = long.order

    pub long_is_there : int_at p.bytes at n.end ≡ None → ⊥
    long_is_there e = let f = long.found in cc

    module _ (found : Var) (e : int_at p.bytes at n.end ≡ Some found) where
      same : Some (record { value = long.number; end = long.place }) ≡ Some found
      same = sym long.found ∙ e

      pub long_value : found.value < 2 ^ 64 → number_at p n j ≡ Some (cast_signed w64 found.value)
      long_value small =
          let f : long.number ≡ found.value = (let x = same in cc) in
          long.value ∙ (ap (λ z. Some (signed z)) f ∙ ap (λ z. Some z) (sym (signed_is found.value small)))

      pub long_next : StartsAt p n (j + 1) found.end
      long_next =
          let f : long.place ≡ found.end = (let x = same in cc) in
          subst (λ z. StartsAt p n (j + 1) z) f long.next
