-- An event and its class: the class is composite, and the event has each of its fields.
use Rattle.std.specs.Prelude.{◌≡◌, ℕ, ◌+◌, Bool, true, false, List, [], ◌∷◌, cond, filter, map, slice_get, Option, Some, None, Ok, Err, nat_lt, codes, IsSome}
use Rattle.std.specs.Option.{option_map, option_map_or}
use Rattle.std.specs.Str.{bytes_eq}
use Rattle.std.proofs.Common.{ap, refl, sym, ◌∙◌, subst, inl, inr}
use Rattle.std.proofs.lemmas.Bool.{and_parts}
use Rattle.std.proofs.lemmas.List.Quantifiers.{position-Some}
use Rattle.std.proofs.lemmas.Option.{slice_get-map}
use Rattle.jfr_base.specs.Formats.{Answer, run}
use Rattle.jfr_layout.specs.declared.kind.Kind.{Kind}
use Rattle.jfr_layout.specs.declared.kind.Kind.TheVariants as kinds
use Rattle.jfr_layout.specs.declared.shape.Shape.{Shape}
use Rattle.jfr_layout.specs.Classes.{Class, Classes, Field, find_class, field_number, kind_of, is_composite, extends_event, is_event_class}
use Rattle.jfr_frame.specs.declared.framed.Framed.{Framed}
use Rattle.jfr_frame.specs.Records.{record_end}
use Rattle.jfr_value.specs.declared.node.Step.TheVariants as steps
use Rattle.jfr_value.specs.Values.{Value, Values, list_of}
use Rattle.jfr_value.specs.Reading.{value_format}
use Rattle.jfr_value.specs.Nodes.{NodeAt, AreValues, child, laid, node_at}
use Rattle.jfr_value.proofs.ChildLaws.{field_is}
use Rattle.jfr_value.proofs.PlaceLaws.{get_within}
use Rattle.jfr_value.proofs.RowLaws.{row_at, start_of}
use Rattle.jfr_pool.specs.Entries.{inline}
use Rattle.jfr_chunk.specs.Parts.{Parts, EventAt, AreParts, event_by, event_of, event_records, events_of}
use Rattle.jfr_chunk.proofs.AllLaws.{in_filter_map}
use Rattle.jfr_worklist.specs.Members.{In}
use Rattle.jfr_chunk.proofs.HasNodesLaws.{event_is}
use Rattle.jfr_path.proofs.StepLaws.{sound}

passes : {X : Type 0} (test : X → Bool) (xs : List X) (x : X) → In (filter test xs) x → test x ≡ true
passes test [] x i = absurd i
passes {X = X} test (y ∷ ys) x i = by_test (test y) refl i (λ j. passes test ys x j)
  where
    by_test : (b : Bool) → test y ≡ b → In (cond b (y ∷ filter test ys) (filter test ys)) x → (In (filter test ys) x → test x ≡ true) → test x ≡ true
    by_test true q (inl e) f = ap test (sym e) ∙ q
    by_test true q (inr j) f = f j
    by_test false q j f = f j

-- The record of an event is of an event class.
pub event_class : (p : Parts) (e : EventAt) → In (events_of p) e → is_event_class p.classes e.record_of.type_id ≡ true
unfolding events_of
event_class p e i =
    let r = in_filter_map (event_of p.bytes p.classes) (event_records p.classes p.records) e i in
    by_answer r.0 (passes (λ r. is_event_class p.classes r.type_id) p.records r.0 r.1) (run (value_format p.classes (inline r.0.type_id)) p.bytes (record_end r.0) r.0.body) r.2
  where
    by_answer : (r : Framed) → is_event_class p.classes r.type_id ≡ true → (a : Answer Value) → event_by r a ≡ Some e → is_event_class p.classes e.record_of.type_id ≡ true
    by_answer r t (Err f) q = cc
    by_answer r t (Ok g) q =
        let h : r ≡ e.record_of = (let x : record { record_of = r; node = record { shape = inline r.type_id; at = r.body; end = g.place } } ≡ e = cc in ap (λ (z : EventAt). z.record_of) x) in
        subst (λ (z : Framed). is_event_class p.classes z.type_id ≡ true) h t

is_the_composite : (kind : Kind) → is_composite kind ≡ true → kind ≡ kinds.Composite
is_the_composite kinds.Composite e = refl
is_the_composite kinds.Boolean e = cc
is_the_composite kinds.Byte e = cc
is_the_composite kinds.Char e = cc
is_the_composite kinds.Short e = cc
is_the_composite kinds.Int e = cc
is_the_composite kinds.Long e = cc
is_the_composite kinds.Float e = cc
is_the_composite kinds.Double e = cc
is_the_composite kinds.Text e = cc

-- An event class is known, and composite.
pub record EventClass (k : Classes) (id : ℕ) : Type 0 where
  pub class : Class
  pub found : find_class k id ≡ Some class
  pub composite : kind_of class.name ≡ kinds.Composite

pub known : (k : Classes) (id : ℕ) → is_event_class k id ≡ true → EventClass k id
unfolding is_event_class
known k id e = by_class (find_class k id) refl (and_parts (nat_lt 1 id) (option_map_or extends_event (find_class k id) false) e).1
  where
    by_class : (o : Option Class) → find_class k id ≡ o → option_map_or extends_event o false ≡ true → EventClass k id
    by_class None q h = cc
    by_class (Some c) q h = record {
      class = c;
      found = q;
      composite = is_the_composite (kind_of c.name) (and_parts (is_composite (kind_of c.name)) (option_map_or (λ n. bytes_eq n (codes "jdk.jfr.Event")) c.super_name false) h).0;
    }

-- One of a row of values.
one_of_row : (k : Classes) (c : List ℕ) (at end number : ℕ) (fs : List Field) (f : Field) (vs : Values) (o : Option NodeAt) → AreValues k c at end (map (λ f. f.shape) fs) vs
    → slice_get fs number ≡ Some f → o ≡ slice_get (laid at (list_of vs)) number → (n : NodeAt) × (o ≡ Some n)
one_of_row k c at end number fs f vs o r g e = (
  node_at f.shape (start_of at vs number) (start_of at vs (number + 1)),
  e
      ∙ (row_at k c at end (map (λ f. f.shape) fs) vs number f.shape r (slice_get-map (λ (f : Field). f.shape) fs number ∙ ap (option_map (λ (f : Field). f.shape)) g)).is,
)

module _ (p : Parts) (parts : AreParts p) (e : EventAt) (listed : In (events_of p) e) where
  pub event_known : IsSome (find_class p.classes e.record_of.type_id)
  event_known = let k = known p.classes e.record_of.type_id (event_class p e listed) in subst (λ z. IsSome z) (sym k.found) refl

  pub event_shape : e.node.shape ≡ inline e.record_of.type_id
  event_shape = (event_is p parts e listed).shape

  -- Where the class has a field, so has the event.
  pub event_field : (c : Class) (name : List ℕ) (number : ℕ) → find_class p.classes e.record_of.type_id ≡ Some c → field_number c.fields name ≡ Some number
      → (n : NodeAt) × (child p.classes p.bytes e.node (steps.Field number) ≡ Some n)
  event_field c name number q f =
      let i = event_is p parts e listed in
      let k = known p.classes e.record_of.type_id (event_class p e listed) in
      let same : k.class ≡ c = (let x : Some k.class ≡ Some c = sym k.found ∙ q in cc) in
      let found : find_class p.classes e.node.shape.class ≡ Some c = ap (λ (z : Shape). find_class p.classes z.class) i.shape ∙ q in
      let composite : kind_of c.name ≡ kinds.Composite = ap (λ (z : Class). kind_of z.name) (sym same) ∙ k.composite in
      let row = field_is p.classes p.bytes e.node i.value (sound p parts) i.node number c (ap (λ (z : Shape). z.array) i.shape) (ap (λ (z : Shape). z.constant) i.shape) found composite in
      let there = get_within c.fields number (position-Some (λ (f : Field). bytes_eq f.name name) c.fields number (record { name = []; shape = inline 0 }) f).0 in
      one_of_row p.classes p.bytes e.node.at e.node.end number c.fields there.0 row.0 (child p.classes p.bytes e.node (steps.Field number)) row.1 there.1 row.2
