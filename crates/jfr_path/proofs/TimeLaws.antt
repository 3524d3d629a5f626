-- The times of an event are the numbers in its fields with these names.
use Rattle.std.specs.Prelude.{◌≡◌, ◌≢◌, ℕ, ℤ, pos, ◌^◌, ◌%◌, ◌<◌, ◌≤◌, Bool, true, false, not, ◌||◌, List, length, Option, Some, None, IsSome, option_and_then, option_map, codes, if◌then◌else◌}
use Rattle.std.specs.Int.{cast_signed, w64}
use Rattle.std.specs.Option.{option_map_or}
use Rattle.std.proofs.Common.{ap, arith, refl, sym, ◌∙◌, subst}
use Rattle.jfr_base.specs.declared.integer.Var.{Var}
use Rattle.jfr_base.specs.Formats.{int_at}
use Rattle.jfr_base.specs.Integer.{IntAt, worth_within}
use Rattle.jfr_base.proofs.OneAnswer.{int_computed}
use Rattle.jfr_filter.specs.Filters.{Given, has_window, is_always}
use Rattle.jfr_layout.specs.Classes.{Class, Classes, find_class, field_number, kind_of}
use Rattle.jfr_layout.specs.declared.kind.Kind.{Kind}
use Rattle.jfr_layout.specs.declared.kind.Kind.TheVariants as kinds
use Rattle.jfr_layout.specs.declared.shape.Shape.{Shape}
use Rattle.jfr_value.specs.declared.node.Step.TheVariants as steps
use Rattle.jfr_value.specs.Values.{Value, IsBase}
use Rattle.jfr_value.specs.declared.node.Node.{Node}
use Rattle.jfr_value.specs.Nodes.{NodeAt, IsNode, IsValue, child, node_bytes, node_of}
use Rattle.jfr_value.proofs.NodeForms.{base_form}
use Rattle.jfr_chunk.specs.Parts.{Parts, EventAt}
use Rattle.jfr_chunk.specs.Windows.{allows_time, clock_of, duration_of, is_in, long_by, long_of, number_of, or_zero, signed, start_of}
use Rattle.jfr_path.specs.Times.{is_timely, is_untimed, number_at, times_of}
use Rattle.jfr_path.specs.Verdicts.{IsOfClass}
use Rattle.jfr_path.proofs.EventLaws.{event_shape}
use Rattle.jfr_path.proofs.NameLaws.{then_then}
use Rattle.jfr_worklist.proofs.Members.{contains_in}
use Rattle.jfr_chunk.specs.Parts.{events_of}

-- A number below 2 ^ 64, as a signed one.
pub signed_is : (n : ℕ) → n < 2 ^ 64 → cast_signed w64 n ≡ signed n
signed_is n h = let e : n % 2 ^ 64 ≡ n = omega arith in ap (cast_signed w64) (sym e)

-- The fields with the times of a class's events, as they are found.
pub no_times : (c : Class) (o : Option ℕ) → o ≡ None → o ≡ field_number c.fields (codes "startTime") → None ≡ times_of c
no_times c o n e = ap (option_map (λ start. record { start = start; duration = field_number c.fields (codes "duration") })) (sym n ∙ e)

pub these_times : (c : Class) (o : Option ℕ) (start : ℕ) (duration : Option ℕ) → o ≡ Some start → o ≡ field_number c.fields (codes "startTime") → duration ≡ field_number c.fields (codes "duration")
    → Some (record { start = start; duration = duration }) ≡ times_of c
these_times c o start duration s e d =
    ap (λ z. Some (record { start = start; duration = z })) d ∙ ap (option_map (λ start. record { start = start; duration = field_number c.fields (codes "duration") })) (sym s ∙ e)

-- An inline `long` has the integer that its bytes spell, also if it is read with a later limit.
module _ (k : Classes) (c : List ℕ) (n : NodeAt) (v : Value) (d : Class) (i : IsNode k c n v) (array : n.shape.array ≡ false) (constant : n.shape.constant ≡ false) (found : find_class k n.shape.class ≡ Some d) (long : kind_of d.name ≡ kinds.Long) where
  pub spelled : (number : ℕ) × ((end : ℕ) → n.end ≤ end → end ≤ length c → int_at c n.at end ≡ Some (record { value = number; end = n.end })) × (number ≡ worth_within 8 (node_bytes c n))
  spelled =
      let not_composite : kind_of d.name ≢ kinds.Composite = λ z. (let x : kinds.Long ≡ kinds.Composite = sym long ∙ z in cc) in
      let f = base_form k c n.at n.end n.shape v d i array constant found not_composite in
      let b : IsBase kinds.Long (node_bytes c n) f.key = subst (λ z. IsBase z (node_bytes c n) f.key) long f.is in
      let there : IntAt c n.at n.end b.0 = record { order = i.order; within = i.within; spelled = b.1 } in
      (b.0, (λ end l w. int_computed c n.at end n.end b.0 (omega (arith, i.order)) w there l), b.1.worth)

-- The class of an inline `long`.
module _ (p : Parts) (n : Node) (value : IsValue p.classes n) (bytes : n.bytes.now ≡ p.bytes) (array : n.shape.array ≡ false) (constant : n.shape.constant ≡ false) (k : Classes) (same : k ≡ p.classes) (long : Some kinds.Long ≡ option_map (λ c. kind_of c.name) (find_class k n.shape.class)) where
  found : (d : Class) × (find_class p.classes n.shape.class ≡ Some d) × (kind_of d.name ≡ kinds.Long)
  found = by_class (find_class p.classes n.shape.class) refl (long ∙ ap (λ (z : Classes). option_map (λ (c : Class). kind_of c.name) (find_class z n.shape.class)) same)
    where
      by_class : (o : Option Class) → find_class p.classes n.shape.class ≡ o → Some kinds.Long ≡ option_map (λ c. kind_of c.name) o
          → (d : Class) × (find_class p.classes n.shape.class ≡ Some d) × (kind_of d.name ≡ kinds.Long)
      by_class None q e = cc
      by_class (Some d) q e = (d, q, (let x : Some kinds.Long ≡ Some (kind_of d.name) = e in cc))

  abbrev there : (number : ℕ) × ((end : ℕ) → n.end ≤ end → end ≤ length n.bytes.now → int_at n.bytes.now n.at end ≡ Some (record { value = number; end = n.end })) × (number ≡ worth_within 8 (node_bytes n.bytes.now (node_of n)))
  there = spelled p.classes n.bytes.now (node_of n) value.0 found.0 value.1 array constant found.1 found.2

  pub long_there : IsSome (int_at n.bytes.now n.at n.end)
  long_there = subst IsSome (sym (there.1 n.end (omega arith) value.1.within)) refl

  pub long_is : (number : Var) → number.value < 2 ^ 64 → int_at n.bytes.now n.at n.end ≡ Some number → Some (cast_signed w64 number.value) ≡ long_of p (node_of n)
  long_is number small e =
      let x : Some (record { value = there.0; end = n.end }) ≡ Some number = sym (there.1 n.end (omega arith) value.1.within) ∙ e in
      let y : number.value ≡ there.0 = cc in
      let by_long : Kind → Option ℤ = λ kind. long_by kind (node_bytes p.bytes (node_of n)) in
      ap (λ z. Some z) (signed_is number.value small)
      ∙ (ap (λ z. Some (signed z)) (y ∙ (there.2 ∙ ap (λ z. worth_within 8 (node_bytes z (node_of n))) bytes))
      ∙ (ap by_long (sym found.2)
      ∙ (sym (ap (λ o. option_and_then (λ (c : Class). by_long (kind_of c.name)) o) found.1)
      ∙ (sym (ap (λ t. if t then None else option_and_then (λ (c : Class). by_long (kind_of c.name)) (find_class p.classes n.shape.class)) constant)
      ∙ sym (ap (λ t. if t then None else if n.shape.constant then None else option_and_then (λ (c : Class). by_long (kind_of c.name)) (find_class p.classes n.shape.class)) array)))))

module _ (p : Parts) (c : Class) (e : EventAt) (o : IsOfClass p c e) where
  pub same_class : find_class p.classes e.node.shape.class ≡ Some c
  same_class = ap (λ (z : Shape). find_class p.classes z.class) (event_shape p o.parts e (contains_in (events_of p) e o.listed)) ∙ o.class

  -- A number of an event is the one in the field with its name.
  number_is : (name : List ℕ) → number_of p name e ≡ option_and_then (number_at p e.node) (field_number c.fields name)
  number_is name =
      ap (λ z. option_and_then (long_of p) (option_and_then (λ (d : Class). option_and_then (λ i. child p.classes p.bytes e.node (steps.Field i)) (field_number d.fields name)) z)) same_class
      ∙ then_then (long_of p) (λ i. child p.classes p.bytes e.node (steps.Field i)) (field_number c.fields name)

  module _ (g : Given) where
    abbrev duration_field : Option ℕ
    duration_field = field_number c.fields (codes "duration")

    abbrev lasting : ℤ
    lasting = option_map_or or_zero (option_and_then (number_at p e.node) duration_field) (pos 0)

    by_start : (s : Option ℕ)
        → option_map_or (λ t. is_in g (clock_of p.bytes) t lasting) (option_and_then (number_at p e.node) s) false ≡ option_map_or (is_timely g p e.node) (option_map (λ start. record { start = start; duration = duration_field }) s) false
    by_start None = refl
    by_start (Some start) = refl

    is_timely_by : option_map_or (λ t. is_in g (clock_of p.bytes) t (duration_of p e)) (start_of p e) false ≡ option_map_or (is_timely g p e.node) (times_of c) false
    is_timely_by =
        ap (λ z. option_map_or (λ t. is_in g (clock_of p.bytes) t (option_map_or or_zero z (pos 0))) (start_of p e) false) (number_is (codes "duration"))
        ∙ (ap (λ z. option_map_or (λ t. is_in g (clock_of p.bytes) t lasting) z false) (number_is (codes "startTime"))
        ∙ by_start (field_number c.fields (codes "startTime")))

    or_assoc : (x y z : Bool) → (x || (y || z)) ≡ ((x || y) || z)
    or_assoc true y z = refl
    or_assoc false y z = refl

    -- The window allows an event by its class, or by these fields.
    pub time_is : allows_time g p e ≡ (is_untimed g c || option_map_or (is_timely g p e.node) (times_of c) false)
    time_is =
        let given : Bool = not (has_window g) in
        let timely : Bool = option_map_or (λ t. is_in g (clock_of p.bytes) t (duration_of p e)) (start_of p e) false in
        ap (λ z. given || (option_map_or (λ (d : Class). is_always g d.name) z false || timely)) o.class
        ∙ (ap (λ z. given || (is_always g c.name || z)) is_timely_by
        ∙ or_assoc given (is_always g c.name) (option_map_or (is_timely g p e.node) (times_of c) false))
