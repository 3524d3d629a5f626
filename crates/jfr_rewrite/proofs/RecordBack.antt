-- A record with a new size, the old type, and any body is read back; so are the changed fields of an event.
use Rattle.std.specs.Prelude.{◌≡◌, ℕ, ◌+◌, ◌-◌, ◌≤◌, List, [], ◌++◌, length, slice_range, None}
use Rattle.std.specs.Option.{option_map_or}
use Rattle.std.proofs.Common.{ap, arith, sym, ◌∙◌, subst, length-append}
use Rattle.jfr_base.specs.Integer.{IntAt, spell_in}
use Rattle.jfr_base.specs.Formats.{Exactly, Reads}
use Rattle.jfr_base.proofs.RunLaws.{Stands}
use Rattle.jfr_base.proofs.Ranges.{range_length}
use Rattle.jfr_base.proofs.HoldLaws.{Holds, holds_parts, holds_int, holds_at, holds_narrow, holds_range_int}
use Rattle.jfr_layout.specs.Classes.{Sound}
use Rattle.jfr_frame.specs.declared.framed.Framed.{Framed}
use Rattle.jfr_frame.specs.Records.{IsRecord, record_end}
use Rattle.jfr_value.specs.Values.{Value, shape_of, bytes_of}
use Rattle.jfr_value.specs.Reading.{value_format}
use Rattle.jfr_value.proofs.DepthLaws.{fits_good}
use Rattle.jfr_value.proofs.NodeLaws.{value_is}
use Rattle.jfr_pool.specs.Entries.{inline}
use Rattle.jfr_chunk.specs.Parts.{Parts, EventAt}
use Rattle.jfr_chunk.specs.Written.{sized}
use Rattle.jfr_chunk.proofs.HasNodesLaws.{IsEvent}
use Rattle.jfr_laws.proofs.Values.{exact_reads}
use Rattle.jfr_rewrite.specs.Changed.{KeepsFit, changed}
use Rattle.jfr_rewrite.specs.Rewrite.{Rewrite, resized, changed_bytes, event_tail, event_bytes}
use Rattle.jfr_rewrite.specs.Rewritten.{Carries, CarriesTail, frame_from}
use Rattle.jfr_rewrite.proofs.ChangeLaws.{changed_fits, changed_shape}
use Rattle.jfr_rewrite.proofs.Sizes.{in_length}

-- The record at another offset, with another width of its size and another size.
abbrev pub new_frame : ℕ → ℕ → ℕ → Framed → Framed
new_frame at width n r = frame_from r.type_id width (width + (r.body - r.type_at)) at n

-- What follows the size of a record with this body.
abbrev pub tail_of : List ℕ → Framed → List ℕ → List ℕ
tail_of c r body = slice_range c r.type_at r.body ++ body

-- It is read back, and its bytes are the body.
pub record Resized (width : ℕ) (c b : List ℕ) (r : Framed) (at : ℕ) (body : List ℕ) : Type 0 where
  pub is_record : IsRecord b (new_frame at width (length (sized width (tail_of c r body))) r)
  pub held : Holds b (at + length (sized width (tail_of c r body))) (at + (width + (r.body - r.type_at))) body
  pub whole : length (sized width (tail_of c r body)) ≡ width + (r.body - r.type_at) + length body

pub record_resized : (width : ℕ) (c b : List ℕ) (r : Framed) (at : ℕ) (body : List ℕ) → Carries width (length (tail_of c r body)) → IsRecord c r
    → Holds b (length b) at (sized width (tail_of c r body))
    → Resized width c b r at body
record_resized width c b r at body z s h =
    let a2 : r.type_at ≤ r.body = s.type_spelled.order in
    let type : List ℕ = slice_range c r.type_at r.body in
    let tail : List ℕ = type ++ body in
    let size : ℕ = width + length tail in
    let whole : List ℕ = sized width tail in
    let t : length type ≡ r.body - r.type_at = range_length c r.type_at r.body s.type_spelled.within in
    let l : length tail ≡ length type + length body = length-append type body in
    let w : at + length whole ≤ length b = h.within in
    let sum : length whole ≡ length (spell_in width size) + length tail = length-append (spell_in width size) tail in
    let n : length (spell_in width size) ≡ width = in_length width size in
    let all : length whole ≡ size = omega arith in
    let end : ℕ = at + length whole in
    let type_at : ℕ = at + width in
    let body_at : ℕ = at + (width + (r.body - r.type_at)) in
    let inside : Holds b end at whole = holds_narrow b (length b) at end whole (omega arith) h.within h in
    let p = holds_parts b end at (spell_in width size) tail inside in
    let q = holds_parts b end type_at type body (holds_at b end (at + length (spell_in width size)) type_at tail (omega arith) p.1) in
    let size_int : IntAt b at type_at size = subst (λ m. IntAt b at m size) (ap (λ m. at + m) n) (holds_int b end at (spell_in width size) size p.0 z) in
    let type_int = holds_range_int c b r.type_at r.body r.type_id end type_at body_at s.type_spelled q.0 (omega arith) in
    record {
      is_record = record { size_spelled = subst (λ m. IntAt b at type_at m) (sym all) size_int; type_spelled = type_int.0; covers = type_int.1; within = h.within };
      held = holds_at b end (type_at + length type) body_at body (omega arith) q.1;
      whole = omega arith;
    }

-- The changed fields of an event are in its new record.
module _ (w : Rewrite) (p : Parts) (sound : Sound p.classes) (keeps : KeepsFit p.classes w.change) (e : EventAt) (i : IsEvent p e) (r : IsRecord p.bytes e.record_of) where
  abbrev pub new_value : Value
  new_value = changed w.change None i.value

  abbrev pub rest : List ℕ
  rest = slice_range p.bytes e.node.end (record_end e.record_of)

  abbrev pub event_width : ℕ
  event_width = w.width e.record_of (length (event_tail w p e))

  pub fields_are : changed_bytes w.change p.classes p.bytes e.node ≡ bytes_of new_value
  fields_are = ap (λ o. option_map_or (λ v. bytes_of (changed w.change None v)) o []) (value_is p.classes p.bytes e.node i.value sound i.node)

  tail_is : event_tail w p e ≡ tail_of p.bytes e.record_of (bytes_of new_value ++ rest)
  tail_is = ap (λ z. tail_of p.bytes e.record_of (z ++ rest)) fields_are

  -- Where its fields begin.
  abbrev pub body_at : ℕ → ℕ
  body_at at = at + (event_width + (e.record_of.body - e.record_of.type_at))

  pub record EventRead (b : List ℕ) (at : ℕ) : Type 0 where
    pub is_record : IsRecord b (new_frame at event_width (length (event_bytes w p e)) e.record_of)
    pub fields : Reads (value_format p.classes (inline e.record_of.type_id)) b (at + length (event_bytes w p e)) (body_at at) new_value (body_at at + length (bytes_of new_value))
    pub fields_held : Holds b (at + length (event_bytes w p e)) (body_at at) (bytes_of new_value)
    pub rest_held : Holds b (at + length (event_bytes w p e)) (body_at at + length (bytes_of new_value)) rest
    pub ends : body_at at + length (bytes_of new_value) + length rest ≡ at + length (event_bytes w p e)

  pub event_read : (b : List ℕ) (at : ℕ) → CarriesTail w e.record_of (event_tail w p e) → Holds b (length b) at (event_bytes w p e) → EventRead b at
  event_read b at carries held =
      let r0 : Framed = e.record_of in
      let tail : List ℕ = tail_of p.bytes r0 (bytes_of new_value ++ rest) in
      let width : ℕ = w.width r0 (length tail) in
      let m = record_resized width p.bytes b r0 at (bytes_of new_value ++ rest) (subst (CarriesTail w r0) tail_is carries) r (subst (λ z. Holds b (length b) at (resized w r0 z)) tail_is held) in
      let end : ℕ = at + length (sized width tail) in
      let body : ℕ = at + (width + (r0.body - r0.type_at)) in
      let x = holds_parts b end body (bytes_of new_value) rest m.held in
      let shape : shape_of new_value ≡ inline r0.type_id = changed_shape w.change None i.value ∙ (sym i.node.shape ∙ i.shape) in
      let exact : Exactly (value_format p.classes (inline r0.type_id)) (bytes_of new_value) new_value =
      subst (λ s. Exactly (value_format p.classes s) (bytes_of new_value) new_value) shape (fits_good p.classes new_value sound (changed_fits w.change p.classes keeps None i.value i.node.fits)) in
      let holds : Stands b body (body + length (bytes_of new_value)) (bytes_of new_value) =
      record { order = omega arith; within = (let y = x.0.within in let z = x.0.inside in omega arith); bytes = x.0.bytes } in
      let read = exact_reads (value_format p.classes (inline r0.type_id)) b end body (body + length (bytes_of new_value)) (bytes_of new_value) new_value exact holds x.0.within x.0.inside in
      let here : List ℕ → ℕ = λ z. at + (w.width r0 (length z) + (r0.body - r0.type_at)) in
      record {
        is_record = subst (λ z. IsRecord b (new_frame at (w.width r0 (length z)) (length (resized w r0 z)) r0)) (sym tail_is) m.is_record;
        fields = subst (λ z. Reads (value_format p.classes (inline r0.type_id)) b (at + length (resized w r0 z)) (here z) new_value (here z + length (bytes_of new_value))) (sym tail_is) read;
        fields_held = subst (λ z. Holds b (at + length (resized w r0 z)) (here z) (bytes_of new_value)) (sym tail_is) x.0;
        rest_held = subst (λ z. Holds b (at + length (resized w r0 z)) (here z + length (bytes_of new_value)) rest) (sym tail_is) x.1;
        ends = subst (λ z. here z + length (bytes_of new_value) + length rest ≡ at + length (resized w r0 z)) (sym tail_is) (omega (arith, m.whole, length-append (bytes_of new_value) rest));
      }
