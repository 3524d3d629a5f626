-- An event that is rewritten.
use Rattle.std.specs.Prelude.{◌≡◌, ℕ, ◌-◌, ◌≤◌, List, ◌++◌, length, slice_get, slice_range, false, Some}
use Rattle.std.proofs.Common.{ap, sym, ◌∙◌, append_assoc}
use Rattle.jfr_base.proofs.Ranges.{range_length, range_split}
use Rattle.jfr_frame.specs.declared.framed.Framed.{Framed}
use Rattle.jfr_frame.specs.Records.{IsRecord, record_end}
use Rattle.jfr_layout.specs.declared.shape.Shape.{Shape}
use Rattle.jfr_worklist.proofs.Members.{get_in}
use Rattle.jfr_chunk.specs.Parts.{Parts, EventAt, AreParts, events_of}
use Rattle.jfr_chunk.proofs.AllLaws.{all_in}
use Rattle.jfr_chunk.proofs.HasNodesLaws.{event_is}
use Rattle.jfr_laws.proofs.Premises.{recorded}
use Rattle.jfr_rewrite.specs.Rewrite.{Rewrite, changed_bytes, event_tail}
use Rattle.jfr_rewrite.specs.Writing.{changed_within}

-- Its old size, and the tail, as they are written first.
module _ (w : Rewrite) (p : Parts) (e : EventAt) (s : IsRecord p.bytes e.record_of) (place : e.node.at ≡ e.record_of.body) where
  abbrev r : Framed
  r = e.record_of

  abbrev pub size_bytes : List ℕ
  size_bytes = slice_range p.bytes r.at r.type_at

  pub width : length size_bytes ≡ r.type_at - r.at
  width = range_length p.bytes r.at r.type_at s.size_spelled.within

  pub split : changed_within w.change p e.node r.at (record_end r) ≡ size_bytes ++ event_tail w p e
  split =
      let a : List ℕ = slice_range p.bytes r.type_at r.body in
      let f : List ℕ = changed_bytes w.change p.classes p.bytes e.node in
      let b : List ℕ = slice_range p.bytes e.node.end (record_end r) in
      ap (λ z. slice_range p.bytes r.at z ++ (f ++ b)) place
      ∙ (ap (λ z. z ++ (f ++ b)) (range_split p.bytes r.at r.type_at r.body s.size_spelled.order s.type_spelled.order) ∙ append_assoc size_bytes a (f ++ b))

-- What the parts of a chunk say of an event and its record.
pub record EventFacts (c : List ℕ) (e : EventAt) : Type 0 where
  pub is_record : IsRecord c e.record_of
  pub place : e.node.at ≡ e.record_of.body
  pub within : e.node.end ≤ record_end e.record_of
  pub array : e.node.shape.array ≡ false
  pub constant : e.node.shape.constant ≡ false

pub event_facts : (p : Parts) → AreParts p → (number : ℕ) (e : EventAt) → Some e ≡ slice_get (events_of p) number → EventFacts p.bytes e
event_facts p a number e q =
    let i = event_is p a e (get_in (events_of p) number e (sym q)) in
    record {
      is_record = all_in (IsRecord p.bytes) p.records e.record_of (recorded p a) i.listed;
      place = i.at;
      within = i.within;
      array = ap (λ (z : Shape). z.array) i.shape;
      constant = ap
          (λ (z : Shape). z.constant) i.shape;
    }
