-- A record whose bytes are copied is a record at their new offset, and its body is read there.
use Rattle.std.specs.Prelude.{◌≡◌, ℕ, ◌+◌, ◌-◌, ◌≤◌, List, ◌++◌, length, slice_range}
use Rattle.std.proofs.Common.{ap, arith, refl, sym, ◌∙◌, subst}
use Rattle.jfr_base.specs.Integer.{IntAt}
use Rattle.jfr_base.specs.Formats.{Format, Reads}
use Rattle.jfr_base.proofs.Ranges.{range_length, range_split}
use Rattle.jfr_base.proofs.Copies.{Copy, copy_cut}
use Rattle.jfr_base.proofs.ReadLaws.{reads_order, reads_within}
use Rattle.jfr_base.proofs.HoldLaws.{Holds, holds_parts, holds_at, holds_copy, holds_range_int}
use Rattle.jfr_base.proofs.AlikeLaws.{Alike, alike_reads}
use Rattle.jfr_layout.specs.Classes.{Classes}
use Rattle.jfr_frame.specs.declared.framed.Framed.{Framed}
use Rattle.jfr_frame.specs.Records.{IsRecord, record_end, record_bytes}
use Rattle.jfr_value.specs.Reading.{value_format}
use Rattle.jfr_value.proofs.NodeLaws.{value_free}
use Rattle.jfr_pool.specs.Entries.{inline}
use Rattle.jfr_chunk.specs.Parts.{HasFields}
use Rattle.jfr_laws.proofs.Free.{Same, free_alike}
use Rattle.jfr_laws.proofs.ReadBack.{moved_frame}

-- A record is as long as its size says.
pub record_length : (c : List ℕ) (r : Framed) → IsRecord c r → length (record_bytes c r) ≡ r.size
record_length c r s = range_length c r.at (record_end r) s.within ∙ omega arith

-- The record at an offset, if the bytes of a record are copied there.
abbrev pub copied_to : List ℕ → ℕ → Framed → Framed
copied_to c at r = moved_frame at r (length (record_bytes c r))

pub record_copied : (c b : List ℕ) (r : Framed) (at : ℕ) → IsRecord c r → Holds b (length b) at (record_bytes c r) → IsRecord b (copied_to c at r)
record_copied c b r at s h =
    let a1 : r.at ≤ r.type_at = s.size_spelled.order in
    let a2 : r.type_at ≤ r.body = s.type_spelled.order in
    let a3 : r.body ≤ record_end r = s.covers in
    let size : List ℕ = slice_range c r.at r.type_at in
    let type : List ℕ = slice_range c r.type_at r.body in
    let body : List ℕ = slice_range c r.body (record_end r) in
    let l : length (record_bytes c r) ≡ r.size = record_length c r s in
    let m : length size ≡ r.type_at - r.at = range_length c r.at r.type_at s.size_spelled.within in
    let e : record_bytes c r ≡ size ++ (type ++ body) = range_split c r.at r.type_at (record_end r) a1 (omega arith) ∙ ap (λ z. size ++ z) (range_split c r.type_at r.body (record_end r) a2 a3) in
    let p = holds_parts b (length b) at size (type ++ body) (subst (Holds b (length b) at) e h) in
    let q = holds_parts b (length b) (at + (r.type_at - r.at)) type body (holds_at b (length b) (at + length size) (at + (r.type_at - r.at)) (type ++ body) (omega arith) p.1) in
    let i = holds_range_int c b r.at r.type_at r.size (length b) at (at + (r.type_at - r.at)) s.size_spelled p.0 refl in
    let j = holds_range_int c b r.type_at r.body r.type_id (length b) (at + (r.type_at - r.at)) (at + (r.body - r.at)) s.type_spelled q.0 (omega arith) in
    record { size_spelled = subst (λ n. IntAt b at (at + (r.type_at - r.at)) n) (sym l) i.0; type_spelled = j.0; covers = omega arith; within = h.within }

-- What is read of its body, up to a place.
pub record BodyCopied {A B : Type 0} (R : A → B → Type 0) (g : Format B) (c b : List ℕ) (r : Framed) (at : ℕ) (v : A) (to : ℕ) : Type 0 where
  pub value : B
  pub related : R v value
  pub reads : Reads g b (at + length (record_bytes c r)) (at + (r.body - r.at)) value (at + (to - r.at))
  pub order : r.body ≤ to
  pub within : to ≤ record_end r

pub body_copied : {A B : Type 0} (R : A → B → Type 0) (f : Format A) (g : Format B) → Alike R f g → (c b : List ℕ) (r : Framed) (at : ℕ) (v : A) (to : ℕ) → IsRecord c r
    → Holds b (length b) at (record_bytes c r)
    → Reads f c (record_end r) r.body v to → BodyCopied R g c b r at v to
body_copied R f g a c b r at v to s h read =
    let a1 : r.at ≤ r.type_at = s.size_spelled.order in
    let a2 : r.type_at ≤ r.body = s.type_spelled.order in
    let a3 : r.body ≤ record_end r = s.covers in
    let o : r.body ≤ to = reads_order f c (record_end r) r.body v to read in
    let w : to ≤ record_end r = reads_within f c (record_end r) r.body v to a3 read in
    let l : length (record_bytes c r) ≡ r.size = record_length c r s in
    let before : ℕ = r.body - r.at in
    let n : ℕ = to - r.body in
    let after : ℕ = record_end r - to in
    let e : r.size ≡ before + (n + after) = omega arith in
    let whole = holds_copy c b (length b) r.at at r.size s.within h in
    let c1 = copy_cut c b r.at at before (n + after) (subst (Copy c b r.at at) e whole.0) in
    let c2 = copy_cut c b (r.at + before) (at + before) n after c1.1 in
    let p : r.at + before ≡ r.body = omega arith in
    let q : r.body + n ≡ to = omega arith in
    let c3 : Copy c b r.body (at + before) n = subst (λ z. Copy c b z (at + before) n) p c2.0 in
    let i = alike_reads R f g a c b (record_end r) (at + length (record_bytes c r)) r.body (at + before) n v (subst (Reads f c (record_end r) r.body v) (sym q) read) c3 (omega arith) in
    let t : at + before + n ≡ at + (to - r.at) = omega arith in
    record { value = i.0; related = i.1; reads = subst (Reads g b (at + length (record_bytes c r)) (at + before) i.0) t i.2; order = o; within = w }

-- The record of an event that is copied has all its fields.
pub fields_copied : (c b : List ℕ) (k : Classes) (r : Framed) (at : ℕ) → IsRecord c r → Holds b (length b) at (record_bytes c r) → HasFields c k r → HasFields b k (copied_to c at r)
fields_copied c b k r at s h f =
    let format = value_format k (inline r.type_id) in
    let i = body_copied Same format format (free_alike format (value_free k (inline r.type_id))) c b r at f.0 f.1 s h f.2 in
    (i.value, at + (f.1 - r.at), i.reads)
