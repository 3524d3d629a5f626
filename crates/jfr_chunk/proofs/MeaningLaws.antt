-- Events with equal record bytes, under classes that agree, mean the same if all that their paths lead to is
-- the same.
use Rattle.std.specs.Prelude.{◌≡◌, ℕ, ◌-◌, ◌≤◌, List, [], ◌∷◌, ◌++◌, length, slice_range, Contains}
use Rattle.std.proofs.Common.{ap, arith, refl, sym, ◌∙◌, subst, inl, inr}
use Rattle.std.proofs.lemmas.List.Elements.{All-contains}
use Rattle.jfr_base.specs.Formats.{Exactly}
use Rattle.jfr_base.proofs.IntegerLaws.{one_front}
use Rattle.jfr_base.proofs.UnitLaws.{one_run}
use Rattle.jfr_base.proofs.Ranges.{range_split, range_length}
use Rattle.jfr_base.proofs.FreeLaws.{reads_exact}
use Rattle.jfr_base.proofs.OnceLaws.{exact_same}
use Rattle.jfr_layout.specs.Classes.{Agree}
use Rattle.jfr_layout.specs.declared.shape.Shape.{Shape}
use Rattle.jfr_frame.specs.declared.framed.Framed.{Framed}
use Rattle.jfr_frame.specs.Records.{IsRecord, record_end, record_bytes, body_bytes}
use Rattle.jfr_value.specs.Reading.{value_format}
use Rattle.jfr_value.specs.Nodes.{node_bytes}
use Rattle.jfr_value.proofs.AgreeLaws.{value_agree}
use Rattle.jfr_value.proofs.ByteLaws.{node_agree}
use Rattle.jfr_value.proofs.NodeLaws.{value_free}
use Rattle.jfr_pool.specs.Entries.{inline}
use Rattle.jfr_chunk.specs.Parts.{Parts, EventAt, events_of, AreParts}
use Rattle.jfr_chunk.specs.Meaning.{SameMeaning}
use Rattle.jfr_chunk.specs.Laws.{AreEvents, SameRecord, SameRecords, SameOnPaths}
use Rattle.jfr_worklist.specs.Members.{In}
use Rattle.jfr_worklist.proofs.Members.{contains_in, in_contains}
use Rattle.jfr_chunk.proofs.AllLaws.{all_in}
use Rattle.jfr_chunk.proofs.PathLaws.{Pair, MeetsSame, law_of_paths}
use Rattle.jfr_chunk.proofs.HasNodesLaws.{IsEvent, has_nodes, event_is, tiles_each}

-- A record's bytes are those of its size, of its type and of its body.
record_split : (c : List ℕ) (r : Framed) → IsRecord c r → record_bytes c r ≡ slice_range c r.at r.type_at ++ (slice_range c r.type_at r.body ++ body_bytes c r)
record_split c r i =
    let a : r.at ≤ r.type_at = i.size_spelled.order in
    let b : r.type_at ≤ r.body = i.type_spelled.order in
    let d : r.body ≤ record_end r = i.covers in
    range_split c r.at r.type_at (record_end r) a (omega arith) ∙ ap (λ z. slice_range c r.at r.type_at ++ z) (range_split c r.type_at r.body (record_end r) b d)

-- Two records have sizes of the same length, and the same bytes of type and body.
pub record SameFields (c d : List ℕ) (r s : Framed) : Type 0 where
  pub width : r.type_at - r.at ≡ s.type_at - s.at
  pub type : slice_range c r.type_at r.body ≡ slice_range d s.type_at s.body
  pub body : body_bytes c r ≡ body_bytes d s

-- Equal records have equal parts.
pub same_fields : (c d : List ℕ) (r s : Framed) → IsRecord c r → IsRecord d s → record_bytes c r ≡ record_bytes d s → SameFields c d r s
same_fields c d r s i j e =
    let q = sym (record_split c r i) ∙ (e ∙ record_split d s j) in
    let size = one_front 8 (slice_range c r.at r.type_at) (slice_range d s.at s.type_at) (slice_range c r.type_at r.body ++ body_bytes c r)
    (slice_range d s.type_at s.body ++ body_bytes d s) i.size_spelled.spelled.form j.size_spelled.spelled.form q in
    let rest = (one_run (slice_range c r.at r.type_at) (slice_range d s.at s.type_at) (slice_range c r.type_at r.body ++ body_bytes c r) (slice_range d s.type_at s.body ++ body_bytes d s) q
    (ap length size)).1 in
    let type = one_front 8 (slice_range c r.type_at r.body) (slice_range d s.type_at s.body) (body_bytes c r) (body_bytes d s) i.type_spelled.spelled.form j.type_spelled.spelled.form rest in
    record {
      width = sym (range_length c r.at r.type_at i.size_spelled.within) ∙ (ap length size ∙ range_length d s.at s.type_at j.size_spelled.within);
      type = type;
      body = (one_run (slice_range c r.type_at r.body) (slice_range d s.type_at s.body) (body_bytes c r) (body_bytes d s) rest (ap length type)).1;
    }

module _ (p q : Parts) where
  event_bytes : (e f : EventAt) → IsEvent p e → IsEvent q f → IsRecord p.bytes e.record_of → IsRecord q.bytes f.record_of → SameRecord p q e f → node_bytes p.bytes e.node ≡ node_bytes q.bytes f.node
  event_bytes e f i j r s h =
      let shape : Shape = inline e.record_of.type_id in
      let other : Shape = inline f.record_of.type_id in
      let a = reads_exact (value_format p.classes shape) p.bytes (record_end e.record_of) e.record_of.body i.value e.node.end r.within r.covers (value_free p.classes shape) i.reads in
      let b = reads_exact (value_format q.classes other) q.bytes (record_end f.record_of) f.record_of.body j.value f.node.end s.within s.covers (value_free q.classes other) j.reads in
      let g : value_format q.classes other ≡ value_format p.classes shape = ap (λ t. value_format q.classes (inline t)) (sym h.class) ∙ sym (value_agree p.classes q.classes shape h.agree) in
      let x = range_split p.bytes e.record_of.body e.node.end (record_end e.record_of) a.order a.within in
      let y = range_split q.bytes f.record_of.body f.node.end (record_end f.record_of) b.order b.within in
      let same = exact_same (value_format p.classes shape) (slice_range p.bytes e.record_of.body e.node.end) (slice_range q.bytes f.record_of.body f.node.end)
      (slice_range p.bytes e.node.end (record_end e.record_of)) (slice_range q.bytes f.node.end (record_end f.record_of)) i.value j.value
      a.exact (subst (λ z. Exactly z (slice_range q.bytes f.record_of.body f.node.end) j.value) g b.exact)
      (sym x ∙ ((same_fields p.bytes q.bytes e.record_of f.record_of r s h.bytes).body ∙ y)) in
      ap (λ z. slice_range p.bytes z e.node.end) i.at ∙ (same ∙ ap (λ z. slice_range q.bytes z f.node.end) (sym j.at))

  module _ (a : AreParts p) (b : AreParts q) where
    pub event_pair : (e f : EventAt) → IsEvent p e → IsEvent q f → SameRecord p q e f → Pair p q (has_nodes p a) (has_nodes q b) e.node f.node
    event_pair e f i j h =
        let r = all_in (IsRecord p.bytes) p.records e.record_of (tiles_each p.bytes 68 (length p.bytes) p.records a.records) i.listed in
        let s = all_in (IsRecord q.bytes) q.records f.record_of (tiles_each q.bytes 68 (length q.bytes) q.records b.records) j.listed in
        let g : Agree p.classes q.classes e.node.shape.class = subst (Agree p.classes q.classes) (ap (λ (z : Shape). z.class) (sym i.shape)) h.agree in
        record {
          value = i.value;
          left = i.node;
          right = node_agree p.classes q.classes p.bytes q.bytes e.node f.node i.value i.node (i.shape ∙ (ap inline h.class ∙ sym j.shape)) (event_bytes e f i j r s h) j.node.order j.node.within g;
          agree = subst (Agree p.classes q.classes) (ap (λ (z : Shape). z.class) i.node.shape) g;
        }

    events_same : (es fs : List EventAt) → ((e : EventAt) → In es e → IsEvent p e) → ((f : EventAt) → In fs f → IsEvent q f) → SameRecords p q es fs
        → ((e : EventAt) → In es e → MeetsSame p q (has_nodes p a) (has_nodes q b) e.node) → SameMeaning p q es fs
    events_same [] [] i j h m = tt
    events_same [] (f ∷ fs) i j h m = absurd h
    events_same (e ∷ es) [] i j h m = absurd h
    events_same (e ∷ es) (f ∷ fs) i j h m = (
      record { class = h.0.class; bytes = h.0.bytes; paths = law_of_paths p q (has_nodes p a) (has_nodes q b) e.node f.node (event_pair e f (i e (inl refl)) (j f (inl refl)) h.0) (m e (inl refl)) },
      events_same es fs (λ e k. i e (inr k)) (λ f k. j f (inr k)) h.1 (λ e k. m e (inr k)),
    )

    pub same_meaning : (kept others : List EventAt) → AreEvents p kept → AreEvents q others → SameRecords p q kept others → SameOnPaths p q kept → SameMeaning p q kept others
    same_meaning kept others k o h m =
        events_same kept others
        (λ e i. event_is p a e (contains_in (events_of p) e (All-contains (Contains (events_of p)) kept e k (in_contains kept e i))))
        (λ f i. event_is q b f (contains_in (events_of q) f (All-contains (Contains (events_of q)) others f o (in_contains others f i))))
        h (λ e i path n key l t. m e path n key (in_contains kept e i) l t)
