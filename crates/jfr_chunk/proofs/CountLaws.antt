-- Records, and what events refer to, are no more than the bytes of a chunk up to them.
use Rattle.std.specs.Prelude.{◌≡◌, ℕ, suc, ◌+◌, ◌^◌, ◌<◌, ◌≤◌, Bool, true, false, cond, List, [], ◌∷◌, drop, filter, length, Option, Some, None, Ok, Err, slice_get}
use Rattle.std.specs.List.{cons_option, filter_map}
use Rattle.std.proofs.Common.{ap, arith, refl, subst}
use Rattle.jfr_base.specs.Formats.{Answer, run, end_or_flaw}
use Rattle.jfr_base.proofs.Exact.{ReadsOrFails, run_reads_or_fails}
use Rattle.jfr_header.specs.Fronts.{Whole}
use Rattle.jfr_header.proofs.Steps.{size_bounds}
use Rattle.jfr_layout.specs.Classes.{Classes, Sound, is_event_class}
use Rattle.jfr_frame.specs.declared.framed.Framed.{Framed}
use Rattle.jfr_frame.specs.Records.{AreRecords, IsRecord, Tiles, record_end}
use Rattle.jfr_frame.proofs.RecordLaws.{some_bytes, tiles_order}
use Rattle.jfr_value.specs.Values.{Value}
use Rattle.jfr_value.specs.Leaves.{leaf_target, leaves}
use Rattle.jfr_value.specs.Nodes.{IsNode, NodeAt, node_at, targets}
use Rattle.jfr_value.specs.Reading.{value_format}
use Rattle.jfr_value.proofs.NodeLaws.{read_node}
use Rattle.jfr_value.proofs.TargetLaws.{node_leaves_within, refers_parts}
use Rattle.jfr_pool.specs.declared.entry.EntryAt.{EntryAt}
use Rattle.jfr_pool.specs.Entries.{inline, number_in_force}
use Rattle.jfr_worklist.specs.Marks.{add, those}
use Rattle.jfr_chunk.specs.Parts.{AreParts, Parts, event_of, event_records, events_of}
use Rattle.jfr_chunk.specs.Reach.{node_entries}
use Rattle.jfr_chunk.proofs.EventReading.{drop_at, record_of}

-- A whole chunk is below the size that is refused.
pub whole_small : (c : List ℕ) → Whole c → length c < 2 ^ 30
whole_small c w = subst (λ n. n < 2 ^ 30) w.size (size_bounds _ w.flawless).1

-- Up to a record there are no more records, and no more numbers are noted, than there are bytes.
pub record Counted (c : List ℕ) (rs : List Framed) (n refs_end : ℕ) : Type 0 where
  pub at : ℕ
  pub left : Tiles c at (drop n rs) (length c)
  pub records : n ≤ at
  pub numbers : refs_end ≤ at

record IsWithin (c : List ℕ) (n refs_end : ℕ) : Type 0 where
  records : n ≤ length c
  numbers : refs_end ≤ length c

module _ (c : List ℕ) (rs : List Framed) where
  pub counted_none : (refs_end : ℕ) → AreRecords c rs → refs_end ≡ 0 → Counted c rs 0 refs_end
  counted_none refs_end t e = record { at = 68; left = t; records = omega arith; numbers = omega arith }

  pub counted_next : (n refs_end more : ℕ) (r : Framed) → slice_get rs n ≡ Some r → more ≤ refs_end + r.size → Counted c rs n refs_end → Counted c rs (n + 1) more
  counted_next n refs_end more r g m h =
      let t : Tiles c h.at (r ∷ drop (n + 1) rs) (length c) = subst (λ z. Tiles c h.at z (length c)) (drop_at rs n r g) h.left in
      let s : r.at < r.at + r.size = some_bytes c r t.1 in
      let a : r.at ≡ h.at = t.0 in
      let i = h.records in
      let j = h.numbers in
      record { at = record_end r; left = t.2; records = omega arith; numbers = omega arith }

  counted_within : (n refs_end : ℕ) → Counted c rs n refs_end → IsWithin c n refs_end
  counted_within n refs_end h =
      let o = tiles_order c h.at (length c) (drop n rs) h.left in
      let i = h.records in
      let j = h.numbers in
      record { records = omega arith; numbers = omega arith }

  pub number_fits : (n refs_end : ℕ) → Whole c → Counted c rs n refs_end → n < 2 ^ 32
  number_fits n refs_end w h = let z = whole_small c w in let o = counted_within n refs_end h in omega (arith, o.records)

-- A node refers to at most one entry for each of its leaves.
those_length : {A B : Type 0} (f : A → Option B) (xs : List A) → length (those f xs) ≤ length xs
those_length f [] = omega arith
those_length {B = B} f (x ∷ xs) = by_value (f x) (those_length f xs)
  where
    by_value : (o : Option B) → length (those f xs) ≤ length xs → length (add o (those f xs)) ≤ suc (length xs)
    by_value None h = omega arith
    by_value (Some y) h = omega arith

-- A list is no shorter than what a function makes of it, or than those that pass a test.
pub filter_map_most : {A B : Type 0} (f : A → Option B) (xs : List A) → length (filter_map f xs) ≤ length xs
filter_map_most f [] = omega arith
filter_map_most {B = B} f (x ∷ xs) = by_value (f x) (filter_map_most f xs)
  where
    by_value : (o : Option B) → length (filter_map f xs) ≤ length xs → length (cons_option o (filter_map f xs)) ≤ suc (length xs)
    by_value None h = omega arith
    by_value (Some y) h = omega arith

pub filter_most : {X : Type 0} (test : X → Bool) (xs : List X) → length (filter test xs) ≤ length xs
filter_most test [] = omega arith
filter_most test (x ∷ xs) = by_test (test x) (filter_most test xs)
  where
    by_test : (b : Bool) → length (filter test xs) ≤ length xs → length (cond b (x ∷ filter test xs) (filter test xs)) ≤ length (x ∷ xs)
    by_test true h = omega arith
    by_test false h = omega arith

tiles_few : (c : List ℕ) (p q : ℕ) (rs : List Framed) → Tiles c p rs q → p + length rs ≤ q
tiles_few c p q [] t = let e : p ≡ q = t in omega arith
tiles_few c p q (r ∷ rs) t = let e : r.at ≡ p = t.0 in let b = some_bytes c r t.1 in let i = tiles_few c (record_end r) q rs t.2 in omega arith

-- There are no more events than bytes.
pub events_few : (p : Parts) → AreParts p → length (events_of p) ≤ length p.bytes
unfolding events_of
events_few p a =
    let t = tiles_few p.bytes 68 (length p.bytes) p.records a.records in
    let f = filter_most (λ r. is_event_class p.classes r.type_id) p.records in
    let m = filter_map_most (event_of p.bytes p.classes) (event_records p.classes p.records) in
    omega arith

module _ (k : Classes) (sound : Sound k) (c : List ℕ) where
  -- A node that starts at a record's body and ends in the record has at most one leaf for each byte of the
  -- record.
  pub leaves_few : (r : Framed) (n : NodeAt) (v : Value) → IsRecord c r → n.at ≡ r.body → n.end ≤ record_end r → IsNode k c n v → length (leaves k c n) ≤ r.size
  leaves_few r n v i e w j =
      let b = node_leaves_within k sound c n v j in
      let o : r.at ≤ r.type_at = i.size_spelled.order in
      let q : r.type_at ≤ r.body = i.type_spelled.order in
      omega arith

  module _ (es : List EntryAt) where
    pub references_few : (n : NodeAt) (v : Value) → IsNode k c n v → length (node_entries es k c n) ≤ length (leaves k c n)
    references_few n v i =
        let t = ap length (refers_parts k sound c n v i).leaves_too in
        let a = those_length (number_in_force es) (targets k c n) in
        let b = filter_map_most leaf_target (leaves k c n) in
        omega arith

    -- The fields of an event end in its record, and refer to at most one entry for each byte of the record.
    record FieldsWithin (r : Framed) (end : ℕ) : Type 0 where
      within : end ≤ record_end r
      few : length (node_entries es k c (node_at (inline r.type_id) r.body end)) ≤ r.size

    fields_within : (r : Framed) (end : ℕ) → IsRecord c r → Ok end ≡ end_or_flaw (run (value_format k (inline r.type_id)) c (record_end r) r.body) → FieldsWithin r end
    fields_within r end i e = by_answer (run (value_format k (inline r.type_id)) c (record_end r) r.body)
        (run_reads_or_fails (value_format k (inline r.type_id)) c (record_end r) r.body i.covers i.within) e
      where
        by_answer : (a : Answer Value) → ReadsOrFails (value_format k (inline r.type_id)) c (record_end r) r.body a → Ok end ≡ end_or_flaw a → FieldsWithin r end
        by_answer (Err flaw) s e = cc
        by_answer (Ok g) s e =
            let p : g.place ≡ end = cc in
            let m = read_node k (inline r.type_id) c (record_end r) r.body g.place g.value i.within i.covers s in
            let n = subst (λ z. IsNode k c (node_at (inline r.type_id) r.body z) g.value) p m.0 in
            let w : end ≤ record_end r = subst (λ z. z ≤ record_end r) p m.1 in
            let a = references_few (node_at (inline r.type_id) r.body end) g.value n in
            let b = leaves_few r (node_at (inline r.type_id) r.body end) g.value i refl w n in
            record { within = w; few = omega arith }

    -- The fields of an event end in its record, and what is noted up to it has 32 bits; the next record is
    -- counted.
    pub record CountedEvent (rs : List Framed) (n end : ℕ) (r : Framed) (more : List ℕ) : Type 0 where
      pub within : end ≤ record_end r
      pub numbers_fit : length more < 2 ^ 32
      pub counted : Counted c rs (n + 1) (length more)

    pub counted_event : (rs : List Framed) (n end : ℕ) (r : Framed) (numbers more : List ℕ) → Whole c → AreRecords c rs → slice_get rs n ≡ Some r
        → Ok end ≡ end_or_flaw (run (value_format k (inline r.type_id)) c (record_end r) r.body)
        → length more ≤ length numbers + length (node_entries es k c (node_at (inline r.type_id) r.body end)) → Counted c rs n (length numbers) → CountedEvent rs n end r more
    counted_event rs n end r numbers more w t g e m h =
        let f = fields_within r end (record_of c rs n r t g) e in
        let x = f.few in
        let z = whole_small c w in
        let i : Counted c rs (n + 1) (length more) = counted_next c rs n (length numbers) (length more) r g (omega arith) h in
        let o = counted_within c rs (n + 1) (length more) i in
        record { within = f.within; numbers_fit = omega (arith, o.numbers); counted = i }
