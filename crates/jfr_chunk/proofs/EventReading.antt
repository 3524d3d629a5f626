-- The events of a chunk, read one after another.
use Rattle.std.specs.Prelude.{◌≡◌, ℕ, zero, suc, ◌+◌, ◌≤◌, true, false, List, [], ◌∷◌, ◌++◌, length, map, drop, slice_get, Some, Ok, Err, cond}
use Rattle.std.specs.List.{AllByRecursion, filter_map, cons_option}
use Rattle.std.specs.BTreeMap as tree
use Rattle.std.specs.BTreeMap.{BTreeMap}
use Rattle.std.proofs.Common.{ap, arith, refl, sym, ◌∙◌, subst, append_assoc, add-one}
use Rattle.std.proofs.lemmas.List.{map-append, append-nil}
use Rattle.std.proofs.lemmas.List.Elements.{All-from_recursion}
use Rattle.jfr_base.specs.declared.flaw.Flaw.{Flaw}
use Rattle.jfr_base.specs.Formats.{Answer, run, end_or_flaw}
use Rattle.jfr_layout.specs.Classes.{Classes, is_event_class}
use Rattle.jfr_frame.specs.declared.framed.Framed.{Framed}
use Rattle.jfr_frame.specs.Records.{IsRecord, AreRecords, record_end}
use Rattle.jfr_value.specs.Values.{Value}
use Rattle.jfr_value.specs.Reading.{value_format}
use Rattle.jfr_pool.specs.Entries.{inline}
use Rattle.jfr_chunk.specs.declared.event_index.EventIndexEntry.{EventIndexEntry}
use Rattle.jfr_chunk.specs.Parts.{HasFields, event_records, event_by, event_of}
use Rattle.jfr_chunk.specs.Refusal.{fields_by, events_checked}
use Rattle.jfr_chunk.specs.Indexed.{event_with, indexed_event}
use Rattle.jfr_chunk.specs.Stages.{AreFields, IsRefusedEvents}
use Rattle.jfr_chunk.proofs.AllLaws.{all_get, filter_all}
use Rattle.jfr_chunk.proofs.EndLaws.{AreBefore, EndIs, before_none, before_other, before_event, same_events, this_event}
use Rattle.jfr_chunk.proofs.HasNodesLaws.{tiles_each}
use Rattle.jfr_chunk.proofs.StageLaws.{EventsTell, events_tell}

pub record_of : (c : List ℕ) (rs : List Framed) (n : ℕ) (r : Framed) → AreRecords c rs → slice_get rs n ≡ Some r → IsRecord c r
record_of c rs n r t e = all_get (IsRecord c) rs n r (tiles_each c 68 (length c) rs t) e

drop_suc : {X : Type 0} (xs : List X) (n : ℕ) (x : X) → slice_get xs n ≡ Some x → drop n xs ≡ x ∷ drop (suc n) xs
drop_suc [] n x e = cc
drop_suc (y ∷ ys) zero x e = let h : y ≡ x = cc in ap (λ z. z ∷ ys) h
drop_suc (y ∷ ys) (suc n) x e = drop_suc ys n x e

pub drop_at : {X : Type 0} (xs : List X) (n : ℕ) (x : X) → slice_get xs n ≡ Some x → drop n xs ≡ x ∷ drop (n + 1) xs
drop_at xs n x e = drop_suc xs n x e ∙ ap (λ m. x ∷ drop m xs) (sym (add-one n))

drop_past : {X : Type 0} (xs : List X) (n : ℕ) → length xs ≤ n → drop n xs ≡ []
drop_past [] zero h = refl
drop_past [] (suc n) h = refl
drop_past (x ∷ xs) zero h = absurd (omega (arith, h))
drop_past (x ∷ xs) (suc n) h = drop_past xs n (omega (arith, h))

module _ (c : List ℕ) (k : Classes) (rs : List Framed) where
  abbrev all : List Framed
  all = event_records k rs

  -- The events up to a record have been read: the flaw and the events are these, then those of the rest.
  pub record Pending (left : List Framed) (early : BTreeMap ℕ ℕ) (fields : List EventIndexEntry) : Type 0 where
    pub checked : events_checked c k all left ≡ events_checked c k all all
    pub listed : map (indexed_event rs early) fields ++ map Some (filter_map (event_of c k) left) ≡ map Some (filter_map (event_of c k) all)

  -- Those of the records before a number are read, and nothing is kept of the others.
  pub record ReadTo (n : ℕ) (early : BTreeMap ℕ ℕ) (fields : List EventIndexEntry) : Type 0 where
    pub pending : Pending (event_records k (drop n rs)) early fields
    pub before : AreBefore n early fields

  pub read_none : (early : BTreeMap ℕ ℕ) (fields : List EventIndexEntry) → tree.IsEmpty early → fields ≡ [] → ReadTo 0 early fields
  read_none early fields h e = record { pending = subst (Pending all early) (sym e) (record { checked = refl; listed = refl }); before = before_none early fields h e }

  left_at : (n : ℕ) (r : Framed) → slice_get rs n ≡ Some r → event_records k (drop n rs) ≡ cond (is_event_class k r.type_id) (r ∷ event_records k (drop (n + 1) rs)) (event_records k (drop (n + 1) rs))
  left_at n r e = ap (event_records k) (drop_at rs n r e)

  left_other : (n : ℕ) (r : Framed) → slice_get rs n ≡ Some r → is_event_class k r.type_id ≡ false → event_records k (drop n rs) ≡ event_records k (drop (n + 1) rs)
  left_other n r e f = left_at n r e ∙ ap (λ b. cond b (r ∷ event_records k (drop (n + 1) rs)) (event_records k (drop (n + 1) rs))) f

  left_event : (n : ℕ) (r : Framed) → slice_get rs n ≡ Some r → is_event_class k r.type_id ≡ true → event_records k (drop n rs) ≡ r ∷ event_records k (drop (n + 1) rs)
  left_event n r e f = left_at n r e ∙ ap (λ b. cond b (r ∷ event_records k (drop (n + 1) rs)) (event_records k (drop (n + 1) rs))) f

  -- A record that is no event.
  pub read_other : (n : ℕ) (early : BTreeMap ℕ ℕ) (fields : List EventIndexEntry) (r : Framed) → slice_get rs n ≡ Some r → is_event_class k r.type_id ≡ false → ReadTo n early fields
      → ReadTo (n + 1) early fields
  read_other n early fields r e f p = record { pending = subst (λ left. Pending left early fields) (left_other n r e f) p.pending; before = before_other n early fields p.before }

  abbrev answer : Framed → Answer Value
  answer r = run (value_format k (inline r.type_id)) c (record_end r) r.body

  -- An event whose record has all its fields.
  pub read_event : (n : ℕ) (early later : BTreeMap ℕ ℕ) (fields : List EventIndexEntry) (r : Framed) (end refs_end : ℕ) → slice_get rs n ≡ Some r → is_event_class k r.type_id ≡ true
      → Ok end ≡ end_or_flaw (answer r) → EndIs early later n r end → ReadTo n early fields
      → ReadTo (n + 1) later (fields ++ record { «record» = n; refs_end = refs_end } ∷ [])
  read_event n early later fields r end refs_end e f s i p = record {
    pending = by_answer (answer r) refl s p.before (subst (λ left. Pending left early fields) (left_event n r e f) p.pending);
    before = before_event n end early later fields this r refl i p.before;
  }
    where
      rest : List Framed
      rest = event_records k (drop (n + 1) rs)

      this : EventIndexEntry
      this = record { «record» = n; refs_end = refs_end }

      by_answer : (a : Answer Value) → answer r ≡ a → Ok end ≡ end_or_flaw a → AreBefore n early fields → Pending (r ∷ rest) early fields → Pending rest later (fields ++ this ∷ [])
      by_answer (Err flaw) q s b p = cc
      by_answer (Ok g) q s b p =
          let t : end ≡ g.place = cc in
          let o : event_of c k r ≡ Some (event_with end r) = ap (event_by r) q ∙ ap (λ z. Some (event_with z r)) (sym t) in
          record {
            checked = sym (ap (λ a. fields_by a (events_checked c k all rest)) q) ∙ p.checked;
            listed =
                ap (λ z. z ++ map Some (filter_map (event_of c k) rest)) (map-append (indexed_event rs later) fields (this ∷ []))
                ∙ append_assoc (map (indexed_event rs later) fields) (indexed_event rs later this ∷ []) (map Some (filter_map (event_of c k) rest))
                ∙ ap (λ z. z ++ indexed_event rs later this ∷ map Some (filter_map (event_of c k) rest)) (same_events rs early later n end r i fields b.each)
                ∙ ap (λ z. map (indexed_event rs early) fields ++ z ∷ map Some (filter_map (event_of c k) rest)) (this_event rs early later n end r i this refl e)
                ∙ ap (λ z. map (indexed_event rs early) fields ++ map Some (cons_option z (filter_map (event_of c k) rest))) (sym o)
                ∙ p.listed;
          }

  each : AreRecords c rs → AllByRecursion (IsRecord c) all
  each t = filter_all (IsRecord c) (λ r. is_event_class k r.type_id) rs (tiles_each c 68 (length c) rs t)

  -- An event whose record doesn't have all its fields.
  pub read_stops : (n : ℕ) (early : BTreeMap ℕ ℕ) (fields : List EventIndexEntry) (r : Framed) (flaw : Flaw) → AreRecords c rs → slice_get rs n ≡ Some r → is_event_class k r.type_id ≡ true
      → Err flaw ≡ end_or_flaw (answer r) → ReadTo n early fields → IsRefusedEvents c k rs flaw
  read_stops n early fields r flaw t e f s p =
      subst (EventsTell c k all all) (by_answer (answer r) refl s (subst (λ left. Pending left early fields) (left_event n r e f) p.pending)) (events_tell c k all all (each t))
    where
      rest : List Framed
      rest = event_records k (drop (n + 1) rs)

      by_answer : (a : Answer Value) → answer r ≡ a → Err flaw ≡ end_or_flaw a → Pending (r ∷ rest) early fields → events_checked c k all all ≡ Err flaw
      by_answer (Ok g) q s p = cc
      by_answer (Err other) q s p = let h : other ≡ flaw = cc in sym p.checked ∙ (ap (λ a. fields_by a (events_checked c k all rest)) q ∙ ap (λ z. Err z) h)

  -- All are read.
  pub read_all : (n : ℕ) (early : BTreeMap ℕ ℕ) (fields : List EventIndexEntry) → AreRecords c rs → length rs ≤ n → ReadTo n early fields → AreFields c k rs fields early
  read_all n early fields t h p =
      let q : Pending [] early fields = subst (λ left. Pending left early fields) (ap (event_records k) (drop_past rs n h)) p.pending in
      record {
        valid = All-from_recursion (HasFields c k) all (subst (EventsTell c k all all) (sym q.checked) (events_tell c k all all (each t)));
        listed = sym (append-nil (map (indexed_event rs early) fields)) ∙ q.listed;
      }
