-- Keys that are taken one after another, and where those of one event are spelled.
use Rattle.std.specs.Prelude.{◌≡◌, ◌<◌, ◌≤◌, ◌+◌, ℕ, false, List, [], ◌∷◌, ◌++◌, length, map, slice_get, Option, None, Some, Result, Ok, Err, IfOk, IfSome}
use Rattle.std.specs.List.{AllByRecursion, cons_option, filter_map}
use Rattle.std.specs.Option.{option_map, option_map_or}
use Rattle.std.specs.BTreeMap.{BTreeMap}
use Rattle.std.proofs.Common.{ap, refl, sym, ◌∙◌, subst, append_assoc, Bor}
use Rattle.std.proofs.lemmas.List.{append-nil}
use Rattle.jfr_base.specs.declared.flaw.Flaw.{Flaw}
use Rattle.jfr_frame.specs.declared.framed.Framed.{Framed}
use Rattle.jfr_layout.specs.Classes.{Classes, Sound}
use Rattle.jfr_layout.specs.declared.shape.Shape.{Shape}
use Rattle.jfr_value.specs.declared.leaf.KeyAt.{KeyAt}
use Rattle.jfr_value.specs.Leaves.{LeafAt, key_of_leaf, key_start, keys_in, leaf_key, leaf_target, leaves}
use Rattle.jfr_value.specs.Nodes.{EndsAt, IsNode, NodeAt, node_at, targets}
use Rattle.jfr_value.specs.Values.{Value}
use Rattle.jfr_value.specs.Visits.{TakesAll}
use Rattle.jfr_value.proofs.TargetLaws.{refers_parts}
use Rattle.jfr_pool.specs.declared.entry.EntryAt.{EntryAt}
use Rattle.jfr_pool.specs.Entries.{inline}
use Rattle.jfr_chunk.specs.declared.event_index.EventIndexEntry.{EventIndexEntry}
use Rattle.jfr_chunk.specs.declared.key_places.KeyPlace.{KeyPlace}
use Rattle.jfr_chunk.specs.declared.key_places.KeyPlaces.{KeyPlaces}
use Rattle.jfr_chunk.specs.declared.refs.ConstantRefs.{ConstantRefs}
use Rattle.jfr_chunk.specs.KeyPlaces.{AreKeyPlaces, IsShortZero, NotesKeys, number_of_key, place_of_key}
use Rattle.jfr_chunk.specs.Refs.{TakesKey, TakesRefs}
use Rattle.jfr_chunk.specs.Parts.{EventAt, Parts, events_of}
use Rattle.jfr_chunk.specs.Indexed.{AreKeysIn, indexed_event, indexed_keys, indexed_places}
use Rattle.jfr_chunk.proofs.AllLaws.{all_append, all_get}
use Rattle.jfr_chunk.proofs.EndLaws.{EndIs, same_event, this_event}
use Rattle.jfr_chunk.proofs.RefLaws.{event_refs}
use Rattle.jfr_chunk.proofs.SeenLaws.{each_some}

-- A key's class and value.
abbrev pair_of : KeyAt → ℕ × ℕ
pair_of key = (key.class, key.key)

-- A node refers to what its keys are.
leaf_pairs : (ls : List LeafAt) → map pair_of (filter_map key_of_leaf ls) ≡ filter_map leaf_target ls
leaf_pairs [] = refl
leaf_pairs (l ∷ ls) = by_key (leaf_key l.kind l.spelled) ∙ ap (cons_option (leaf_target l)) (leaf_pairs ls)
  where
    by_key : (o : Option ℕ) → map pair_of (cons_option (option_map (λ key. record { class = l.class; key = key; at = key_start l.kind l.at; end = l.at + length l.spelled }) o)
        (filter_map key_of_leaf ls)) ≡ cons_option (option_map (λ key. (l.class, key)) o) (map pair_of (filter_map key_of_leaf ls))
    by_key None = refl
    by_key (Some key) = refl

key_pairs : (k : Classes) (c : List ℕ) (n : NodeAt) (v : Value) → Sound k → IsNode k c n v → map pair_of (keys_in k c n) ≡ targets k c n
key_pairs k c n v sound i = leaf_pairs (leaves k c n) ∙ (refers_parts k sound c n v i).leaves_too

-- Keys that are taken are taken as targets.
takes_targets : (es : List EntryAt) (keys : List KeyAt) (old new : ConstantRefs) → TakesAll (TakesKey es) keys old new → TakesAll (λ t a b. TakesRefs es (t ∷ []) a b) (map pair_of keys) old new
takes_targets es [] old new h = h
takes_targets es (key ∷ keys) old new h = let x = h.1 in (h.0, x.target, takes_targets es keys h.0 new h.2)

-- And their places are noted.
abbrev IsOther : List EntryAt → KeyAt → Type 0
IsOther es key = number_of_key es key ≡ None → IsShortZero key

notes_then : (es : List EntryAt) (key : KeyAt) (keys : List KeyAt) (a b c : KeyPlaces) → NotesKeys es (key ∷ []) a b → NotesKeys es keys b c → NotesKeys es (key ∷ keys) a c
notes_then es key keys a b c p q = record {
  added = record {
    lacked_none = λ h. p.added.lacked_none (q.added.lacked_none h);
    appended = λ h.
        q.added.appended h
        ∙ (ap (λ z. z ++ filter_map (place_of_key es) keys) (p.added.appended (q.added.lacked_none h))
        ∙ (append_assoc a.places.items (cons_option (place_of_key es key) []) (filter_map (place_of_key es) keys)
        ∙ ap (λ z. a.places.items ++ z) (by_place (place_of_key es key))));
  };
  others = λ h. let o = p.others (q.added.lacked_none h) in (o.0, q.others h);
}
  where
    by_place : (o : Option KeyPlace) → cons_option o [] ++ filter_map (place_of_key es) keys ≡ cons_option o (filter_map (place_of_key es) keys)
    by_place None = refl
    by_place (Some place) = refl

takes_keys : (es : List EntryAt) (keys : List KeyAt) (old new : ConstantRefs) → TakesAll (TakesKey es) keys old new → NotesKeys es keys old.keys new.keys
takes_keys es [] old new h = subst (λ (z : ConstantRefs). NotesKeys es [] old.keys z.keys) h (record {
  added = record { lacked_none = λ h. h; appended = λ h. sym (append-nil old.keys.places.items) };
  others = λ h. tt;
})
takes_keys es (key ∷ keys) old new h = let x = h.1 in notes_then es key keys old.keys h.0.keys new.keys x.place (takes_keys es keys h.0 new h.2)

-- The targets and the keys that are taken of a value.
module _ (es : List EntryAt) (k : Classes) (c : List ℕ) (s : Shape) (at limit : ℕ) (old new : ConstantRefs) where
  pub all_targets : Sound k → (r : Result ℕ Flaw) → IfOk r (λ to. EndsAt k c s at to × (to ≤ limit)) → IfOk r (λ to. TakesAll (TakesKey es) (keys_in k c (node_at s at to)) old new)
      → IfOk r (λ to. TakesAll (λ t a b. TakesRefs es (t ∷ []) a b) (targets k c (node_at s at to)) old new)
  all_targets sound (Ok to) e h =
      subst (λ z. TakesAll (λ t a b. TakesRefs es (t ∷ []) a b) z old new) (key_pairs k c (node_at s at to) e.0.0 sound e.0.1)
      (takes_targets es (keys_in k c (node_at s at to)) old new h)
  all_targets sound (Err flaw) e h = h

  pub all_keys : (r : Result ℕ Flaw) → IfOk r (λ to. TakesAll (TakesKey es) (keys_in k c (node_at s at to)) old new)
      → IfOk r (λ to. NotesKeys es (keys_in k c (node_at s at to)) old.keys new.keys)
  all_keys (Ok to) h = takes_keys es (keys_in k c (node_at s at to)) old new h
  all_keys (Err flaw) h = h

-- No keys are in no events.
pub keys_none : (es : List EntryAt) (k : Classes) (c : List ℕ) (rs : List Framed) (early : BTreeMap ℕ ℕ) (fields : List EventIndexEntry) (keys : KeyPlaces)
    → fields ≡ [] → keys.places.items ≡ [] → AreKeysIn es k c rs early fields keys
keys_none es k c rs early fields keys e p = subst (λ z. AreKeysIn es k c rs early z keys) (sym e) (record { places = λ h. p; others = λ h. tt })

-- The fields of an event are read, and the places of its keys are noted.
pub event_keys : (es : List EntryAt) (k : Classes) (c : List ℕ) (rs : List Framed) (early later : BTreeMap ℕ ℕ) (n end refs_end : ℕ) (r : Framed)
    (fields : List EventIndexEntry) (old new : KeyPlaces) → slice_get rs n ≡ Some r → EndIs early later n r end → AllByRecursion (λ (f : EventIndexEntry). f.record < n) fields
    → NotesKeys es (keys_in k c (node_at (inline r.type_id) r.body end)) old new → (new.lacks ≡ false → length new.places.items ≡ refs_end) → AreKeysIn es k c rs early fields old
    → AreKeysIn es k c rs later (fields ++ record { «record» = n; refs_end = refs_end } ∷ []) new
event_keys es k c rs early later n end refs_end r fields old new e i before x y a = record {
  places = λ h.
      event_refs (λ n. filter_map (place_of_key es) (keys_in k c n)) rs early later n end refs_end r fields old.places.items new.places.items e i before (x.added.appended h) (sym (y h))
      (a.places (x.added.lacked_none h));
  others = λ h. all_append (IsOther_at later) fields (f ∷ []) (same fields before (a.others (x.added.lacked_none h))) (here (x.others h), tt);
}
  where
    f : EventIndexEntry
    f = record { «record» = n; refs_end = refs_end }

    IsOther_at : BTreeMap ℕ ℕ → EventIndexEntry → Type 0
    IsOther_at ends g = AllByRecursion (IsOther es) (indexed_keys k c rs ends g)

    keys : Option EventAt → List KeyAt
    keys o = option_map_or (λ (e : EventAt). keys_in k c e.node) o []

    same : (fs : List EventIndexEntry) → AllByRecursion (λ (f : EventIndexEntry). f.record < n) fs → AllByRecursion (IsOther_at early) fs → AllByRecursion (IsOther_at later) fs
    same [] b o = tt
    same (g ∷ fs) b o = (subst (AllByRecursion (IsOther es)) (sym (ap keys (same_event rs early later n end r i g b.0))) o.0, same fs b.1 o.1)

    here : AllByRecursion (IsOther es) (keys_in k c (node_at (inline r.type_id) r.body end)) → IsOther_at later f
    here o = subst (AllByRecursion (IsOther es)) (sym (ap keys (this_event rs early later n end r i f refl e))) o

-- The places that the index has for an event are those of the event.
pub event_places : (p : Parts) (early : BTreeMap ℕ ℕ) (fs : List EventIndexEntry) (n : ℕ) (f : EventIndexEntry) (keys : KeyPlaces) (o : Option (Bor (List KeyPlace)))
    → map (indexed_event p.records early) fs ≡ map Some (events_of p) → slice_get fs n ≡ Some f
    → AreKeysIn p.entries p.classes p.bytes p.records early fs keys → keys.lacks ≡ false
    → option_map (λ places. places.now) o ≡ Some (indexed_places p.entries p.classes p.bytes p.records early f)
    → IfSome o (λ places. IfSome (slice_get (events_of p) n) (λ e. AreKeyPlaces p e.node places.now))
event_places p early fs n f keys None e g a h q = tt
event_places p early fs n f keys (Some got) e g a h q =
    let m = each_some (indexed_event p.records early) fs (events_of p) n f e g in
    let l : got.now ≡ indexed_places p.entries p.classes p.bytes p.records early f = cc in
    let placed = λ (o : Option EventAt). option_map_or (λ (e : EventAt). filter_map (place_of_key p.entries) (keys_in p.classes p.bytes e.node)) o [] in
    let spelled = λ (o : Option EventAt). option_map_or (λ (e : EventAt). keys_in p.classes p.bytes e.node) o [] in
    let others = all_get (λ g. AllByRecursion (IsOther p.entries) (indexed_keys p.classes p.bytes p.records early g)) fs n f (a.others h) g in
    subst (λ o. IfSome o (λ (e : EventAt). AreKeyPlaces p e.node got.now)) (sym m.2)
    (record { listed = l ∙ ap placed m.1; others = subst (AllByRecursion (IsOther p.entries)) (ap spelled m.1) others })
