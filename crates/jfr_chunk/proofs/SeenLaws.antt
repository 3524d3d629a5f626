-- The events that a chunk keeps.
use Rattle.std.specs.Prelude.{◌≡◌, ℕ, zero, suc, List, [], ◌∷◌, ◌++◌, length, map, slice_get, Option, Some, None, option_and_then, option_map}
use Rattle.std.specs.Option.{option_map_or}
use Rattle.std.specs.BTreeMap.{BTreeMap}
use Rattle.std.proofs.Common.{ap, refl, sym, ◌∙◌}
use Rattle.jfr_frame.specs.declared.framed.Framed.{Framed}
use Rattle.jfr_value.specs.Nodes.{targets}
use Rattle.jfr_pool.specs.Entries.{number_in_force}
use Rattle.jfr_chunk.specs.declared.event_index.EventIndexEntry.{EventIndexEntry}
use Rattle.jfr_chunk.specs.Parts.{EventAt, Parts, events_of}
use Rattle.jfr_chunk.specs.Reach.{all_targets, node_entries, nodes_of, roots}
use Rattle.jfr_chunk.specs.Indexed.{AreRefs, indexed_refs, end_in, indexed_event, event_with}
use Rattle.jfr_worklist.proofs.Members.{those_append}

-- A function whose values at one list are the members of another.
pub each_length : {A B : Type 0} (f : A → Option B) (xs : List A) (ys : List B) → map f xs ≡ map Some ys → length xs ≡ length ys
each_length f [] [] e = refl
each_length f [] (y ∷ ys) e = cc
each_length f (x ∷ xs) [] e = cc
each_length f (x ∷ xs) (y ∷ ys) e = ap suc (each_length f xs ys (tails (f x) (Some y) (map f xs) (map Some ys) e))
  where
    tails : {C : Type 0} (c d : C) (cs ds : List C) → (c ∷ cs) ≡ (d ∷ ds) → cs ≡ ds
    tails c d cs ds e = cc

pub each_get : {A B : Type 0} (f : A → Option B) (xs : List A) (ys : List B) (n : ℕ) → map f xs ≡ map Some ys → option_and_then f (slice_get xs n) ≡ slice_get ys n
each_get f [] [] n e = refl
each_get f [] (y ∷ ys) n e = cc
each_get f (x ∷ xs) [] n e = cc
each_get f (x ∷ xs) (y ∷ ys) zero e = heads (f x) (Some y) (map f xs) (map Some ys) e
  where
    heads : {C : Type 0} (c d : C) (cs ds : List C) → (c ∷ cs) ≡ (d ∷ ds) → c ≡ d
    heads c d cs ds e = cc
each_get f (x ∷ xs) (y ∷ ys) (suc n) e = each_get f xs ys n (tails (f x) (Some y) (map f xs) (map Some ys) e)
  where
    tails : {C : Type 0} (c d : C) (cs ds : List C) → (c ∷ cs) ≡ (d ∷ ds) → cs ≡ ds
    tails c d cs ds e = cc

-- A member of the one has a value, which is the other's member.
pub each_some : {A B : Type 0} (f : A → Option B) (xs : List A) (ys : List B) (n : ℕ) (x : A) → map f xs ≡ map Some ys → slice_get xs n ≡ Some x → (y : B) × (f x ≡ Some y) × (slice_get ys n ≡ Some y)
each_some f [] ys n x e g = cc
each_some f (z ∷ xs) [] n x e g = cc
each_some f (z ∷ xs) (y ∷ ys) zero x e g = (y, (let h : z ≡ x = cc in ap f (sym h) ∙ heads (f z) (Some y) (map f xs) (map Some ys) e), refl)
  where
    heads : {C : Type 0} (c d : C) (cs ds : List C) → (c ∷ cs) ≡ (d ∷ ds) → c ≡ d
    heads c d cs ds e = cc
each_some f (z ∷ xs) (y ∷ ys) (suc n) x e g = each_some f xs ys n x (tails (f z) (Some y) (map f xs) (map Some ys) e) g
  where
    tails : {C : Type 0} (c d : C) (cs ds : List C) → (c ∷ cs) ≡ (d ∷ ds) → cs ≡ ds
    tails c d cs ds e = cc

-- The event of an index entry.
pub event_found : (p : Parts) (early : BTreeMap ℕ ℕ) (fs : List EventIndexEntry) (n : ℕ) (f : EventIndexEntry) (r : Framed) → map (indexed_event p.records early) fs ≡ map Some (events_of p)
    → slice_get fs n ≡ Some f → slice_get p.records f.record ≡ Some r
    → Some (event_with (end_in early f.record r) r) ≡ slice_get (events_of p) n
event_found p early fs n f r e g h = sym (ap (λ o. option_and_then (indexed_event p.records early) o) g ∙ by_record (slice_get p.records f.record) h)
    ∙ each_get (indexed_event p.records early) fs (events_of p) n e
  where
    by_record : (o : Option Framed) → o ≡ Some r → option_and_then (λ x. Some (event_with (end_in early f.record x) x)) o ≡ Some (event_with (end_in early f.record r) r)
    by_record o q = ap (λ z. option_and_then (λ x. Some (event_with (end_in early f.record x) x)) z) q

-- Or there is none.
pub event_missed : (p : Parts) (early : BTreeMap ℕ ℕ) (fs : List EventIndexEntry) (n : ℕ) (f : EventIndexEntry) → map (indexed_event p.records early) fs ≡ map Some (events_of p)
    → slice_get fs n ≡ Some f → slice_get p.records f.record ≡ None
    → None ≡ slice_get (events_of p) n
event_missed p early fs n f e g h = sym (ap (λ o. option_and_then (indexed_event p.records early) o) g ∙ by_record (slice_get p.records f.record) h)
    ∙ each_get (indexed_event p.records early) fs (events_of p) n e
  where
    by_record : (o : Option Framed) → o ≡ None → option_and_then (λ x. Some (event_with (end_in early f.record x) x)) o ≡ None
    by_record o q = ap (λ z. option_and_then (λ x. Some (event_with (end_in early f.record x) x)) z) q

-- What holds of the record of an event is found at the record that the index names.
pub event_framed : {X : Type 0} (h : Framed → X) (p : Parts) (early : BTreeMap ℕ ℕ) (fs : List EventIndexEntry) (n : ℕ) (f : EventIndexEntry)
    → map (indexed_event p.records early) fs ≡ map Some (events_of p) → slice_get fs n ≡ Some f
    → option_map h (slice_get p.records f.record) ≡ option_map (λ (e : EventAt). h e.record_of) (slice_get (events_of p) n)
event_framed h p early fs n f e g = by_record (slice_get p.records f.record) ∙ ap (option_map (λ (e : EventAt). h e.record_of))
    (sym (ap (option_and_then (indexed_event p.records early)) g) ∙ each_get (indexed_event p.records early) fs (events_of p) n e)
  where
    by_record : (o : Option Framed) → option_map h o ≡ option_map (λ (e : EventAt). h e.record_of) (option_map (λ r. event_with (end_in early f.record r) r) o)
    by_record None = refl
    by_record (Some r) = refl

-- The numbers of an index entry are those of its event.
pub event_due : (p : Parts) (early : BTreeMap ℕ ℕ) (fs : List EventIndexEntry) (n : ℕ) (f : EventIndexEntry) → map (indexed_event p.records early) fs ≡ map Some (events_of p) → slice_get fs n ≡ Some f
    → Some (indexed_refs p.entries p.classes p.bytes p.records early f) ≡ option_map (λ (e : EventAt). node_entries p.entries p.classes p.bytes e.node) (slice_get (events_of p) n)
event_due p early fs n f e g =
    let m = each_some (indexed_event p.records early) fs (events_of p) n f e g in
    ap (λ o. Some (option_map_or (λ (e : EventAt). node_entries p.entries p.classes p.bytes e.node) o [])) m.1
    ∙ sym (ap (option_map (λ (e : EventAt). node_entries p.entries p.classes p.bytes e.node)) m.2)

-- And all that is noted is what the events refer to.
pub all_due : (p : Parts) (early : BTreeMap ℕ ℕ) (from : ℕ) (fs : List EventIndexEntry) (es : List EventAt) (numbers : List ℕ) → map (indexed_event p.records early) fs ≡ map Some es
    → AreRefs (indexed_refs p.entries p.classes p.bytes p.records early) from fs numbers → numbers ≡ roots p es
all_due p early from [] [] numbers e a = a
all_due p early from [] (x ∷ es) numbers e a = cc
all_due p early from (f ∷ fs) [] numbers e a = cc
all_due p early from (f ∷ fs) (x ∷ es) numbers e a =
    let h : indexed_event p.records early f ≡ Some x = cc in
    let t : map (indexed_event p.records early) fs ≡ map Some es = cc in
    let d : indexed_refs p.entries p.classes p.bytes p.records early f ≡ node_entries p.entries p.classes p.bytes x.node =
    ap (λ o. option_map_or (λ (e : EventAt). node_entries p.entries p.classes p.bytes e.node) o []) h in
    let r : a.0 ≡ roots p es = all_due p early f.refs_end fs es a.0 t a.3 in
    a.1 ∙ (ap (λ z. z ++ a.0) d ∙ (ap (λ z. node_entries p.entries p.classes p.bytes x.node ++ z) r
    ∙ sym (those_append (number_in_force p.entries) (targets p.classes p.bytes x.node) (all_targets p (nodes_of es)))))

-- The record of an index entry is that of its event.
pub event_recorded : (p : Parts) (early : BTreeMap ℕ ℕ) (fs : List EventIndexEntry) (n : ℕ) (f : EventIndexEntry) → map (indexed_event p.records early) fs ≡ map Some (events_of p)
    → slice_get fs n ≡ Some f
    → Some (slice_get p.records f.record) ≡ option_map (λ (e : EventAt). Some e.record_of) (slice_get (events_of p) n)
event_recorded p early fs n f e g =
    let m = each_some (indexed_event p.records early) fs (events_of p) n f e g in
    ap (λ o. Some o) (by_record m.0 (slice_get p.records f.record) m.1) ∙ ap (option_map (λ (e : EventAt). Some e.record_of)) (sym m.2)
  where
    by_record : (x : EventAt) (o : Option Framed) → option_map (λ r. event_with (end_in early f.record r) r) o ≡ Some x → o ≡ Some x.record_of
    by_record x None q = cc
    by_record x (Some r) q = let h : event_with (end_in early f.record r) r ≡ x = cc in ap (λ (z : EventAt). Some z.record_of) h
