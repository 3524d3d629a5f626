-- The classes of events, by the entries of the index.
use Rattle.std.specs.Prelude.{◌≡◌, ℕ, zero, suc, ◌<◌, ◌==◌, Bool, true, false, ◌||◌, List, [], ◌∷◌, ◌++◌, length, map, replicate, slice_get, slice_index_or, slice_set, Option, Some, None, option_map, ◌&&◌}
use Rattle.std.specs.List.{list_all}
use Rattle.std.specs.Option.{option_map_or}
use Rattle.std.specs.BTreeMap.{BTreeMap}
use Rattle.std.proofs.Common.{ap, arith, refl, sym, ◌∙◌}
use Rattle.std.proofs.lemmas.Bool.{eqb-true}
use Rattle.std.proofs.lemmas.List.Folds.{list_any-append}
use Rattle.jfr_meta.specs.Stays.{is_in}
use Rattle.jfr_meta.specs.declared.ids.Ids.{Ids}
use Rattle.jfr_frame.specs.declared.framed.Framed.{Framed}
use Rattle.jfr_chunk.specs.declared.event_index.EventIndexEntry.{EventIndexEntry}
use Rattle.jfr_chunk.specs.Parts.{EventAt}
use Rattle.jfr_chunk.specs.Metas.{used_by}
use Rattle.jfr_chunk.specs.Used.{may_hold}
use Rattle.jfr_chunk.specs.Indexed.{indexed_event, event_with, end_in, used_in}

or_false : (b : Bool) → (b || false) ≡ b
or_false true = refl
or_false false = refl

-- One event more uses its class.
pub used_next : (rs : List Framed) (fs new : List EventIndexEntry) (n to id : ℕ) (r : Framed) → slice_get rs n ≡ Some r → new ≡ fs ++ record { «record» = n; refs_end = to } ∷ []
    → (old now : Bool) → old ≡ used_in rs fs id → now ≡ (old || (r.type_id == id)) → now ≡ used_in rs new id
used_next rs fs new n to id r e p old now h g =
    let a : EventIndexEntry → Bool = λ f. option_map_or (λ x. x.type_id == id) (slice_get rs f.record) false in
    let last : option_map_or (λ (x : Framed). x.type_id == id) (slice_get rs n) false ≡ (r.type_id == id) = ap (λ o. option_map_or (λ (x : Framed). x.type_id == id) o false) e in
    let more : used_in rs (fs ++ record { «record» = n; refs_end = to } ∷ []) id ≡ (used_in rs fs id || used_in rs (record { «record» = n; refs_end = to } ∷ []) id) =
    list_any-append a fs (record { «record» = n; refs_end = to } ∷ []) in
    g ∙ ((λ i. h i || sym last i) ∙ (ap (λ z. used_in rs fs id || z) (sym (or_false (option_map_or (λ (x : Framed). x.type_id == id) (slice_get rs n) false)))
    ∙ (sym more ∙ ap (λ z. used_in rs z id) (sym p))))

heads : {C : Type 0} (c d : C) (cs ds : List C) → (c ∷ cs) ≡ (d ∷ ds) → c ≡ d
heads c d cs ds e = cc

tails : {C : Type 0} (c d : C) (cs ds : List C) → (c ∷ cs) ≡ (d ∷ ds) → cs ≡ ds
tails c d cs ds e = cc

-- The classes of the entries are those of the events.
pub used_events : (rs : List Framed) (early : BTreeMap ℕ ℕ) (fs : List EventIndexEntry) (es : List EventAt) (id : ℕ) → map (indexed_event rs early) fs ≡ map Some es → used_in rs fs id ≡ used_by es id
used_events rs early [] [] id e = refl
used_events rs early [] (x ∷ es) id e = cc
used_events rs early (f ∷ fs) [] id e = cc
used_events rs early (f ∷ fs) (x ∷ es) id e =
    let h : indexed_event rs early f ≡ Some x = heads (indexed_event rs early f) (Some x) (map (indexed_event rs early) fs) (map Some es) e in
    let t : map (indexed_event rs early) fs ≡ map Some es = tails (indexed_event rs early f) (Some x) (map (indexed_event rs early) fs) (map Some es) e in
    (λ i. own (slice_get rs f.record) h i || used_events rs early fs es id t i)
  where
    own : (o : Option Framed) → option_map (λ r. event_with (end_in early f.record r) r) o ≡ Some x → option_map_or (λ r. r.type_id == id) o false ≡ (x.record_of.type_id == id)
    own None h = cc
    own (Some r) h = let k : event_with (end_in early f.record r) r ≡ x = cc in ap (λ (y : EventAt). y.record_of.type_id == id) k

-- An empty cache holds only 0.
pub none_held : (ids : Ids) (n : ℕ) → list_all (may_hold ids) (replicate n 0) ≡ true
none_held ids zero = refl
none_held ids (suc n) = none_held ids n

-- An id in the cache that isn't 0 is in the set.
pub held_in : (ids : Ids) (recent : List ℕ) (place other id : ℕ) → list_all (may_hold ids) recent ≡ true → place < length recent → slice_index_or recent place other ≡ id → (id ≡ 0 → ⊥)
    → is_in ids id ≡ true
held_in ids [] place other id h k e n = absurd (omega arith)
held_in ids (x ∷ recent) zero other id h k e n = by_test (x == 0) refl (is_in ids x) refl h
  where
    by_test : (s : Bool) → (x == 0) ≡ s → (t : Bool) → is_in ids x ≡ t → ((s || t) && list_all (may_hold ids) recent) ≡ true → is_in ids id ≡ true
    by_test true f t g h = absurd (n (sym e ∙ eqb-true x 0 f))
    by_test false f true g h = ap (is_in ids) (sym e) ∙ g
    by_test false f false g h = cc
held_in ids (x ∷ recent) (suc place) other id h k e n = held_in ids recent place other id (rest (may_hold ids x) (list_all (may_hold ids) recent) h) (omega arith) e n
  where
    rest : (a b : Bool) → (a && b) ≡ true → b ≡ true
    rest true b h = h
    rest false b h = cc

-- An id that is added may be held in any slot.
pub held_more : (old new : Ids) (recent : List ℕ) (place id : ℕ) → list_all (may_hold old) recent ≡ true → ((other : ℕ) → is_in new other ≡ (is_in old other || (id == other)))
    → list_all (may_hold new) (slice_set recent place id) ≡ true
held_more old new recent place id r h = set recent place (all recent r)
  where
    rest : (a b : Bool) → (a && b) ≡ true → b ≡ true
    rest true b h = h
    rest false b h = cc

    first : (a b : Bool) → (a && b) ≡ true → a ≡ true
    first true b h = refl
    first false b h = h

    both : (a b : Bool) → a ≡ true → b ≡ true → (a && b) ≡ true
    both true b e f = f
    both false b e f = cc

    own : may_hold new id ≡ true
    own = by_test (id == 0) (is_in old id)
      where
        by_in : (z : Bool) → (z || (id == id)) ≡ true
        by_in true = refl
        by_in false = grind arith

        by_test : (s t : Bool) → (s || is_in new id) ≡ true
        by_test true t = refl
        by_test false t = h id ∙ by_in (is_in old id)

    one : (x : ℕ) → may_hold old x ≡ true → may_hold new x ≡ true
    one x e = by_tests (x == 0) (is_in old x) e ∙ refl
      where
        by_tests : (s t : Bool) → (s || is_in old x) ≡ true → (s || is_in new x) ≡ true
        by_tests true t e = refl
        by_tests false t e = h x ∙ ap (λ b. b || (id == x)) e

    all : (xs : List ℕ) → list_all (may_hold old) xs ≡ true → list_all (may_hold new) xs ≡ true
    all [] r = refl
    all (x ∷ xs) r = both (may_hold new x) (list_all (may_hold new) xs) (one x (first (may_hold old x) (list_all (may_hold old) xs) r)) (all xs (rest (may_hold old x) (list_all (may_hold old) xs) r))

    set : (xs : List ℕ) (place : ℕ) → list_all (may_hold new) xs ≡ true → list_all (may_hold new) (slice_set xs place id) ≡ true
    set [] place r = refl
    set (x ∷ xs) zero r = both (may_hold new id) (list_all (may_hold new) xs) own (rest (may_hold new x) (list_all (may_hold new) xs) r)
    set (x ∷ xs) (suc place) r = both (may_hold new x) (list_all (may_hold new) (slice_set xs place id)) (first (may_hold new x) (list_all (may_hold new) xs) r)
        (set xs place (rest (may_hold new x) (list_all (may_hold new) xs) r))
