-- The records of a chunk, counted: each event, chained checkpoint and metadata record occurs once, and the
-- others are inert.
use Rattle.std.specs.Prelude.{◌≡◌, ℕ, suc, ◌+◌, ◌<◌, ◌≤◌, Bool, true, false, not, ◌||◌, ◌&&◌, ◌==◌, nat_lt, List, [], ◌∷◌, length, filter, map, reverse, Some, cond, ◌⊎◌}
use Rattle.std.specs.List.{AllByRecursion, filter_map, cons_option, list_any}
use Rattle.std.specs.Option.{option_map_or}
use Rattle.std.specs.BTreeMap.{BTreeMap}
use Rattle.std.proofs.Common.{ap, arith, refl, sym, ◌∙◌, inl, inr}
use Rattle.std.proofs.lemmas.List.{length-reverse}
use Rattle.std.proofs.lemmas.List.Elements.{recursion_from_All}
use Rattle.std.proofs.lemmas.Map.Views.{exact_unsigned_eq}
use Rattle.jfr_base.proofs.OneAnswer.{reads_computed}
use Rattle.jfr_layout.specs.Classes.{Classes, find_class, extends_event, is_event_class}
use Rattle.jfr_frame.specs.declared.framed.Framed.{Framed}
use Rattle.jfr_frame.specs.Records.{IsRecord, Rising, record_end}
use Rattle.jfr_frame.proofs.RecordLaws.{record_one, rising_of}
use Rattle.jfr_value.specs.Reading.{value_format}
use Rattle.jfr_pool.specs.declared.link.Link.{Link}
use Rattle.jfr_pool.specs.Chains.{IsLink, IsChain}
use Rattle.jfr_pool.specs.Entries.{inline}
use Rattle.jfr_chunk.specs.Parts.{Parts, HasFields, event_by, event_of, event_records, events_of, is_inert, AreParts, metadata_at, pools_at}
use Rattle.jfr_chunk.specs.declared.event_index.EventIndexEntry.{EventIndexEntry}
use Rattle.jfr_chunk.specs.Indexed.{indexed_event}
use Rattle.jfr_chunk.proofs.SeenLaws.{each_length}
use Rattle.jfr_worklist.specs.Members.{In}
use Rattle.jfr_worklist.proofs.Members.{contains_in}
use Rattle.jfr_chunk.proofs.AllLaws.{all_in, filter_all}
use Rattle.jfr_chunk.proofs.HasNodesLaws.{tiles_each, links_each}
use Rattle.jfr_chunk.proofs.TestLaws.{is_eq}

-- How many pass a test.
abbrev count : {X : Type 0} → (X → Bool) → List X → ℕ
count t xs = length (filter t xs)

count_none : {X : Type 0} (t : X → Bool) (xs : List X) → ((x : X) → In xs x → t x ≡ true → ⊥) → count t xs ≡ 0
count_none t [] h = refl
count_none {X = X} t (x ∷ xs) h = by_test (t x) refl (count_none t xs (λ y i. h y (inr i)))
  where
    by_test : (b : Bool) → t x ≡ b → count t xs ≡ 0 → length (cond b (x ∷ filter t xs) (filter t xs)) ≡ 0
    by_test true e f = absurd (h x (inl refl) e)
    by_test false e f = f

count_not : {X : Type 0} (t : X → Bool) (xs : List X) → count (λ x. not (t x)) xs + count t xs ≡ length xs
count_not t [] = refl
count_not {X = X} t (x ∷ xs) = by_test (t x) (count_not t xs)
  where
    by_test : (b : Bool) → count (λ y. not (t y)) xs + count t xs ≡ length xs
        → length (cond (not b) (x ∷ filter (λ y. not (t y)) xs) (filter (λ y. not (t y)) xs)) + length (cond b (x ∷ filter t xs) (filter t xs)) ≡ suc (length xs)
    by_test true f = omega (arith, f)
    by_test false f = omega (arith, f)

count_or : {X : Type 0} (s t : X → Bool) (xs : List X) → ((x : X) → In xs x → s x ≡ true → t x ≡ true → ⊥) → count (λ x. s x || t x) xs ≡ count s xs + count t xs
count_or s t [] h = refl
count_or {X = X} s t (x ∷ xs) h = by_tests (s x) (t x) refl refl (count_or s t xs (λ y i. h y (inr i)))
  where
    by_tests : (a b : Bool) → s x ≡ a → t x ≡ b → count (λ y. s y || t y) xs ≡ count s xs + count t xs
        → length (cond (a || b) (x ∷ filter (λ y. s y || t y) xs) (filter (λ y. s y || t y) xs)) ≡ length (cond a (x ∷ filter s xs) (filter s xs)) + length (cond b (x ∷ filter t xs) (filter t xs))
    by_tests true true e f g = absurd (h x (inl refl) e f)
    by_tests true false e f g = omega (arith, g)
    by_tests false true e f g = omega (arith, g)
    by_tests false false e f g = omega (arith, g)

least_in : (p : ℕ) (rs : List Framed) (r : Framed) → Rising p rs → In rs r → p ≤ r.at
least_in p [] r h i = absurd i
least_in p (x ∷ rs) r h (inl e) = let q : p ≤ x.at = h.0 in omega (arith, ap (λ (z : Framed). z.at) e)
least_in p (x ∷ rs) r h (inr i) = let q : p ≤ x.at = h.0 in omega (arith, least_in (x.at + 1) rs r h.1 i)

-- One record starts at a place.
module _ (t : Framed → Bool) (at : ℕ) (only : (r : Framed) → t r ≡ true → r.at ≡ at) (each : (r : Framed) → r.at ≡ at → t r ≡ true) where
  count_place : (p : ℕ) (rs : List Framed) (r : Framed) → Rising p rs → In rs r → r.at ≡ at → count t rs ≡ 1
  count_place p [] r h i e = absurd i
  count_place p (x ∷ rs) r h i e = by_test (t x) refl i (λ j. count_place (x.at + 1) rs r h.1 j e)
    where
      later : x.at ≡ at → (y : Framed) → In rs y → t y ≡ true → ⊥
      later f y j g = let q : x.at + 1 ≤ y.at = least_in (x.at + 1) rs y h.1 j in let w : y.at ≡ at = only y g in omega (arith, f)

      here : t x ≡ false → (x ≡ r) → ⊥
      here f g = let w : t x ≡ true = each x (ap (λ (z : Framed). z.at) g ∙ e) in clash (t x) w f
        where
          clash : (b : Bool) → b ≡ true → b ≡ false → ⊥
          clash b p q = cc

      by_test : (b : Bool) → t x ≡ b → (x ≡ r) ⊎ In rs r → (In rs r → count t rs ≡ 1) → length (cond b (x ∷ filter t rs) (filter t rs)) ≡ 1
      by_test true f j g = ap suc (count_none t rs (later (only x f)))
      by_test false f (inl j) g = absurd (here f j)
      by_test false f (inr j) g = g j

starts : (a b : ℕ) → (a == b) ≡ true → a ≡ b
starts a b e = exact_unsigned_eq a b e

-- A link of these starts there.
abbrev linked : List Link → Framed → Bool
linked ls r = list_any (λ l. l.frame.at == r.at) ls

module _ (c : List ℕ) (rs : List Framed) (records : AllByRecursion (IsRecord c) rs) (rising : Rising 0 rs) where
  recorded : (r : Framed) → In rs r → IsRecord c r
  recorded r i = all_in (IsRecord c) rs r records i

  linked_type : (ls : List Link) → AllByRecursion (IsLink c rs) ls → (r : Framed) → In rs r → linked ls r ≡ true → r.type_id ≡ 1
  linked_type [] a r i e = cc
  linked_type (l ∷ ls) a r i e = by_test (l.frame.at == r.at) refl e (linked_type ls a.1 r i)
    where
      by_test : (b : Bool) → (l.frame.at == r.at) ≡ b → (b || linked ls r) ≡ true → (linked ls r ≡ true → r.type_id ≡ 1) → r.type_id ≡ 1
      by_test true f g h = sym (ap (λ (z : Framed). z.type_id) (record_one c l.frame r (recorded l.frame (contains_in rs l.frame a.0.framed)) (recorded r i) (starts l.frame.at r.at f)))
          ∙ a.0.checkpoint
      by_test false f g h = h g

  linked_past : (at b : ℕ) (r : Framed) (ls : List Link) → IsChain c rs at ls → r.at ≡ b → at < b → linked ls r ≡ true → ⊥
  linked_past at b r [] h e i f = h
  linked_past at b r (l ∷ []) h e i f = by_test (l.frame.at == r.at) refl f
    where
      by_test : (d : Bool) → (l.frame.at == r.at) ≡ d → (d || false) ≡ true → ⊥
      by_test true g f = let q : l.frame.at ≡ r.at = starts l.frame.at r.at g in let w : l.frame.at ≡ at = h.1 in omega (arith, e, i)
      by_test false g f = cc
  linked_past at b r (l ∷ m ∷ ls) h e i f = by_test (l.frame.at == r.at) refl f (linked_past m.frame.at b r (m ∷ ls) h.3 e (let s : m.frame.at < at = h.2.earlier in omega (arith, i)))
    where
      by_test : (d : Bool) → (l.frame.at == r.at) ≡ d → (d || linked (m ∷ ls) r) ≡ true → (linked (m ∷ ls) r ≡ true → ⊥) → ⊥
      by_test true g f k = let q : l.frame.at ≡ r.at = starts l.frame.at r.at g in let w : l.frame.at ≡ at = h.1 in omega (arith, e, i)
      by_test false g f k = k f

  count_link : (l : Link) → IsLink c rs l → count (λ r. l.frame.at == r.at) rs ≡ 1
  count_link l i = count_place (λ r. l.frame.at == r.at) l.frame.at (λ r e. sym (starts l.frame.at r.at e)) (λ r e. is_eq l.frame.at r.at (sym e)) 0 rs l.frame rising
      (contains_in rs l.frame i.framed) refl

  -- Each link occurs once.
  count_chain : (at : ℕ) (ls : List Link) → IsChain c rs at ls → count (linked ls) rs ≡ length ls
  count_chain at [] h = absurd h
  count_chain at (l ∷ []) h =
      count_or (λ r. l.frame.at == r.at) (linked []) rs (λ r i e f. cc)
      ∙ (let a = count_link l h.0 in let b : count (linked []) rs ≡ 0 = count_none (linked []) rs (λ r i e. cc) in omega (arith, a, b))
  count_chain at (l ∷ m ∷ ls) h =
      count_or (λ r. l.frame.at == r.at) (linked (m ∷ ls)) rs (λ r i e f. linked_past m.frame.at at r (m ∷ ls) h.3 (sym (starts l.frame.at r.at e) ∙ h.1) h.2.earlier f)
      ∙ (let a = count_link l h.0 in let b : count (linked (m ∷ ls)) rs ≡ suc (length ls) = count_chain m.frame.at (m ∷ ls) h.3 in omega (arith, a, b))

-- Events have types of their own.
event_type : (k : Classes) (id : ℕ) → is_event_class k id ≡ true → 1 < id
unfolding is_event_class
event_type k id e = by_test (nat_lt 1 id) refl e
  where
    by_test : (b : Bool) → nat_lt 1 id ≡ b → (b && option_map_or extends_event (find_class k id) false) ≡ true → 1 < id
    by_test true f e = grind (arith, f)
    by_test false f e = cc

-- Each event has its fields.
count_events : (c : List ℕ) (k : Classes) (rs : List Framed) → AllByRecursion (IsRecord c) rs → AllByRecursion (HasFields c k) rs → length (filter_map (event_of c k) rs) ≡ length rs
count_events c k [] a h = refl
count_events c k (r ∷ rs) a h =
    ap (λ z. length (cons_option (event_by r z) (filter_map (event_of c k) rs))) (reads_computed c (record_end r) a.0.within (value_format k (inline r.type_id)) r.body h.0.0 h.0.1 a.0.covers h.0.2)
    ∙ ap suc (count_events c k rs a.1 h.1)

-- What is left when the events, the metadata record and the chained checkpoints are taken away.
pub inert_counted : (p : Parts) (early : BTreeMap ℕ ℕ) (fields : List EventIndexEntry) (ls : List Link) → AreParts p → p.chain ≡ reverse ls
    → map (indexed_event p.records early) fields ≡ map Some (events_of p) → length (filter (is_inert p) p.records) + (length fields + (1 + length ls)) ≡ length p.records
unfolding events_of
inert_counted p early fields ls a r e =
    let n : length p.chain ≡ length ls = ap length r ∙ length-reverse ls in
    let left : length (filter (is_inert p) p.records) + count (λ r. is_named r || linked p.chain r) p.records ≡ length p.records = count_not (λ r. is_named r || linked p.chain r) p.records in
    let both = count_or is_named (linked p.chain) p.records named_linked in
    let named = count_or is_event is_metadata p.records event_metadata in
    let m : count is_metadata p.records ≡ 1 = count_place is_metadata (metadata_at p.bytes) (λ r e. starts r.at (metadata_at p.bytes) e)
    (λ r e. is_eq r.at (metadata_at p.bytes) e) 0 p.records a.metadata_record rising (contains_in p.records a.metadata_record a.metadata_there.listed) a.metadata_there.place in
    let l : count (linked p.chain) p.records ≡ length p.chain = count_chain p.bytes p.records each rising (pools_at p.bytes) p.chain a.chain in
    let f : length fields ≡ length (filter_map (event_of p.bytes p.classes) (event_records p.classes p.records)) =
    each_length (indexed_event p.records early) fields (filter_map (event_of p.bytes p.classes) (event_records p.classes p.records)) e in
    let v : length (filter_map (event_of p.bytes p.classes) (event_records p.classes p.records)) ≡ count is_event p.records = count_events p.bytes p.classes (event_records p.classes p.records)
    (filter_all (IsRecord p.bytes) is_event p.records each) (recursion_from_All (HasFields p.bytes p.classes) (event_records p.classes p.records) a.events) in
    omega (arith, left, both, named, m, l, f, v, n)
  where
    each : AllByRecursion (IsRecord p.bytes) p.records
    each = tiles_each p.bytes 68 (length p.bytes) p.records a.records

    rising : Rising 0 p.records
    rising = rising_of p.bytes 0 68 (length p.bytes) p.records (omega arith) a.records

    links : AllByRecursion (IsLink p.bytes p.records) p.chain
    links = links_each p.bytes p.records (pools_at p.bytes) p.chain a.chain

    is_event : Framed → Bool
    is_event r = is_event_class p.classes r.type_id

    is_metadata : Framed → Bool
    is_metadata r = r.at == metadata_at p.bytes

    is_named : Framed → Bool
    is_named r = is_event r || is_metadata r

    metadata_type : (r : Framed) → In p.records r → is_metadata r ≡ true → r.type_id ≡ 0
    metadata_type r i e =
        let m = a.metadata_record in
        let s = all_in (IsRecord p.bytes) p.records m each (contains_in p.records m a.metadata_there.listed) in
        ap (λ (z : Framed). z.type_id) (record_one p.bytes r m (all_in (IsRecord p.bytes) p.records r each i) s (starts r.at (metadata_at p.bytes) e ∙ sym a.metadata_there.place))
        ∙ a.metadata_there.type_is

    event_metadata : (r : Framed) → In p.records r → is_event r ≡ true → is_metadata r ≡ true → ⊥
    event_metadata r i e f = let s = metadata_type r i f in let t = event_type p.classes r.type_id e in omega (arith, s, t)

    named_linked : (r : Framed) → In p.records r → is_named r ≡ true → linked p.chain r ≡ true → ⊥
    named_linked r i e f = by_test (is_event r) refl e
      where
        by_test : (b : Bool) → is_event r ≡ b → (b || is_metadata r) ≡ true → ⊥
        by_test true g e = let s = linked_type p.bytes p.records each rising p.chain links r i f in let t = event_type p.classes r.type_id g in omega (arith, s, t)
        by_test false g e = let s = linked_type p.bytes p.records each rising p.chain links r i f in let t = metadata_type r i e in omega (arith, s, t)
