-- Events counted class by class are the events counted one by one.
use Rattle.std.specs.Prelude.{◌≡◌, ℕ, suc, ◌+◌, ◌==◌, Bool, true, false, cond, List, [], ◌∷◌, ◌++◌, filter, length, map, nat_lt, Option, None, Some, option_and_then, slice_get, unwrap_or, ◌&&◌, ◌||◌}
use Rattle.std.specs.Option.{option_map_or}
use Rattle.std.specs.Str.{bytes_eq, encode_utf8_all}
use Rattle.std.specs.FinMap as fin
use Rattle.std.proofs.Common.{ap, arith, refl, sym, ◌∙◌, append-nil}
use Rattle.std.proofs.lemmas.Bool.{eqb-true, lt-ltb, le-ltb}
use Rattle.std.proofs.lemmas.Bool.Decides.{nat_tests}
use Rattle.std.proofs.lemmas.List.{length-append}
use Rattle.std.proofs.lemmas.List.Sums.{sum_by-append, sum_by-cons}
use Rattle.jfr_layout.specs.Classes.{Class, Classes, class_index, is_event_class}
use Rattle.jfr_frame.specs.declared.framed.Framed.{Framed}
use Rattle.jfr_chunk.specs.Parts.{event_records}
use Rattle.jfr_show.specs.declared.tally.Tally.{Tally}
use Rattle.jfr_show.specs.Counting.{AddsEvents, AddsTally, AreLeaders, added, both, class_tally, is_at, leader_of, no_tally}
use Rattle.jfr_show.specs.Totals.{Occurrence, Tallies, occurrence, of_name, tally_of}
use Rattle.jfr_show.proofs.LeaderLaws.{event_has_leader, leader_name}
use Rattle.jfr_show.proofs.TallyLaws.{tally_path}

-- One event more.
tally-cons : (e : Occurrence) (es : List Occurrence) → tally_of (e ∷ es) ≡ both (record { events = 1; bytes = e.size }) (tally_of es)
tally-cons e es = let s = sum_by-cons (λ (e : Occurrence). e.size) e es in tally_path _ _ (omega arith) s

-- The events of two lists.
pub tally-append : (xs ys : List Occurrence) → tally_of (xs ++ ys) ≡ both (tally_of xs) (tally_of ys)
tally-append xs ys = tally_path _ _ (length-append xs ys) (sum_by-append (λ (e : Occurrence). e.size) xs ys)

pub both_assoc : (s t u : Tally) → both (both s t) u ≡ both s (both t u)
both_assoc s t u = tally_path _ _ (omega arith) (omega arith)

-- Events are added.
pub added_some : (o : Option Tally) (n : ℕ) (t : Tally) → t.events ≡ suc n → added o t ≡ Some (both (unwrap_or o no_tally) t)
added_some o n t e = let z : (t.events == 0) ≡ false = grind (arith, nat_tests) in ap (λ b. cond b o (Some (both (unwrap_or o no_tally) t))) z

-- Events that are added, and then others.
pub added_twice : (o : Option Tally) (xs ys : List Occurrence) → added (added o (tally_of xs)) (tally_of ys) ≡ added o (tally_of (xs ++ ys))
added_twice o [] ys = refl
added_twice o (x ∷ xs) [] = ap (λ z. added o (tally_of z)) (sym (append-nil (x ∷ xs)))
added_twice o (x ∷ xs) (y ∷ ys) =
    let s : Tally = tally_of (x ∷ xs) in
    let t : Tally = tally_of (y ∷ ys) in
    let all : List Occurrence = (x ∷ xs) ++ (y ∷ ys) in
    ap (λ z. added z t) (added_some o (length xs) s refl)
    ∙ (added_some (Some (both (unwrap_or o no_tally) s)) (length ys) t refl
    ∙ (ap Some (both_assoc (unwrap_or o no_tally) s t ∙ ap (both (unwrap_or o no_tally)) (sym (tally-append (x ∷ xs) (y ∷ ys)))) ∙ sym (added_some o (length (xs ++ y ∷ ys)) (tally_of all) refl)))

-- The record is an event of a class with a leader before this index.
abbrev pub is_before : Classes → List ℕ → ℕ → Framed → Bool
is_before k leaders i r = option_map_or (λ n. nat_lt n i) (leader_of k leaders r.type_id) false

-- The events of the classes with leaders before an index.
abbrev pub before : Classes → List ℕ → ℕ → List Framed → List Occurrence
before k leaders i rs = map (occurrence k) (filter (is_before k leaders i) rs)

-- Those of a name among the events that pass a test.
abbrev chosen : Classes → List ℕ → (Framed → Bool) → List Framed → List Occurrence
chosen k q test rs = of_name q (map (occurrence k) (filter test rs))

-- What a record adds to these.
abbrev one : Classes → List ℕ → Bool → Framed → Tally
one k q b r = cond b (cond (bytes_eq (occurrence k r).name q) (record { events = 1; bytes = r.size }) no_tally) no_tally

none_more : (t : Tally) → t ≡ both no_tally t
none_more t = tally_path _ _ (omega arith) (omega arith)

chosen-cons : (k : Classes) (q : List ℕ) (test : Framed → Bool) (r : Framed) (rs : List Framed) → tally_of (chosen k q test (r ∷ rs)) ≡ both (one k q (test r) r) (tally_of (chosen k q test rs))
chosen-cons k q test r rs = by_test (test r) (bytes_eq (occurrence k r).name q)
  where
    by_test : (b d : Bool)
        → tally_of (of_name q (map (occurrence k) (cond b (r ∷ filter test rs) (filter test rs)))) ≡ both (cond b (cond (bytes_eq (occurrence k r).name q) (record { events = 1; bytes = r.size }) no_tally) no_tally) (tally_of (chosen k q test rs))
    by_test false d = none_more (tally_of (chosen k q test rs))
    by_test true d = by_name (bytes_eq (occurrence k r).name q)
      where
        by_name : (d : Bool) → tally_of (cond d (occurrence k r ∷ chosen k q test rs) (chosen k q test rs)) ≡ both (cond d (record { events = 1; bytes = r.size }) no_tally) (tally_of (chosen k q test rs))
        by_name true = tally-cons (occurrence k r) (chosen k q test rs)
        by_name false = none_more (tally_of (chosen k q test rs))

both_swap : (s t u v : Tally) → both (both s t) (both u v) ≡ both (both s u) (both t v)
both_swap s t u v = tally_path _ _ (omega arith) (omega arith)

both_chosen : (b : Bool) (s t : Tally) → cond b (both s t) no_tally ≡ both (cond b s no_tally) (cond b t no_tally)
both_chosen true s t = refl
both_chosen false s t = refl

-- What a record adds to the tally of a class.
abbrev pub single : Bool → Framed → Tally
single b r = cond b (record { events = 1; bytes = r.size }) no_tally

pub class_tally-cons : (k : Classes) (leaders : List ℕ) (i : ℕ) (r : Framed) (rs : List Framed) → class_tally k leaders (r ∷ rs) i ≡ both (single (is_at k leaders i r) r) (class_tally k leaders rs i)
class_tally-cons k leaders i r rs = by_test (is_at k leaders i r)
  where
    by_test : (b : Bool) → tally_of (map (occurrence k) (cond b (r ∷ filter (is_at k leaders i) rs) (filter (is_at k leaders i) rs))) ≡ both (single b r) (class_tally k leaders rs i)
    by_test true = tally-cons (occurrence k r) (map (occurrence k) (filter (is_at k leaders i) rs))
    by_test false = none_more (class_tally k leaders rs i)

-- Of the leaders before the next index, a record's is before this index or at it.
one_by : (x y z d b : Bool) (w : Tally) → x ≡ (y || z) → (y && z) ≡ false → (z ≡ true → d ≡ b)
    → cond x (cond d w no_tally) no_tally ≡ both (cond y (cond d w no_tally) no_tally) (cond b (cond z w no_tally) no_tally)
one_by x true true d b w e f g = cc
one_by x true false d b w e f g = ap (λ v. cond v (cond d w no_tally) no_tally) e ∙ by_name b
  where
    by_name : (b : Bool) → cond d w no_tally ≡ both (cond d w no_tally) (cond b no_tally no_tally)
    by_name true = tally_path _ _ (omega arith) (omega arith)
    by_name false = tally_path _ _ (omega arith) (omega arith)
one_by x false true d b w e f g = ap (λ v. cond v (cond d w no_tally) no_tally) e ∙ (ap (λ v. cond v w no_tally) (g refl) ∙ none_more (cond b w no_tally))
one_by x false false d b w e f g = ap (λ v. cond v (cond d w no_tally) no_tally) e ∙ by_name b
  where
    by_name : (b : Bool) → no_tally ≡ both no_tally (cond b no_tally no_tally)
    by_name true = refl
    by_name false = refl

-- A number before the next one is before this one or is it.
record IsSplit (n i : ℕ) : Type 0 where
  either : nat_lt n (i + 1) ≡ (nat_lt n i || (n == i))
  apart : (nat_lt n i && (n == i)) ≡ false

split : (n i : ℕ) → IsSplit n i
split n i = record { either = grind (arith, nat_tests); apart = grind (arith, nat_tests) }

module _ (k : Classes) (leaders : List ℕ) (led : AreLeaders k leaders) (i : ℕ) (c : Class) (q : List ℕ) (there : slice_get k i ≡ Some c) where
  abbrev name : List ℕ
  name = encode_utf8_all c.name

  one_step : (r : Framed) → one k q (is_before k leaders (i + 1) r) r ≡ both (one k q (is_before k leaders i r) r) (cond (bytes_eq name q) (single (is_at k leaders i r) r) no_tally)
  one_step r = by_leader (leader_of k leaders r.type_id) refl
    where
      by_leader : (o : Option ℕ) → leader_of k leaders r.type_id ≡ o
          → one k q (option_map_or (λ n. nat_lt n (i + 1)) o false) r ≡ both (one k q (option_map_or (λ n. nat_lt n i) o false) r) (cond (bytes_eq name q) (single (option_map_or (λ n. n == i) o false) r) no_tally)
      by_leader None e = one_by false false false (bytes_eq (occurrence k r).name q) (bytes_eq name q) (record { events = 1; bytes = r.size }) refl refl (λ f. cc)
      by_leader (Some n) e =
          let s = split n i in
          one_by (nat_lt n (i + 1)) (nat_lt n i) (n == i) (bytes_eq (occurrence k r).name q) (bytes_eq name q) (record { events = 1; bytes = r.size }) s.either s.apart
          (λ f. let h : leader_of k leaders r.type_id ≡ Some i = e ∙ ap Some (eqb-true n i f) in ap (λ t. bytes_eq (encode_utf8_all t) q) (leader_name k leaders led r.type_id i c h there))

  -- What the next class adds.
  class_more : (rs : List Framed)
      → tally_of (of_name q (before k leaders (i + 1) rs)) ≡ both (tally_of (of_name q (before k leaders i rs))) (cond (bytes_eq name q) (class_tally k leaders rs i) no_tally)
  class_more [] = by_name (bytes_eq name q)
    where
      by_name : (b : Bool) → no_tally ≡ both no_tally (cond b no_tally no_tally)
      by_name true = refl
      by_name false = refl
  class_more (r ∷ rs) =
      let b : Bool = bytes_eq name q in
      let one_before : Tally = one k q (is_before k leaders i r) r in
      let one_at : Tally = single (is_at k leaders i r) r in
      chosen-cons k q (is_before k leaders (i + 1)) r rs
      ∙ (ap (λ t. both t (tally_of (chosen k q (is_before k leaders (i + 1)) rs))) (one_step r)
      ∙ (ap (both (both one_before (cond b one_at no_tally))) (class_more rs)
      ∙ (both_swap one_before (cond b one_at no_tally) (tally_of (of_name q (before k leaders i rs))) (cond b (class_tally k leaders rs i) no_tally)
      ∙ (ap (λ t. both t (both (cond b one_at no_tally) (cond b (class_tally k leaders rs i) no_tally))) (sym (chosen-cons k q (is_before k leaders i) r rs))
      ∙ ap (both (tally_of (of_name q (before k leaders i (r ∷ rs)))))
      (sym (both_chosen b one_at (class_tally k leaders rs i)) ∙ ap (λ t. cond b t no_tally) (sym (class_tally-cons k leaders i r rs)))))))

-- What is added under a name, by the tally of another list of the same.
added_class : (o : Option Tally) (xs ys zs : List Occurrence) → tally_of zs ≡ both (tally_of xs) (tally_of ys) → added (added o (tally_of xs)) (tally_of ys) ≡ added o (tally_of zs)
added_class o xs ys zs e = added_twice o xs ys ∙ ap (added o) (tally-append xs ys ∙ sym e)

pub both_none : (t : Tally) → both t no_tally ≡ t
both_none t = tally_path _ _ (omega arith) (omega arith)

-- One class more is added.
pub classes_next : (k : Classes) (leaders : List ℕ) (led : AreLeaders k leaders) (i : ℕ) (c : Class) (rs : List Framed) (bytes : List ℕ) (old now new : Tallies) → slice_get k i ≡ Some c
    → bytes ≡ encode_utf8_all c.name → AddsEvents old (before k leaders i rs) now → AddsTally now bytes (class_tally k leaders rs i) new → AddsEvents old (before k leaders (i + 1) rs) new
classes_next k leaders led i c rs bytes old now new there is a t =
    record { each = λ q. t.each q ∙ (ap (λ o. cond (bytes_eq bytes q) (added o (class_tally k leaders rs i)) o) (a.each q) ∙ by_name q (bytes_eq bytes q) refl) }
  where
    by_name : (q : List ℕ) (b : Bool) → bytes_eq bytes q ≡ b
        → cond b (added (added (fin.get old q) (tally_of (of_name q (before k leaders i rs)))) (class_tally k leaders rs i)) (added (fin.get old q) (tally_of (of_name q (before k leaders i rs)))) ≡ added (fin.get old q) (tally_of (of_name q (before k leaders (i + 1) rs)))
    by_name q true e =
        let f : bytes_eq (encode_utf8_all c.name) q ≡ true = ap (λ z. bytes_eq z q) (sym is) ∙ e in
        added_class (fin.get old q) (of_name q (before k leaders i rs)) (map (occurrence k) (filter (is_at k leaders i) rs)) (of_name q (before k leaders (i + 1) rs))
        (class_more k leaders led i c q there rs ∙ ap (λ b. both (tally_of (of_name q (before k leaders i rs))) (cond b (class_tally k leaders rs i) no_tally)) f)
    by_name q false e =
        let f : bytes_eq (encode_utf8_all c.name) q ≡ false = ap (λ z. bytes_eq z q) (sym is) ∙ e in
        ap (added (fin.get old q)) (sym (class_more k leaders led i c q there rs
        ∙ (ap (λ b. both (tally_of (of_name q (before k leaders i rs))) (cond b (class_tally k leaders rs i) no_tally)) f ∙ both_none (tally_of (of_name q (before k leaders i rs))))))

-- Before the first class there are no events.
before_none : (k : Classes) (leaders : List ℕ) (rs : List Framed) → before k leaders 0 rs ≡ []
before_none k leaders [] = refl
before_none k leaders (r ∷ rs) = by_leader (leader_of k leaders r.type_id) (before_none k leaders rs)
  where
    by_leader : (o : Option ℕ) → before k leaders 0 rs ≡ []
        → map (occurrence k) (cond (option_map_or (λ n. nat_lt n 0) o false) (r ∷ filter (is_before k leaders 0) rs) (filter (is_before k leaders 0) rs)) ≡ []
    by_leader None e = e
    by_leader (Some n) e = ap (λ b. map (occurrence k) (cond b (r ∷ filter (is_before k leaders 0) rs) (filter (is_before k leaders 0) rs))) (le-ltb n 0 (omega arith)) ∙ e

pub classes_none : (k : Classes) (leaders : List ℕ) (rs : List Framed) (old : Tallies) → AddsEvents old (before k leaders 0 rs) old
classes_none k leaders rs old = record { each = λ q. ap (λ es. added (fin.get old q) (tally_of (of_name q es))) (sym (before_none k leaders rs)) }

-- Before the end are all events.
before_test : (k : Classes) (leaders : List ℕ) (led : AreLeaders k leaders) (r : Framed) → is_before k leaders (length k) r ≡ is_event_class k r.type_id
before_test k leaders led r = by_test (is_event_class k r.type_id) refl
  where
    by_test : (b : Bool) → is_event_class k r.type_id ≡ b → is_before k leaders (length k) r ≡ b
    by_test true e =
        let h = event_has_leader k leaders led r.type_id e in
        ap (λ o. option_map_or (λ n. nat_lt n (length k)) o false) h.is ∙ lt-ltb h.leader (length k) h.within
    by_test false e = ap (λ b. option_map_or (λ n. nat_lt n (length k)) (option_and_then (slice_get leaders) (cond b (class_index k r.type_id) None)) false) e

pub before_all : (k : Classes) (leaders : List ℕ) (led : AreLeaders k leaders) (rs : List Framed) → before k leaders (length k) rs ≡ map (occurrence k) (event_records k rs)
before_all k leaders led [] = refl
before_all k leaders led (r ∷ rs) = ap (λ b. map (occurrence k) (cond b (r ∷ filter (is_before k leaders (length k)) rs) (filter (is_before k leaders (length k)) rs))) (before_test k leaders led r)
    ∙ by_test (is_event_class k r.type_id) (before_all k leaders led rs)
  where
    by_test : (b : Bool) → before k leaders (length k) rs ≡ map (occurrence k) (event_records k rs)
        → map (occurrence k) (cond b (r ∷ filter (is_before k leaders (length k)) rs) (filter (is_before k leaders (length k)) rs)) ≡ map (occurrence k) (cond b (r ∷ event_records k rs) (event_records k rs))
    by_test true e = ap (λ es. occurrence k r ∷ es) e
    by_test false e = e
