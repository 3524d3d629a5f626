-- A tally for each class, when records are counted one after another.
use Rattle.std.specs.Prelude.{◌≡◌, ℕ, ◌+◌, ◌^◌, ◌<◌, ◌≤◌, ◌==◌, Bool, true, false, cond, List, [], ◌∷◌, ◌++◌, length, replicate, take, None, Some, option_and_then, slice_get, slice_set}
use Rattle.std.specs.Option.{option_map_or}
use Rattle.std.proofs.Common.{ap, arith, refl, sym, subst, ◌∙◌, get_or}
use Rattle.std.proofs.Math.Seq.{take-append_seam}
use Rattle.std.proofs.lemmas.Bool.{eqb-true}
use Rattle.std.proofs.lemmas.Bool.Decides.{nat_tests}
use Rattle.std.proofs.lemmas.List.{get_or-set_same, get_or-set_other, length-set, get_or-replicate, length-replicate}
use Rattle.std.proofs.lemmas.Option.{get_or_from_slice_get, slice_get-get_or, slice_get_within}
use Rattle.jfr_layout.specs.Classes.{Classes, class_index, is_event_class}
use Rattle.jfr_frame.specs.declared.framed.Framed.{Framed}
use Rattle.jfr_show.specs.declared.tally.Tally.{Tally}
use Rattle.jfr_show.specs.Counting.{AreSmall, AreTallies, both, class_tally, is_at, leader_of, no_tally}
use Rattle.jfr_show.proofs.ClassTallies.{both_assoc, class_tally-cons, single}
use Rattle.jfr_show.proofs.SizeLaws.{AreWithin, chosen_within, front_within}
use Rattle.jfr_show.proofs.ListingLaws.{take_next}
use Rattle.jfr_show.proofs.TallyLaws.{tally_path}

turned : (s : Tally) → both s no_tally ≡ both no_tally s
turned s = tally_path _ _ (omega arith) (omega arith)

-- The tally of a class, with a record more.
class_tally-push : (k : Classes) (leaders : List ℕ) (i : ℕ) (rs : List Framed) (r : Framed)
    → class_tally k leaders (rs ++ r ∷ []) i ≡ both (class_tally k leaders rs i) (single (is_at k leaders i r) r)
class_tally-push k leaders i [] r = class_tally-cons k leaders i r [] ∙ turned (single (is_at k leaders i r) r)
class_tally-push k leaders i (x ∷ xs) r =
    class_tally-cons k leaders i x (xs ++ r ∷ [])
    ∙ (ap (both (single (is_at k leaders i x) x)) (class_tally-push k leaders i xs r)
    ∙ (sym (both_assoc (single (is_at k leaders i x) x) (class_tally k leaders xs i) (single (is_at k leaders i r) r))
    ∙ ap (λ t. both t (single (is_at k leaders i r) r)) (sym (class_tally-cons k leaders i x xs))))

both_none : (s : Tally) → both s no_tally ≡ s
both_none s = tally_path _ _ (omega arith) (omega arith)

-- A record that is no event leaves the tallies as they are.
pub other_counted : (k : Classes) (leaders : List ℕ) (rs : List Framed) (r : Framed) (ts : List Tally) → is_event_class k r.type_id ≡ false → AreTallies k leaders rs ts
    → AreTallies k leaders (rs ++ r ∷ []) ts
other_counted k leaders rs r ts no_event a = record {
  count = a.count;
  each = λ i h. a.each i h ∙ ap Some (sym (class_tally-push k leaders i rs r
      ∙ (ap (λ b. both (class_tally k leaders rs i) (single (option_map_or (λ n. n == i) (option_and_then (slice_get leaders) (cond b (class_index k r.type_id) None)) false) r)) no_event
      ∙ both_none (class_tally k leaders rs i))));
}

-- An event is counted at the leader of its class.
at_leader : (k : Classes) (leaders : List ℕ) (rs : List Framed) (r : Framed) (ts : List Tally) (leader : ℕ) (v none : Tally) → leader_of k leaders r.type_id ≡ Some leader → AreTallies k leaders rs ts
    → v ≡ both (get_or ts leader none) (record { events = 1; bytes = r.size })
    → (i : ℕ) → i < length k → (b : Bool) → (leader == i) ≡ b → slice_get (slice_set ts leader v) i ≡ Some (both (class_tally k leaders rs i) (single b r))
at_leader k leaders rs r ts leader v none is a e i h true q =
    let same : leader ≡ i = eqb-true leader i q in
    let w : i < length ts = let c = a.count in omega arith in
    let l : i < length (slice_set ts leader v) = let c = length-set ts leader v in omega arith in
    slice_get-get_or (slice_set ts leader v) i v l
    ∙ ap Some (ap (λ n. get_or (slice_set ts n v) i v) same
    ∙ (get_or-set_same ts i v v w ∙ (e ∙ ap (λ t. both t (record { events = 1; bytes = r.size }))
    (ap (λ n. get_or ts n none) same ∙ get_or_from_slice_get ts i (class_tally k leaders rs i) none (a.each i h)))))
at_leader k leaders rs r ts leader v none is a e i h false q =
    let l : i < length (slice_set ts leader v) = let c = length-set ts leader v in let d = a.count in omega arith in
    slice_get-get_or (slice_set ts leader v) i none l
    ∙ ap Some (get_or-set_other ts leader i v none (λ f. (let g : (leader == i) ≡ true = grind (arith, nat_tests) in cc))
    ∙ (get_or_from_slice_get ts i (class_tally k leaders rs i) none (a.each i h) ∙ sym (both_none (class_tally k leaders rs i))))

pub event_counted : (k : Classes) (leaders : List ℕ) (rs : List Framed) (r : Framed) (ts : List Tally) (leader : ℕ) (v none : Tally) → leader_of k leaders r.type_id ≡ Some leader
    → v ≡ both (get_or ts leader none) (record { events = 1; bytes = r.size }) → AreTallies k leaders rs ts → AreTallies k leaders (rs ++ r ∷ []) (slice_set ts leader v)
event_counted k leaders rs r ts leader v none is e a = record {
  count = length-set ts leader v ∙ a.count;
  each = λ i h.
      at_leader k leaders rs r ts leader v none is a e i h (leader == i) refl
      ∙ ap Some (sym (class_tally-push k leaders i rs r ∙ ap (λ o. both (class_tally k leaders rs i) (single (option_map_or (λ n. n == i) o false) r)) is));
}

-- No records.
pub none_counted : (k : Classes) (leaders : List ℕ) (n : ℕ) → n ≡ length k → AreTallies k leaders [] (replicate n no_tally)
none_counted k leaders n e = record {
  count = length-replicate n no_tally ∙ e;
  each = λ i h. (let l : i < length (replicate n no_tally) = let d = length-replicate n no_tally in omega arith in
      slice_get-get_or (replicate n no_tally) i no_tally l ∙ ap Some (get_or-replicate n i no_tally no_tally (omega arith)));
}

-- The tallies of few records are small.
pub counted_small : (k : Classes) (leaders : List ℕ) (rs : List Framed) (n i : ℕ) (ts : List Tally) → AreWithin rs n → n < 2 ^ 30 → AreTallies k leaders (take i rs) ts → AreSmall ts
counted_small k leaders rs n i ts w small a = record {
  each = λ index t g. (let within : index < length k = let l = slice_get_within ts index t g in let c = a.count in omega arith in
      let same : class_tally k leaders (take i rs) index ≡ t = (let q : Some (class_tally k leaders (take i rs) index) ≡ Some t = sym (a.each index within) ∙ g in cc) in
      let b = chosen_within k (is_at k leaders index) (take i rs) n (front_within rs n i w) in
      let x : t.events ≤ n = subst (λ (z : Tally). z.events ≤ n) same b.events in
      let y : t.bytes ≤ n = subst (λ (z : Tally). z.bytes ≤ n) same b.bytes in
      (omega arith, omega arith));
}

-- One record more is counted; the tallies are at the front of their vector.
pub next_counted : (k : Classes) (leaders : List ℕ) (rs : List Framed) (i n : ℕ) (r : Framed) (old new rest : List Tally) → slice_get rs i ≡ Some r → length new ≡ n
    → AreTallies k leaders (take i rs) old → ((xs : List Framed) → AreTallies k leaders xs old → AreTallies k leaders (xs ++ r ∷ []) new)
    → AreTallies k leaders (take (i + 1) rs) (take n (new ++ rest))
next_counted k leaders rs i n r old new rest there l a step =
    let front : take n (new ++ rest) ≡ new = ap (λ m. take m (new ++ rest)) (sym l) ∙ take-append_seam new rest in
    subst (λ xs. AreTallies k leaders xs (take n (new ++ rest))) (sym (take_next rs i r there)) (subst (AreTallies k leaders (take i rs ++ r ∷ [])) (sym front) (step (take i rs) a))
