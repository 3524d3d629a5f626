-- What is kept of a record is all of it but its end, and its end is kept with the next one.
use Rattle.std.specs.Prelude.{◌≡◌, ℕ, zero, suc, ◌+◌, ◌-◌, ◌^◌, ◌<◌, ◌≤◌, List, [], ◌∷◌, length, slice_get, slice_range, Option, None, Some, option_map, map, min}
use Rattle.std.proofs.Common.{ap, arith, get_or, refl, sym, ◌∙◌, subst, inl, inr, ◌⊎◌}
use Rattle.std.proofs.lemmas.List.{length-map}
use Rattle.std.proofs.lemmas.Option.{slice_get-get_or, slice_get-map}
use Rattle.std.proofs.lemmas.Bool.{cases_lt}
use Rattle.std.proofs.lemmas.Simd.{map-map}
use Rattle.jfr_base.specs.Integer.{IntAt, IsSpellingWithin}
use Rattle.jfr_base.proofs.Ranges.{range_length}
use Rattle.jfr_frame.specs.declared.framed.Framed.{Framed}
use Rattle.jfr_frame.specs.declared.start.Start.{Start}
use Rattle.jfr_frame.specs.Records.{AreRecords, IsRecord, Tiles, places_of, record_end}
use Rattle.jfr_frame.specs.Starts.{AreStarts, kept_places, records_at, start_of}
use Rattle.jfr_frame.proofs.RecordLaws.{framed_path, some_bytes}

spelling_short : (k : ℕ) (b : List ℕ) → IsSpellingWithin k b → length b ≤ suc k
spelling_short k [] h = absurd h
spelling_short zero (b ∷ bs) h = let e : length bs ≡ 0 = ap length h in omega arith
spelling_short (suc k) (b ∷ []) h = omega arith
spelling_short (suc k) (b ∷ c ∷ bs) h = let i = spelling_short k (c ∷ bs) h.1 in omega arith

-- An integer takes nine bytes at most.
int_short : (c : List ℕ) (p q v : ℕ) → IntAt c p q v → q ≤ p + 9
int_short c p q v i =
    let l = range_length c p q i.within in
    let s = spelling_short 8 (slice_range c p q) i.spelled.form in
    omega arith

-- So a record's size and type take eighteen.
pub head_short : (c : List ℕ) (r : Framed) → IsRecord c r → (r.at ≤ r.type_at) × (r.type_at ≤ r.body) × (r.body ≤ r.at + 18)
head_short c r s =
    let i = int_short c r.at r.type_at r.size s.size_spelled in
    let j = int_short c r.type_at r.body r.type_id s.type_spelled in
    (s.size_spelled.order, s.type_spelled.order, omega arith)

-- The record of which this is kept.
pub record Keeps (c : List ℕ) (all : List Framed) (n : ℕ) (s : Start) (r : Framed) : Type 0 where
  pub got : slice_get all n ≡ Some r
  pub below : n < length all
  pub start : s ≡ start_of r
  pub holds : IsRecord c r

kept_among : (c : List ℕ) (p q : ℕ) (rs : List Framed) (n : ℕ) (s : Start) → Tiles c p rs q → option_map start_of (slice_get rs n) ≡ Some s → (r : Framed) × Keeps c rs n s r
kept_among c p q [] n s t e = cc
kept_among c p q (r ∷ rs) zero s t e = (r, record { got = refl; below = omega arith; start = cc; holds = t.1 })
kept_among c p q (r ∷ rs) (suc n) s t e =
    let k = kept_among c (record_end r) q rs n s t.2 e in
    (k.0, record { got = k.1.got; below = let i = k.1.below in omega arith; start = k.1.start; holds = k.1.holds })

pub kept_record : (c : List ℕ) (starts : List Start) (all : List Framed) (n : ℕ) (s : Start) → AreStarts c starts → records_at c starts ≡ all → option_map start_of (slice_get all n) ≡ Some s
    → (r : Framed) × Keeps c all n s r
kept_record c starts all n s h v e = kept_among c 68 (length c) all n s (subst (AreRecords c) v h.cover) e

-- As much is kept as there are records, and at each number what is kept of its record.
pub kept_count : (c : List ℕ) (starts : List Start) (all : List Framed) → AreStarts c starts → records_at c starts ≡ all → length starts ≡ length all
kept_count c starts all h v = ap length (h.kept ∙ ap (map start_of) v) ∙ length-map all start_of

pub kept_at : (c : List ℕ) (starts : List Start) (all : List Framed) (n : ℕ) (s : Start) → AreStarts c starts → records_at c starts ≡ all → n < length all → s ≡ get_or starts n s
    → option_map start_of (slice_get all n) ≡ Some s
kept_at c starts all n s h v l e =
    sym (slice_get-map start_of all n)
    ∙ (ap (λ z. slice_get z n) (sym (h.kept ∙ ap (map start_of) v)) ∙ (slice_get-get_or starts n s (omega (arith, kept_count c starts all h v)) ∙ ap (λ z. Some z) (sym e)))

-- What is kept says all but its end.
kept_parts : (c : List ℕ) (all : List Framed) (n : ℕ) (s : Start) (r : Framed) → Keeps c all n s r
    → (s.at ≡ r.at) × (s.at + s.type_at ≡ r.type_at) × (s.at + s.body ≡ r.body) × (s.type_id ≡ min r.type_id (2 ^ 16 - 1))
kept_parts c all n s r k =
    let h = head_short c r k.holds in
    subst (λ (z : Start). (z.at ≡ r.at) × (z.at + z.type_at ≡ r.type_at) × (z.at + z.body ≡ r.body) × (z.type_id ≡ min r.type_id (2 ^ 16 - 1))) (sym k.start)
    (refl, omega (arith, h.0), omega (arith, h.0, h.1), refl)

-- So its type and its body start within the chunk.
pub parts_fit : (c : List ℕ) (all : List Framed) (n : ℕ) (s : Start) (r : Framed) → Keeps c all n s r → (s.at + s.type_at ≤ length c) × (s.at + s.body ≤ length c)
parts_fit c all n s r k =
    let p = kept_parts c all n s r k in
    let h = head_short c r k.holds in
    let b : r.body ≤ r.at + r.size = k.holds.covers in
    let w : r.at + r.size ≤ length c = k.holds.within in
    (omega (arith, p.1, h.1), omega (arith, p.2))

-- A type that is kept below the largest number is the record's.
pub narrow_type : (c : List ℕ) (all : List Framed) (n : ℕ) (s : Start) (r : Framed) → Keeps c all n s r → (s.type_id ≡ 2 ^ 16 - 1 → ⊥) → s.type_id ≡ r.type_id
narrow_type c all n s r k narrow = by_size (kept_parts c all n s r k).3 (cases_lt r.type_id (2 ^ 16 - 1))
  where
    by_size : s.type_id ≡ min r.type_id (2 ^ 16 - 1) → ((r.type_id < 2 ^ 16 - 1) ⊎ (2 ^ 16 - 1 ≤ r.type_id)) → s.type_id ≡ r.type_id
    by_size e (inl i) = let m : min r.type_id (2 ^ 16 - 1) ≡ r.type_id = grind arith in e ∙ m
    by_size e (inr i) = let m : min r.type_id (2 ^ 16 - 1) ≡ 2 ^ 16 - 1 = grind arith in absurd (narrow (e ∙ m))

-- Its type is spelled at the offset that is kept.
pub type_there : (c : List ℕ) (all : List Framed) (n : ℕ) (s : Start) (r : Framed) → Keeps c all n s r → IntAt c (s.at + s.type_at) r.body r.type_id
type_there c all n s r k = subst (λ p. IntAt c p r.body r.type_id) (sym (kept_parts c all n s r k).1) k.holds.type_spelled

-- It is made of what is kept, of its type and of its end.
pub rebuilt : (c : List ℕ) (all : List Framed) (n : ℕ) (s : Start) (r : Framed) (end type_id : ℕ) → Keeps c all n s r → option_map record_end (slice_get all n) ≡ Some end → type_id ≡ r.type_id
    → (s.at ≤ end) × (Some (record { at = s.at; size = end - s.at; type_at = s.at + s.type_at; type_id = type_id; body = s.at + s.body }) ≡ slice_get all n)
rebuilt c all n s r end type_id k e t =
    let p = kept_parts c all n s r k in
    let x : Some (record_end r) ≡ Some end = sym (ap (option_map record_end) k.got) ∙ e in
    let y : record_end r ≡ end = cc in
    let made : Framed = record { at = s.at; size = end - s.at; type_at = s.at + s.type_at; type_id = type_id; body = s.at + s.body } in
    let same : made ≡ r = framed_path made r p.0 (omega (arith, p.0, y)) p.1 t p.2 in
    (omega (arith, p.0, y), ap Some same ∙ sym k.got)

-- The place after a record: the next start, or the end of all.
abbrev pub next_place : ℕ → Option Start → ℕ
next_place q None = q
next_place q (Some s) = s.at

end_among : (c : List ℕ) (p q : ℕ) (rs : List Framed) (n : ℕ) → Tiles c p rs q → n < length rs
    → option_map record_end (slice_get rs n) ≡ Some (next_place q (option_map start_of (slice_get rs (suc n))))
end_among c p q [] n t h = absurd (omega arith)
end_among c p q (r ∷ []) zero t h = let e : record_end r ≡ q = t.2 in ap Some e
end_among c p q (r ∷ s ∷ rs) zero t h = let e : s.at ≡ record_end r = t.2.0 in ap Some (sym e)
end_among c p q (r ∷ rs) (suc n) t h = end_among c (record_end r) q rs n t.2 (omega arith)

pub end_of : (c : List ℕ) (starts : List Start) (all : List Framed) (n : ℕ) (next : Option Start) → AreStarts c starts → records_at c starts ≡ all → n < length all
    → option_map start_of (slice_get all (n + 1)) ≡ next → option_map record_end (slice_get all n) ≡ Some (next_place (length c) next)
end_of c starts all n next h v i e =
    let m : suc n ≡ n + 1 = omega arith in
    end_among c 68 (length c) all n (subst (AreRecords c) v h.cover) i ∙ ap (λ o. Some (next_place (length c) o)) (ap (λ k. option_map start_of (slice_get all k)) m ∙ e)

count_among : (c : List ℕ) (p q : ℕ) (rs : List Framed) → Tiles c p rs q → p + length rs ≤ q
count_among c p q [] t = let e : p ≡ q = t in omega arith
count_among c p q (r ∷ rs) t =
    let b = some_bytes c r t.1 in
    let i = count_among c (record_end r) q rs t.2 in
    let a : r.at ≡ p = t.0 in
    omega arith

-- There are no more records than bytes.
pub count_below : (c : List ℕ) (starts : List Start) (all : List Framed) (n : ℕ) → AreStarts c starts → records_at c starts ≡ all → n < length all → n < length c
count_below c starts all n h v i = let j = count_among c 68 (length c) all (subst (AreRecords c) v h.cover) in omega arith

-- The places that are kept are those of the records.
pub kept_places_of : (c : List ℕ) (starts : List Start) (all : List Framed) → AreStarts c starts → records_at c starts ≡ all → kept_places starts ≡ places_of all
kept_places_of c starts all h v = ap kept_places (h.kept ∙ ap (map start_of) v) ∙ map-map (λ s. s.at) start_of all
