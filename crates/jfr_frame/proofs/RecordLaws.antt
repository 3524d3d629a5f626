-- One record at a place, and the records of a chunk.
use Rattle.std.specs.Prelude.{◌≡◌, ℕ, zero, suc, ◌+◌, ◌-◌, ◌<◌, ◌≤◌, List, [], ◌∷◌, ◌++◌, length, Option, None, Some, Result, Ok, Err, nat_le, ◌&&◌, Bool, true, false, if◌then◌else◌, slice_range}
use Rattle.std.proofs.Common.{ap, arith, refl, sym, ◌∙◌, subst, get_or}
use Rattle.jfr_base.specs.Integer.{IntAt, IsSpellingWithin}
use Rattle.jfr_base.specs.Formats.{int_at}
use Rattle.jfr_base.specs.declared.flaw.Flaw.{Flaw}
use Rattle.jfr_base.specs.declared.integer.Var.{Var}
use Rattle.jfr_base.specs.declared.reason.Reason.TheVariants.{RecordSize}
use Rattle.jfr_base.proofs.Exact.{int_found, int_none}
use Rattle.jfr_base.proofs.OneInt.{int_one}
use Rattle.jfr_base.proofs.Ranges.{range_length}
use Rattle.jfr_frame.specs.declared.framed.Framed.{Framed}
use Rattle.jfr_frame.specs.Records.{IsRecord, record_end, Tiles, AreRecords, NoRecord, Rising, places_of, record_at, with_size, with_type, covering, before_records, records_within, records_of}

pub framed_path : (r s : Framed) → r.at ≡ s.at → r.size ≡ s.size → r.type_at ≡ s.type_at → r.type_id ≡ s.type_id → r.body ≡ s.body → r ≡ s
framed_path r s a b c d e = λ i. record { at = a i; size = b i; type_at = c i; type_id = d i; body = e i }

-- At most one record starts at an offset.
pub record_one : (c : List ℕ) (r s : Framed) → IsRecord c r → IsRecord c s → r.at ≡ s.at → r ≡ s
record_one c r s p q e =
    let a = int_one c r.at r.type_at s.type_at r.size s.size p.size_spelled (rw e q.size_spelled) in
    let b = int_one c r.type_at r.body s.body r.type_id s.type_id p.type_spelled (rw a.0 q.type_spelled) in
    framed_path r s e a.1 a.0 b.1 b.0

-- The record that is computed is there.
covers_within : (c : List ℕ) (at : ℕ) (size id : Var) (r : Framed) → covering c at size id ≡ Some r
    → (id.end ≤ at + size.value) × (at + size.value ≤ length c) × (record { at = at; size = size.value; type_at = size.end; type_id = id.value; body = id.end } ≡ r)
covers_within c at size id r e = by_test (nat_le id.end (at + size.value)) refl (nat_le (at + size.value) (length c)) refl e
  where
    by_test : (s : Bool) → nat_le id.end (at + size.value) ≡ s → (t : Bool) → nat_le (at + size.value) (length c) ≡ t
        → (if s && t then Some (record { at = at; size = size.value; type_at = size.end; type_id = id.value; body = id.end }) else None) ≡ Some r
        → (id.end ≤ at + size.value) × (at + size.value ≤ length c) × (record { at = at; size = size.value; type_at = size.end; type_id = id.value; body = id.end } ≡ r)
    by_test true p true q f = (grind (arith, p), grind (arith, q), cc)
    by_test true p false q f = cc
    by_test false p t q f = cc

pub record_stands : (c : List ℕ) (at : ℕ) (r : Framed) → at ≤ length c → record_at c at ≡ Some r → (r.at ≡ at) × IsRecord c r
unfolding record_at
record_stands c at r h e = by_size (int_at c at (length c)) refl e
  where
    by_type : (size : Var) → IntAt c at size.end size.value × (size.end ≤ length c) → (o : Option Var) → int_at c size.end (length c) ≡ o → with_type c at size o ≡ Some r → (r.at ≡ at) × IsRecord c r
    by_type size p None f g = cc
    by_type size p (Some id) f g =
        let q = int_found c size.end (length c) id p.1 (omega arith) f in
        let w = covers_within c at size id r g in
        subst (λ (z : Framed). (z.at ≡ at) × IsRecord c z) w.2 (refl, record { size_spelled = p.0; type_spelled = q.0; covers = w.0; within = w.1 })

    by_size : (o : Option Var) → int_at c at (length c) ≡ o → with_size c at o ≡ Some r → (r.at ≡ at) × IsRecord c r
    by_size None f g = cc
    by_size (Some size) f g = by_type size (int_found c at (length c) size h (omega arith) f) (int_at c size.end (length c)) refl g

-- If none is computed, there is none.
pub record_none : (c : List ℕ) (at : ℕ) → at ≤ length c → record_at c at ≡ None → NoRecord c at
unfolding record_at
record_none c at h e r a p = by_size (int_at c at (length c)) refl e
  where
    spelled : IntAt c at r.type_at r.size
    spelled = subst (λ z. IntAt c z r.type_at r.size) a p.size_spelled

    fits : r.body ≤ length c
    fits = let i : r.body ≤ r.at + r.size = p.covers in let j : r.at + r.size ≤ length c = p.within in omega arith

    made : Var → Var → Framed
    made size id = record { at = at; size = size.value; type_at = size.end; type_id = id.value; body = id.end }

    by_test : (size id : Var) → (r.type_at ≡ size.end) × (r.size ≡ size.value) → (r.body ≡ id.end) × (r.type_id ≡ id.value) → (s : Bool) → nat_le id.end (at + size.value) ≡ s → (t : Bool)
        → nat_le (at + size.value) (length c) ≡ t → (if s && t then Some (made size id) else None) ≡ None → ⊥
    by_test size id u v true q true w f = cc
    by_test size id u v true q false w f = let i : r.at + r.size ≤ length c = p.within in let k : length c < at + size.value = grind (arith, w) in omega (arith, u.1)
    by_test size id u v false q t w f = let i : r.body ≤ r.at + r.size = p.covers in let k : at + size.value < id.end = grind (arith, q) in omega (arith, u.1, v.0)

    by_cover : (size id : Var) → (r.type_at ≡ size.end) × (r.size ≡ size.value) → (r.body ≡ id.end) × (r.type_id ≡ id.value) → covering c at size id ≡ None → ⊥
    by_cover size id u v g = by_test size id u v (nat_le id.end (at + size.value)) refl (nat_le (at + size.value) (length c)) refl g

    by_type : (size : Var) → (r.type_at ≡ size.end) × (r.size ≡ size.value) → (o : Option Var) → int_at c size.end (length c) ≡ o → with_type c at size o ≡ None → ⊥
    by_type size u None f g = int_none c size.end (length c) (omega arith) f r.body r.type_id (subst (λ z. IntAt c z r.body r.type_id) u.0 p.type_spelled) fits
    by_type size u (Some id) f g =
        let q = int_found c size.end (length c) id (let i : r.type_at ≤ r.body = p.type_spelled.order in omega (arith, u.0, fits)) (omega arith) f in
        by_cover size id u (int_one c size.end r.body id.end r.type_id id.value (subst (λ z. IntAt c z r.body r.type_id) u.0 p.type_spelled) q.0) g

    by_size : (o : Option Var) → int_at c at (length c) ≡ o → with_size c at o ≡ None → ⊥
    by_size None f g = int_none c at (length c) (omega arith) f r.type_at r.size spelled (let i : r.type_at ≤ r.body = p.type_spelled.order in omega (arith, fits))
    by_size (Some size) f g =
        let q = int_found c at (length c) size h (omega arith) f in
        by_type size (int_one c at r.type_at size.end r.size size.value spelled q.0) (int_at c size.end (length c)) refl g

-- An integer takes a byte.
int_some : (c : List ℕ) (p q v : ℕ) → IntAt c p q v → p < q
int_some c p q v i = by_length (slice_range c p q) refl (range_length c p q i.within)
  where
    by_length : (b : List ℕ) → slice_range c p q ≡ b → length (slice_range c p q) ≡ q - p → p < q
    by_length [] e l = absurd (subst (IsSpellingWithin 8) e i.spelled.form)
    by_length (x ∷ xs) e l = let m : length (slice_range c p q) ≡ suc (length xs) = ap length e in omega arith

-- Each record takes a byte.
pub some_bytes : (c : List ℕ) (r : Framed) → IsRecord c r → r.at < record_end r
some_bytes c r p =
    let h : r.body ≤ r.at + r.size = p.covers in
    let i : r.at ≤ r.type_at = p.size_spelled.order in
    let j : r.type_at < r.body = int_some c r.type_at r.body r.type_id p.type_spelled in
    omega arith

pub tiles_order : (c : List ℕ) (p q : ℕ) (rs : List Framed) → Tiles c p rs q → p ≤ q
tiles_order c p q [] t = let e : p ≡ q = t in omega arith
tiles_order c p q (r ∷ rs) t = let i = tiles_order c (record_end r) q rs t.2 in let e : r.at ≡ p = t.0 in omega arith

-- One list of records from one place to another.
pub tiles_one : (c : List ℕ) (p q : ℕ) (rs ss : List Framed) → Tiles c p rs q → Tiles c p ss q → rs ≡ ss
tiles_one c p q [] [] a b = refl
tiles_one c p q [] (s ∷ ss) a b = let i = tiles_order c (record_end s) q ss b.2 in let j = some_bytes c s b.1 in let e : p ≡ q = a in let f : s.at ≡ p = b.0 in absurd (omega arith)
tiles_one c p q (r ∷ rs) [] a b = let i = tiles_order c (record_end r) q rs a.2 in let j = some_bytes c r a.1 in let e : p ≡ q = b in let f : r.at ≡ p = a.0 in absurd (omega arith)
tiles_one c p q (r ∷ rs) (s ∷ ss) a b =
    let e : r ≡ s = record_one c r s a.1 b.1 (a.0 ∙ sym b.0) in
    let f : record_end r ≡ record_end s = ap record_end e in
    let i : rs ≡ ss = tiles_one c (record_end r) q rs ss a.2 (rw f b.2) in
    ap (λ z. z ∷ rs) e ∙ ap (λ z. s ∷ z) i

-- One record more.
pub tiles_more : (c : List ℕ) (p q : ℕ) (rs : List Framed) (r : Framed) → Tiles c p rs q → r.at ≡ q → IsRecord c r → Tiles c p (rs ++ r ∷ []) (record_end r)
tiles_more c p q [] r t e s = (e ∙ sym t, s, refl)
tiles_more c p q (x ∷ rs) r t e s = (t.0, t.1, tiles_more c (record_end x) q rs r t.2 e s)

-- A record that is there is the one computed.
pub record_found : (c : List ℕ) (p : ℕ) (r : Framed) → r.at ≡ p → IsRecord c r → record_at c p ≡ Some r
record_found c p r a s = by_found (record_at c p) refl
  where
    there : p ≤ length c
    there = let i = some_bytes c r s in let j : record_end r ≤ length c = s.within in omega arith

    by_found : (o : Option Framed) → record_at c p ≡ o → record_at c p ≡ Some r
    by_found None e = absurd (record_none c p there e r a s)
    by_found (Some x) e =
        let y = record_stands c p x there e in
        e ∙ ap (λ z. Some z) (record_one c x r y.1 s (y.0 ∙ sym a))

-- Records before others, if these are records.
abbrev pub onto : List Framed → Result (List Framed) Flaw → Result (List Framed) Flaw
onto [] a = a
onto (r ∷ rs) a = before_records r (onto rs a)

-- The records before a place are computed first.
pub records_on : (c : List ℕ) (p q n : ℕ) (rs : List Framed) → Tiles c p rs q → q ≤ length c → length c - p < n → (m : ℕ) × (length c - q < m) × (records_within n c p ≡ onto rs (records_within m c q))
records_on c p q n [] t h i = let e : p ≡ q = t in (n, omega arith, ap (records_within n c) e)
records_on c p q zero (r ∷ rs) t h i = absurd (omega arith)
records_on c p q (suc n) (r ∷ rs) t h i =
    let a : r.at ≡ p = t.0 in
    let b = some_bytes c r t.1 in
    let w : record_end r ≤ length c = t.1.within in
    let k = records_on c (record_end r) q n rs t.2 h (omega arith) in
    let l : nat_le (length c) p ≡ false = grind arith in
    let f : record_at c p ≡ Some r = record_found c p r a t.1 in
    (k.0, k.1, rw (l, f) (ap (before_records r) k.2))

onto_ok : (rs : List Framed) → onto rs (Ok []) ≡ Ok rs
onto_ok [] = refl
onto_ok (r ∷ rs) = ap (before_records r) (onto_ok rs)

onto_err : (rs : List Framed) (f : Flaw) → onto rs (Err f) ≡ Err f
onto_err [] f = refl
onto_err (r ∷ rs) f = ap (before_records r) (onto_err rs f)

-- Records that cover the chunk are those computed.
pub records_ok : (c : List ℕ) (rs : List Framed) → AreRecords c rs → records_of c ≡ Ok rs
unfolding records_of
records_ok c rs t =
    let h = tiles_order c 68 (length c) rs t in
    let k = records_on c 68 (length c) (length c) rs t (omega arith) (omega arith) in
    k.2 ∙ at_end k.0 k.1
  where
    at_end : (m : ℕ) → length c - length c < m → onto rs (records_within m c (length c)) ≡ Ok rs
    at_end zero i = absurd (omega arith)
    at_end (suc m) i = let l : nat_le (length c) (length c) ≡ true = grind arith in rw l (onto_ok rs)

-- If records end early, the flaw is computed.
pub records_err : (c : List ℕ) (rs : List Framed) (o : ℕ) → 68 ≤ length c → Tiles c 68 rs o → o < length c → record_at c o ≡ None → records_of c ≡ Err (record { offset = o; reason = RecordSize })
unfolding records_of
records_err c rs o h t i e =
    let k = records_on c 68 o (length c) rs t (omega arith) (omega arith) in
    k.2 ∙ at_flaw k.0 k.1
  where
    at_flaw : (m : ℕ) → length c - o < m → onto rs (records_within m c o) ≡ Err (record { offset = o; reason = RecordSize })
    at_flaw zero j = absurd (omega arith)
    at_flaw (suc m) j = let l : nat_le (length c) o ≡ false = grind arith in rw (l, e) (onto_err rs (record { offset = o; reason = RecordSize }))

-- Records start one past another.
pub rising_of : (c : List ℕ) (n p q : ℕ) (rs : List Framed) → n ≤ p → Tiles c p rs q → Rising n rs
rising_of c n p q [] h t = tt
rising_of c n p q (r ∷ rs) h t =
    let a : r.at ≡ p = t.0 in
    let b = some_bytes c r t.1 in
    (omega arith, rising_of c (r.at + 1) (record_end r) q rs (omega arith) t.2)

-- Places rise as the records do.
pub rising_places : (p : ℕ) (rs : List Framed) → Rising p rs → (i j : ℕ) → i ≤ j → j < length (places_of rs) → (p ≤ get_or (places_of rs) i 0) × (get_or (places_of rs) i 0 ≤ get_or (places_of rs) j 0)
rising_places p [] h i j k l = absurd (omega arith)
rising_places p (r ∷ rs) h zero zero k l = (h.0, omega arith)
rising_places p (r ∷ rs) h zero (suc j) k l = let g = rising_places (r.at + 1) rs h.1 j j (omega arith) (omega arith) in (h.0, omega (arith, g.0))
rising_places p (r ∷ rs) h (suc i) zero k l = absurd (omega arith)
rising_places p (r ∷ rs) h (suc i) (suc j) k l = let g = rising_places (r.at + 1) rs h.1 i j (omega arith) (omega arith) in let q : p ≤ r.at = h.0 in (omega (arith, g.0), g.1)
