-- The chained checkpoints that stay come in the order of the records.
use Rattle.std.specs.Prelude.{◌≡◌, ℕ, ◌+◌, ◌<◌, ◌≤◌, Bool, true, false, ◌==◌, ◌⊎◌, List, [], ◌∷◌, ◌++◌, find, Option, Some, None, ⊤, if◌then◌else◌}
use Rattle.std.specs.List.{filter_map, cons_option, AllByRecursion}
use Rattle.std.proofs.Common.{ap, arith, refl, sym, ◌∙◌, inl, inr, append_assoc, subst}
use Rattle.std.proofs.lemmas.Bool.{cases_lt}
use Rattle.std.proofs.lemmas.Bool.Decides.{nat_tests}
use Rattle.jfr_frame.specs.declared.framed.Framed.{Framed}
use Rattle.jfr_frame.specs.Records.{Tiles, record_end}
use Rattle.jfr_frame.proofs.RecordLaws.{some_bytes}
use Rattle.jfr_pool.specs.declared.link.Link.{Link}
use Rattle.jfr_chunk.specs.Scrub.{OutputRecord, Whole, Chained, Rebuilt, output_record_by}

-- A chained checkpoint with its number.
abbrev pub Numbered : Type 0
Numbered = ℕ × Link

-- The one that starts at a place.
abbrev pub numbered_at : List Numbered → ℕ → Option Numbered
numbered_at all at = find (λ l. l.1.frame.at == at) all

-- What is written for a record, given a test for those that are written whole.
abbrev pub output_record_in : List Numbered → (Framed → Bool) → (Framed → Option (List ℕ)) → Framed → Option OutputRecord
output_record_in all whole new r = output_record_by (numbered_at all r.at) (whole r) (new r) r

abbrev pub output_records_in : List Numbered → (Framed → Bool) → (Framed → Option (List ℕ)) → List Framed → List OutputRecord
output_records_in all whole new rs = filter_map (output_record_in all whole new) rs

-- The checkpoints among what stays.
abbrev pub chained_of : List OutputRecord → List Numbered
chained_of [] = []
chained_of (Whole r ∷ ss) = chained_of ss
chained_of (Chained i l ∷ ss) = (i, l) ∷ chained_of ss
chained_of (Rebuilt r x ∷ ss) = chained_of ss

-- The numbered links start one after another, from an offset on.
abbrev pub Rising : ℕ → List Numbered → Type 0
Rising at [] = ⊤
Rising at (t ∷ ts) = (at ≤ t.1.frame.at) × Rising (t.1.frame.at + 1) ts

-- A record starts at the place.
abbrev pub Occurs : ℕ → List Framed → Type 0
Occurs at [] = ⊥
Occurs at (r ∷ rs) = (r.at ≡ at) ⊎ Occurs at rs

abbrev pub AllOccur : List Framed → List Numbered → Type 0
AllOccur rs ts = AllByRecursion (λ t. Occurs t.1.frame.at rs) ts

-- All before a place.
abbrev pub Low : ℕ → List Numbered → Type 0
Low at ts = AllByRecursion (λ t. t.1.frame.at < at) ts

pub low_more : (p q : ℕ) (ts : List Numbered) → p ≤ q → Low p ts → Low q ts
low_more p q [] h a = tt
low_more p q (t ∷ ts) h a = let i : t.1.frame.at < p = a.0 in (omega arith, low_more p q ts h a.1)

pub low_append : (at : ℕ) (ds : List Numbered) (t : Numbered) → Low at ds → t.1.frame.at < at → Low at (ds ++ (t ∷ []))
low_append at [] t a h = (h, tt)
low_append at (d ∷ ds) t a h = (a.0, low_append at ds t a.1 h)

-- None is found at a place before all.
pub none_rising : (at p : ℕ) (ts : List Numbered) → at < p → Rising p ts → numbered_at ts at ≡ None
none_rising at p [] h a = refl
none_rising at p (t ∷ ts) h a =
    let i : p ≤ t.1.frame.at = a.0 in
    let e : (t.1.frame.at == at) ≡ false = grind (arith, nat_tests) in
    rw e (none_rising at (t.1.frame.at + 1) ts (omega arith) a.1)

-- Those before a place are passed over.
pub after_low : (at p : ℕ) (ds ts : List Numbered) → p ≤ at → Low p ds → numbered_at (ds ++ ts) at ≡ numbered_at ts at
after_low at p [] ts h a = refl
after_low at p (d ∷ ds) ts h a =
    let i : d.1.frame.at < p = a.0 in
    let e : (d.1.frame.at == at) ≡ false = grind (arith, nat_tests) in
    rw e (after_low at p ds ts h a.1)

-- Links that start after a record occur after it.
occur_after : (r : Framed) (rs : List Framed) (p : ℕ) (ts : List Numbered) → r.at < p → Rising p ts → AllOccur (r ∷ rs) ts → AllOccur rs ts
occur_after r rs p [] h a o = tt
occur_after r rs p (t ∷ ts) h a o = (one o.0, occur_after r rs (t.1.frame.at + 1) ts (omega (arith, a.0)) a.1 o.1)
  where
    one : ((r.at ≡ t.1.frame.at) ⊎ Occurs t.1.frame.at rs) → Occurs t.1.frame.at rs
    one (inl e) = let i : p ≤ t.1.frame.at = a.0 in absurd (omega arith)
    one (inr o) = o

-- A record starts at the offset of the first record, or later.
pub occurs_low : (c : List ℕ) (p q : ℕ) (rs : List Framed) (at : ℕ) → Tiles c p rs q → Occurs at rs → p ≤ at
occurs_low c p q [] at t o = absurd o
occurs_low c p q (r ∷ rs) at t (inl e) = let f : r.at ≡ p = t.0 in omega arith
occurs_low c p q (r ∷ rs) at t (inr o) = let i : record_end r ≤ at = occurs_low c (record_end r) q rs at t.2 o in let f : r.at ≡ p = t.0 in omega arith

module _ (c : List ℕ) (all : List Numbered) (whole : Framed → Bool) (new : Framed → Option (List ℕ)) where
  output_record_none : (r : Framed) (rs : List Framed) → numbered_at all r.at ≡ None → chained_of (output_records_in all whole new (r ∷ rs)) ≡ chained_of (output_records_in all whole new rs)
  output_record_none r rs e = ap (λ o. chained_of (cons_option (output_record_by o (whole r) (new r) r) (output_records_in all whole new rs))) e ∙ by_test (whole r) (new r)
    where
      by_test : (t : Bool) (o : Option (List ℕ)) → chained_of (cons_option (output_record_by None t o r) (output_records_in all whole new rs)) ≡ chained_of (output_records_in all whole new rs)
      by_test true None = refl
      by_test true (Some x) = refl
      by_test false o = refl

  output_record_some : (r : Framed) (rs : List Framed) (x : Numbered) → numbered_at all r.at ≡ Some x
      → chained_of (output_records_in all whole new (r ∷ rs)) ≡ x ∷ chained_of (output_records_in all whole new rs)
  output_record_some r rs x e = ap (λ o. chained_of (cons_option (output_record_by o (whole r) (new r) r) (output_records_in all whole new rs))) e

  -- The links that are done are before the records that are left, and those to do are among them.
  pub in_order : (rs : List Framed) (p q : ℕ) (done todo : List Numbered) → Tiles c p rs q → all ≡ done ++ todo → Low p done → Rising p todo → AllOccur rs todo
      → chained_of (output_records_in all whole new rs) ≡ todo
  in_order [] p q done [] t e a b o = refl
  in_order [] p q done (x ∷ todo) t e a b o = absurd o.0
  in_order (r ∷ rs) p q done [] t e a b o =
      let i : r.at < record_end r = some_bytes c r t.1 in
      let s : r.at ≡ p = t.0 in
      let f : numbered_at all r.at ≡ None = ap (λ z. numbered_at z r.at) e ∙ after_low r.at p done [] (omega arith) a in
      output_record_none r rs f ∙ in_order rs (record_end r) q done [] t.2 e (low_more p (record_end r) done (omega arith) a) tt tt
  in_order (r ∷ rs) p q done (x ∷ todo) t e a b o =
      by_place (cases_lt r.at x.1.frame.at)
      (in_order rs (record_end r) q done (x ∷ todo) t.2 e)
      (in_order rs (record_end r) q (done ++ (x ∷ [])) todo t.2 (e ∙ sym (append_assoc done (x ∷ []) todo)))
    where
      i : r.at < record_end r
      i = some_bytes c r t.1

      s : r.at ≡ p
      s = t.0

      all_after : (ts : List Numbered) → AllOccur rs ts → (m : ℕ) → Rising m ts → Rising (record_end r) ts
      all_after [] o m a = tt
      all_after (z ∷ ts) o m a = (occurs_low c (record_end r) q rs z.1.frame.at t.2 o.0, a.1)

      by_place : ((r.at < x.1.frame.at) ⊎ (x.1.frame.at ≤ r.at))
          → (Low (record_end r) done → Rising (record_end r) (x ∷ todo) → AllOccur rs (x ∷ todo) → chained_of (output_records_in all whole new rs) ≡ x ∷ todo)
          → (Low (record_end r) (done ++ (x ∷ [])) → Rising (record_end r) todo → AllOccur rs todo → chained_of (output_records_in all whole new rs) ≡ todo)
          → chained_of (output_records_in all whole new (r ∷ rs)) ≡ x ∷ todo
      by_place (inl h) f g =
          let u : Rising (r.at + 1) (x ∷ todo) = (omega arith, b.1) in
          let v = occur_after r rs (r.at + 1) (x ∷ todo) (omega arith) u o in
          let w : numbered_at all r.at ≡ None = ap (λ z. numbered_at z r.at) e ∙ (after_low r.at p done (x ∷ todo) (omega arith) a ∙ none_rising r.at (r.at + 1) (x ∷ todo) (omega arith) u) in
          output_record_none r rs w ∙ f (low_more p (record_end r) done (omega arith) a) (all_after (x ∷ todo) v (r.at + 1) u) v
      by_place (inr h) f g =
          let y : p ≤ x.1.frame.at = b.0 in
          let u : r.at < record_end r = i in
          let z : x.1.frame.at ≡ r.at = omega arith in
          let v = occur_after r rs (x.1.frame.at + 1) todo (omega arith) b.1 o.1 in
          let w : numbered_at all r.at ≡ Some x = ap (λ z. numbered_at z r.at) e ∙ (after_low r.at p done (x ∷ todo) (omega arith) a ∙ found z) in
          output_record_some r rs x w ∙ ap (λ ts. x ∷ ts)
          (g (low_append (record_end r) done x (low_more p (record_end r) done (omega arith) a) (omega arith)) (all_after todo v (x.1.frame.at + 1) b.1) v)
        where
          found : x.1.frame.at ≡ r.at → numbered_at (x ∷ todo) r.at ≡ Some x
          found z = let k : (x.1.frame.at == r.at) ≡ true = grind (arith, nat_tests) in rw k refl

-- The numbered checkpoint that is found at a place has what all have, and starts there.
pub found_numbered : (P : Numbered → Type 0) (all : List Numbered) (at : ℕ) (x : Numbered) → AllByRecursion P all → numbered_at all at ≡ Some x → P x × (x.1.frame.at ≡ at)
found_numbered P [] at x a e = cc
found_numbered P (y ∷ ys) at x a e = by_test (y.1.frame.at == at) refl e (found_numbered P ys at x a.1)
  where
    by_test : (t : Bool) → (y.1.frame.at == at) ≡ t → (if t then Some y else numbered_at ys at) ≡ Some x → (numbered_at ys at ≡ Some x → P x × (x.1.frame.at ≡ at)) → P x × (x.1.frame.at ≡ at)
    by_test true h e f =
        let g : y ≡ x = cc in
        let i : y.1.frame.at ≡ at = grind (arith, nat_tests) in
        (subst P g a.0, subst (λ (z : Numbered). z.1.frame.at ≡ at) g i)
    by_test false h e f = f e
