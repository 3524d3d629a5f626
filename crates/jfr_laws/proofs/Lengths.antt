-- The output is no longer than the records were, and the offset of its last checkpoint.
use Rattle.std.specs.Prelude.{◌≡◌, ℕ, ◌+◌, ◌≤◌, Bool, true, false, List, [], ◌∷◌, length, Option, Some, None, is_some, ⊤}
use Rattle.std.specs.List.{AllByRecursion, cons_option}
use Rattle.std.proofs.Common.{ap, arith, refl, ◌∙◌}
use Rattle.jfr_layout.specs.Classes.{Classes}
use Rattle.jfr_frame.specs.declared.framed.Framed.{Framed}
use Rattle.jfr_frame.specs.Records.{IsRecord, Tiles, record_bytes, record_end}
use Rattle.jfr_frame.proofs.RecordLaws.{record_one}
use Rattle.jfr_pool.specs.declared.link.Link.{Link}
use Rattle.jfr_pool.specs.declared.entry.EntryAt.{EntryAt}
use Rattle.jfr_chunk.specs.Scrub.{OutputRecord, Whole, Chained, Rebuilt, output_record_by, written, record_of, newest_at}
use Rattle.jfr_laws.proofs.Chains.{last_place}
use Rattle.jfr_laws.proofs.Order.{Numbered, numbered_at, output_records_in, chained_of, found_numbered}
use Rattle.jfr_laws.proofs.Copied.{record_length}
use Rattle.jfr_laws.proofs.OutputRecords.{Deltas, rebuilt_length, chained_bytes, bytes_from, new_link, new_links, IsOutputRecordIn, chained_small, whole_length, chained_length}

-- The sizes of the records that stay, in all.
abbrev pub sizes : List OutputRecord → ℕ
sizes [] = 0
sizes (s ∷ ss) = (record_of s).size + sizes ss

-- The offset of the last link, or of the older one if there is none.
abbrev pub last_from : Option ℕ → List Link → ℕ
last_from None [] = 0
last_from (Some at) [] = at
last_from older (l ∷ ls) = last_place l ls

-- The older offset, if there is one, is at most this offset.
abbrev pub AtMost : Option ℕ → ℕ → Type 0
AtMost None at = ⊤
AtMost (Some older) at = older ≤ at

pub at_most_more : (older : Option ℕ) (at n : ℕ) → AtMost older at → AtMost older (at + n)
at_most_more None at n o = tt
at_most_more (Some z) at n o = omega arith

pub last_joined : (l : Link) (ls : List Link) → last_from (Some l.frame.at) ls ≡ last_place l ls
last_joined l [] = refl
last_joined l (m ∷ ls) = refl

module _ (c : List ℕ) (remaining : List EntryAt) where
  pub length_back : (k : Classes) (ss : List OutputRecord) (at : ℕ) (older : Option ℕ) → AllByRecursion (IsOutputRecordIn c remaining k) ss → Deltas (is_some older) ss
      → length (bytes_from c remaining at older ss) ≤ sizes ss
  length_back k [] at older s d = omega arith
  length_back k (Whole r ∷ ss) at older s d =
      let n : ℕ = length (record_bytes c r) in
      let i : n ≡ r.size = record_length c r s.0 in
      let j = length_back k ss (at + n) older s.1 d in
      omega (arith, whole_length c remaining r ss at older)
  length_back k (Rebuilt r x ∷ ss) at older s d =
      let i : length x ≤ r.size = s.0.2 in
      let j = length_back k ss (at + length x) older s.1 d in
      omega (arith, rebuilt_length c remaining r x ss at older)
  length_back k (Chained i l ∷ ss) at older s d =
      let n : ℕ = length (chained_bytes c remaining at older i l) in
      let e : n ≤ l.frame.size = chained_small c remaining k i l at older s.0 d.0 in
      let j = length_back k ss (at + n) (Some at) s.1 d.1 in
      omega (arith, chained_length c remaining i l ss at older)

  -- The last checkpoint starts at the offset of the last link.
  pub last_back : (ss : List OutputRecord) (at : ℕ) (older : Option ℕ) → newest_at older (written c remaining at older ss) ≡ last_from older (new_links c remaining at older ss)
  last_back [] at None = refl
  last_back [] at (Some o) = refl
  last_back (Whole r ∷ ss) at None = last_back ss (at + length (record_bytes c r)) None
  last_back (Whole r ∷ ss) at (Some o) = last_back ss (at + length (record_bytes c r)) (Some o)
  last_back (Rebuilt r x ∷ ss) at None = last_back ss (at + length x) None
  last_back (Rebuilt r x ∷ ss) at (Some o) = last_back ss (at + length x) (Some o)
  last_back (Chained i l ∷ ss) at None =
      let n : ℕ = length (chained_bytes c remaining at None i l) in
      last_back ss (at + n) (Some at) ∙ last_joined (new_link c remaining at None i l) (new_links c remaining (at + n) (Some at) ss)
  last_back (Chained i l ∷ ss) at (Some o) =
      let n : ℕ = length (chained_bytes c remaining at (Some o) i l) in
      last_back ss (at + n) (Some at) ∙ last_joined (new_link c remaining at (Some o) i l) (new_links c remaining (at + n) (Some at) ss)

  -- It starts in what is written.
  pub last_bound : (ss : List OutputRecord) (at : ℕ) (older : Option ℕ) → AtMost older at → newest_at older (written c remaining at older ss) ≤ at + length (bytes_from c remaining at older ss)
  last_bound [] at None o = omega arith
  last_bound [] at (Some z) o = let i : z ≤ at = o in omega arith
  last_bound (Whole r ∷ ss) at None o =
      let n : ℕ = length (record_bytes c r) in
      let i = last_bound ss (at + n) None tt in
      omega (arith, whole_length c remaining r ss at None)
  last_bound (Whole r ∷ ss) at (Some z) o =
      let n : ℕ = length (record_bytes c r) in
      let i = last_bound ss (at + n) (Some z) (at_most_more (Some z) at n o) in
      omega (arith, whole_length c remaining r ss at (Some z))
  last_bound (Rebuilt r x ∷ ss) at None o =
      let i = last_bound ss (at + length x) None tt in
      omega (arith, rebuilt_length c remaining r x ss at None)
  last_bound (Rebuilt r x ∷ ss) at (Some z) o =
      let i = last_bound ss (at + length x) (Some z) (at_most_more (Some z) at (length x) o) in
      omega (arith, rebuilt_length c remaining r x ss at (Some z))
  last_bound (Chained j l ∷ ss) at older o =
      let n : ℕ = length (chained_bytes c remaining at older j l) in
      let i = last_bound ss (at + n) (Some at) (omega arith) in
      omega (arith, chained_length c remaining j l ss at older)

  -- Where no link is written, no checkpoint stays.
  pub no_links : (ss : List OutputRecord) (at : ℕ) (older : Option ℕ) → new_links c remaining at older ss ≡ [] → chained_of ss ≡ []
  no_links [] at older e = refl
  no_links (Whole r ∷ ss) at older e = no_links ss (at + length (record_bytes c r)) older e
  no_links (Rebuilt r x ∷ ss) at older e = no_links ss (at + length x) older e
  no_links (Chained i l ∷ ss) at older e = absurd (none (new_link c remaining at older i l) (new_links c remaining (at + length (chained_bytes c remaining at older i l)) (Some at) ss) e)
    where
      none : (x : Link) (xs : List Link) → x ∷ xs ≡ [] → ⊥
      none x xs e = cc

-- What stays is no larger than the records.
pub sizes_within : (c : List ℕ) (all : List Numbered) (whole : Framed → Bool) (new : Framed → Option (List ℕ)) → AllByRecursion (λ (m : Numbered). IsRecord c m.1.frame) all
    → (rs : List Framed) (p q : ℕ) → Tiles c p rs q → sizes (output_records_in all whole new rs) + p ≤ q
sizes_within c all whole new a [] p q t = let e : p ≡ q = t in omega arith
sizes_within c all whole new a (r ∷ rs) p q t = by_find (numbered_at all r.at) refl (whole r) (new r) (sizes_within c all whole new a rs (record_end r) q t.2)
  where
    by_find : (o : Option Numbered) → numbered_at all r.at ≡ o → (u : Bool) (w : Option (List ℕ)) → sizes (output_records_in all whole new rs) + record_end r ≤ q
        → sizes (cons_option (output_record_by o u w r) (output_records_in all whole new rs)) + p ≤ q
    by_find (Some l) e u w i =
        let f = found_numbered (λ (m : Numbered). IsRecord c m.1.frame) all r.at l a e in
        let h : l.1.frame ≡ r = record_one c l.1.frame r f.0 t.1 f.1 in
        let z : l.1.frame.size ≡ r.size = ap (λ (x : Framed). x.size) h in
        let y : r.at ≡ p = t.0 in
        omega arith
    by_find None e true None i = let y : r.at ≡ p = t.0 in omega arith
    by_find None e true (Some x) i = let y : r.at ≡ p = t.0 in omega arith
    by_find None e false w i = let y : r.at ≡ p = t.0 in omega arith
