-- A record that is written whole is found again at the offset where it is written.
use Rattle.std.specs.Prelude.{◌≡◌, ℕ, ◌+◌, ◌≤◌, Bool, true, false, ◌==◌, List, [], ◌∷◌, length, map, Option, Some, None, is_some}
use Rattle.std.specs.List.{AllByRecursion, cons_option}
use Rattle.std.proofs.Common.{ap, arith, refl, sym, ◌∙◌, subst, inl, inr}
use Rattle.std.proofs.lemmas.Bool.Decides.{nat_tests}
use Rattle.jfr_base.proofs.HoldLaws.{Holds, holds_parts}
use Rattle.jfr_layout.specs.Classes.{Classes}
use Rattle.jfr_frame.specs.declared.framed.Framed.{Framed}
use Rattle.jfr_frame.specs.Records.{IsRecord, record_bytes}
use Rattle.jfr_frame.proofs.RecordLaws.{record_one}
use Rattle.jfr_pool.specs.declared.entry.EntryAt.{EntryAt}
use Rattle.jfr_chunk.specs.Scrub.{OutputRecord, Whole, Chained, Rebuilt, Written, output_record_by, written, record_of, moved}
use Rattle.jfr_worklist.specs.Members.{In}
use Rattle.jfr_chunk.proofs.TestLaws.{is_eq}
use Rattle.jfr_laws.proofs.Order.{Numbered, numbered_at, output_record_in, output_records_in, found_numbered}
use Rattle.jfr_laws.proofs.Copied.{copied_to}
use Rattle.jfr_laws.proofs.ReadBack.{moved_frame}
use Rattle.jfr_laws.proofs.OutputRecords.{Deltas, own_frame, chained_bytes, bytes_from, new_frame, IsOutputRecordIn}

-- What is written for a record was at the record's offset.
pub output_record_place : (all : List Numbered) (whole : Framed → Bool) (new : Framed → Option (List ℕ)) (r : Framed) (s : OutputRecord) → output_record_in all whole new r ≡ Some s
    → (record_of s).at ≡ r.at
output_record_place all whole new r s e = by_case (numbered_at all r.at) refl (whole r) (new r) e
  where
    every : (ts : List Numbered) → AllByRecursion (λ (m : Numbered). Unit {0}) ts
    every [] = tt
    every (t ∷ ts) = (tt, every ts)

    by_case : (o : Option Numbered) → numbered_at all r.at ≡ o → (t : Bool) (w : Option (List ℕ)) → output_record_by o t w r ≡ Some s → (record_of s).at ≡ r.at
    by_case (Some l) g t w e = let h : Chained l.0 l.1 ≡ s = cc in ap (λ z. (record_of z).at) (sym h) ∙ (found_numbered (λ m. Unit {0}) all r.at l (every all) g).1
    by_case None g true None e = let h : Whole r ≡ s = cc in ap (λ z. (record_of z).at) (sym h)
    by_case None g true (Some x) e = let h : Rebuilt r x ≡ s = cc in ap (λ z. (record_of z).at) (sym h)
    by_case None g false w e = cc

-- What is written for a record that stays, unchanged or built anew; its bytes, and the record in the output.
abbrev pub shown : Option (List ℕ) → Framed → OutputRecord
shown None f = Whole f
shown (Some x) f = Rebuilt f x

abbrev pub shown_bytes : List ℕ → Option (List ℕ) → Framed → List ℕ
shown_bytes c None f = record_bytes c f
shown_bytes c (Some x) f = x

abbrev pub shown_frame : List ℕ → Option (List ℕ) → Framed → ℕ → Framed
shown_frame c None f at = copied_to c at f
shown_frame c (Some x) f at = moved_frame at (own_frame x) (length x)

-- It is written if it is no chained checkpoint.
pub shown_is : (f : Framed) (o : Option Numbered) (t : Bool) (w : Option (List ℕ)) → o ≡ None → t ≡ true → output_record_by o t w f ≡ Some (shown w f)
shown_is f None true None e g = refl
shown_is f None true (Some x) e g = refl
shown_is f None false w e g = cc
shown_is f (Some l) t w e g = cc

-- A record at another offset than the first of a list is after it.
pub after_first : (r f : Framed) (rs : List Framed) → (r.at == f.at) ≡ false → In (r ∷ rs) f → In rs f
after_first r f rs t (inr j) = j
after_first r f rs t (inl e) = let u : (r.at == f.at) ≡ true = is_eq r.at f.at (ap (λ (z : Framed). z.at) e) in cc

pub same_test : (x y z : ℕ) → (x == y) ≡ false → z ≡ x → (z == y) ≡ false
same_test x y z h g = rw g h

module _ (c : List ℕ) (remaining : List EntryAt) (k : Classes) (b : List ℕ) where
  -- The record is at an offset in the output, to which its old offset leads.
  pub record Found (f : Framed) (w : Option (List ℕ)) (at : ℕ) (ws : List Written) : Type 0 where
    pub place : ℕ
    pub from : at ≤ place
    pub held : Holds b (length b) place (shown_bytes c w f)
    pub leads : moved ws f.at ≡ place
    pub listed : In (map (new_frame c remaining) ws) (shown_frame c w f place)

  module _ (all : List Numbered) (whole : Framed → Bool) (new : Framed → Option (List ℕ)) (f : Framed) (f_is : IsRecord c f) (no_link : numbered_at all f.at ≡ None) (output_records : whole f ≡ true) where
    abbrev RecordsAfter : List Framed → List OutputRecord
    RecordsAfter rs = output_records_in all whole new rs

    -- It is the first that is written.
    found_here : (w : Option (List ℕ)) (rest : List OutputRecord) (at : ℕ) (older : Option ℕ) → Holds b (length b) at (bytes_from c remaining at older (shown w f ∷ rest))
        → Found f w at (written c remaining at older (shown w f ∷ rest))
    found_here None rest at older h =
        let n : ℕ = length (record_bytes c f) in
        let p = holds_parts b (length b) at (record_bytes c f) (bytes_from c remaining (at + n) older rest) h in
        record { place = at; from = omega arith; held = p.0; leads = rw (is_eq f.at f.at refl) refl; listed = inl refl }
    found_here (Some x) rest at older h =
        let n : ℕ = length x in
        let p = holds_parts b (length b) at x (bytes_from c remaining (at + n) older rest) h in
        record { place = at; from = omega arith; held = p.0; leads = rw (is_eq f.at f.at refl) refl; listed = inl refl }

    -- It is written after another.
    found_later : (w : Option (List ℕ)) (x : OutputRecord) (ws : List Written) (at n : ℕ) (older : Option ℕ) → ((record_of x).at == f.at) ≡ false → Found f w (at + n) ws
        → Found f w at (record { output_record = x; at = at; newest = older } ∷ ws)
    found_later w x ws at n older t i =
        let z : at + n ≤ i.place = i.from in
        record { place = i.place; from = omega arith; held = i.held; leads = rw t i.leads; listed = inr i.listed }

    pub found_back : (rs : List Framed) (at : ℕ) (older : Option ℕ) → AllByRecursion (IsRecord c) rs → In rs f → AllByRecursion (IsOutputRecordIn c remaining k) (RecordsAfter rs)
        → Deltas (is_some older) (RecordsAfter rs)
        → Holds b (length b) at (bytes_from c remaining at older (RecordsAfter rs)) → Found f (new f) at (written c remaining at older (RecordsAfter rs))
    found_back [] at older a i s d h = absurd i
    found_back (r ∷ rs) at older a i s d h = by_place (r.at == f.at) refl i (λ at older i s d h. found_back rs at older a.1 i s d h) (output_record_in all whole new r) refl s d h
      where
        Later : Type 0
        Later = (at : ℕ) (older : Option ℕ) → In rs f → AllByRecursion (IsOutputRecordIn c remaining k) (RecordsAfter rs) → Deltas (is_some older) (RecordsAfter rs) → Holds b (length b) at
            (bytes_from c remaining at older (RecordsAfter rs)) → Found f (new f) at (written c remaining at older (RecordsAfter rs))

        by_place : (t : Bool) → (r.at == f.at) ≡ t → In (r ∷ rs) f → Later → (o : Option OutputRecord) → output_record_in all whole new r ≡ o
            → AllByRecursion (IsOutputRecordIn c remaining k) (cons_option o (RecordsAfter rs)) → Deltas (is_some older) (cons_option o (RecordsAfter rs))
            → Holds b (length b) at (bytes_from c remaining at older (cons_option o (RecordsAfter rs)))
            → Found f (new f) at (written c remaining at older (cons_option o (RecordsAfter rs)))
        by_place true t i later o q s d h =
            let p : r.at ≡ f.at = grind (arith, nat_tests) in
            let rf : r ≡ f = record_one c r f a.0 f_is p in
            let w : output_record_in all whole new f ≡ Some (shown (new f) f) = shown_is f (numbered_at all f.at) (whole f) (new f) no_link output_records in
            let e : o ≡ Some (shown (new f) f) = sym q ∙ (ap (output_record_in all whole new) rf ∙ w) in
            subst (λ z. Found f (new f) at (written c remaining at older (cons_option z (RecordsAfter rs)))) (sym e)
            (found_here (new f) (RecordsAfter rs) at older (subst (λ z. Holds b (length b) at (bytes_from c remaining at older (cons_option z (RecordsAfter rs)))) e h))
        by_place false t i later None q s d h = later at older (after_first r f rs t i) s d h
        by_place false t i later (Some (Whole x)) q s d h =
            let n : ℕ = length (record_bytes c x) in
            let p = holds_parts b (length b) at (record_bytes c x) (bytes_from c remaining (at + n) older (RecordsAfter rs)) h in
            found_later (new f) (Whole x) (written c remaining (at + n) older (RecordsAfter rs)) at n older (same_test r.at f.at x.at t (output_record_place all whole new r (Whole x) q))
            (later (at + n) older (after_first r f rs t i) s.1 d p.1)
        by_place false t i later (Some (Rebuilt x y)) q s d h =
            let n : ℕ = length y in
            let p = holds_parts b (length b) at y (bytes_from c remaining (at + n) older (RecordsAfter rs)) h in
            found_later (new f) (Rebuilt x y) (written c remaining (at + n) older (RecordsAfter rs)) at n older (same_test r.at f.at x.at t (output_record_place all whole new r (Rebuilt x y) q))
            (later (at + n) older (after_first r f rs t i) s.1 d p.1)
        by_place false t i later (Some (Chained j l)) q s d h =
            let n : ℕ = length (chained_bytes c remaining at older j l) in
            let p = holds_parts b (length b) at (chained_bytes c remaining at older j l) (bytes_from c remaining (at + n) (Some at) (RecordsAfter rs)) h in
            found_later (new f) (Chained j l) (written c remaining (at + n) (Some at) (RecordsAfter rs)) at n older
            (same_test r.at f.at l.frame.at t (output_record_place all whole new r (Chained j l) q)) (later (at + n) (Some at) (after_first r f rs t i) s.1 d.1 p.1)
