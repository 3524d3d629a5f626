-- If all output records are copied, so are the kept events, the remaining entries and the metadata record.
use Rattle.std.specs.Prelude.{◌≡◌, ◌⊎◌, ℕ, ◌+◌, Bool, true, false, ◌==◌, ◌||◌, List, [], ◌∷◌, reverse, filter, slice_get, zero, suc, Option, Some, None, cond, if◌then◌else◌}
use Rattle.std.specs.List.{AllByRecursion, filter_map, cons_option, enumerate_from, list_any}
use Rattle.std.proofs.Common.{ap, refl, sym, ◌∙◌, subst, inl, inr}
use Rattle.jfr_layout.specs.Classes.{Classes}
use Rattle.jfr_frame.specs.declared.framed.Framed.{Framed}
use Rattle.jfr_frame.proofs.RecordLaws.{record_one}
use Rattle.jfr_pool.specs.declared.link.Link.{Link}
use Rattle.jfr_pool.specs.declared.entry.EntryAt.{EntryAt}
use Rattle.jfr_pool.specs.Entries.{AreEntries, entries_from}
use Rattle.jfr_chunk.specs.Parts.{Parts, EventAt, AreParts, events_of, metadata_at}
use Rattle.jfr_chunk.specs.Reach.{kept_by, marked, reached_marks, remain}
use Rattle.jfr_chunk.specs.Scrub.{Whole, Chained, output_record_by, output_record_of, output_records, is_kept_or_metadata, written_anew}
use Rattle.jfr_worklist.specs.Members.{In}
use Rattle.jfr_worklist.proofs.Members.{contains_in, in_cases}
use Rattle.jfr_chunk.proofs.AllLaws.{all_in, in_filter_map}
use Rattle.jfr_chunk.proofs.TestLaws.{is_eq}
use Rattle.jfr_laws.proofs.Listed.{in_any}
use Rattle.jfr_laws.proofs.Marks.{all_marked}
use Rattle.jfr_laws.proofs.Order.{Numbered, found_numbered}
use Rattle.jfr_laws.proofs.Premises.{all_links, IsCheckpoint, chained_checkpoints, metadata_stands}
use Rattle.jfr_output.specs.RemainingRecords.{link_there}
use Rattle.jfr_output.proofs.CursorLaws.{cursor_first, event_in, events_given}
use Rattle.jfr_output.proofs.CheckpointEntries.{pools_number}
use Rattle.jfr_scrub.specs.declared.piece.Range.{Range}
use Rattle.jfr_scrub.specs.Bodies.{OutputRecordIsCopied}
use Rattle.jfr_scrub.specs.Pieces.{EntryIsCopied, EventIsCopied, MetadataIsCopied, RecordIsCopied}
use Rattle.jfr_scrub.proofs.GallopingLaws.{event_recorded}
use Rattle.jfr_scrub.proofs.RunLaws.{event_alone}

-- What holds of each member, by membership.
all_from : {X : Type 0} (P : X → Type 0) (xs : List X) → ((x : X) → In xs x → P x) → AllByRecursion P xs
all_from P [] f = tt
all_from P (x ∷ xs) f = (f x (inl refl), all_from P xs (λ y i. f y (inr i)))

in_marked : {X : Type 0} (marks : List Bool) (xs : List X) (x : X) → In (marked marks xs) x → In xs x
in_marked marks xs x i = all_in (In xs) (marked marks xs) x (all_marked (In xs) marks xs (all_from (In xs) xs (λ y j. j))) i

in_filter : {X : Type 0} (test : X → Bool) (xs : List X) (x : X) → In xs x → test x ≡ true → In (filter test xs) x
in_filter test [] x i e = absurd i
in_filter {X = X} test (y ∷ ys) x i e = by_test (test y) refl i (λ j. in_filter test ys x j e)
  where
    by_test : (b : Bool) → test y ≡ b → (y ≡ x) ⊎ In ys x → (In ys x → In (filter test ys) x) → In (cond b (y ∷ filter test ys) (filter test ys)) x
    by_test true q (inl h) f = inl h
    by_test false q (inl h) f = let g : test y ≡ test x = ap test h in cc
    by_test true q (inr j) f = inr (f j)
    by_test false q (inr j) f = f j

in_given : {X Y : Type 0} (f : X → Option Y) (xs : List X) (x : X) (y : Y) → In xs x → f x ≡ Some y → In (filter_map f xs) y
in_given f [] x y i e = absurd i
in_given {X = X} {Y = Y} f (z ∷ xs) x y i e = by_value (f z) refl i (λ j. in_given f xs x y j e)
  where
    by_value : (o : Option Y) → f z ≡ o → (z ≡ x) ⊎ In xs x → (In xs x → In (filter_map f xs) y) → In (cons_option o (filter_map f xs)) y
    by_value None q (inl h) k = cc (ap f h)
    by_value (Some w) q (inl h) k = inl (cc (ap f h))
    by_value None q (inr j) k = k j
    by_value (Some w) q (inr j) k = inr (k j)

in_get : {X : Type 0} (xs : List X) (x : X) → In xs x → (n : ℕ) × (slice_get xs n ≡ Some x)
in_get [] x i = absurd i
in_get (y ∷ ys) x (inl e) = (zero, ap (λ z. Some z) e)
in_get (y ∷ ys) x (inr i) = let r = in_get ys x i in (suc r.0, r.1)

-- The checkpoint of an entry.
entry_link : (c : List ℕ) (k : Classes) (n : ℕ) (ls : List Link) (es : List EntryAt) (e : EntryAt) → AreEntries c k n ls es → In es e → (l : Link) × In (enumerate_from n ls) (e.checkpoint, l)
entry_link c k n [] es e a i = absurd (subst (λ z. In z e) a i)
entry_link c k n (l ∷ ls) es e a i = by_part (in_cases (entries_from n 0 a.0) a.2 e (subst (λ z. In z e) a.3 i)) (λ j. entry_link c k (n + 1) ls a.2 e a.4 j)
  where
    by_part : In (entries_from n 0 a.0) e ⊎ In a.2 e → (In a.2 e → (m : Link) × In (enumerate_from (n + 1) ls) (e.checkpoint, m)) → (m : Link) × In (enumerate_from n (l ∷ ls)) (e.checkpoint, m)
    by_part (inl j) f =
        let q : e.checkpoint ≡ n = all_in (λ (x : EntryAt). x.checkpoint ≡ n) (entries_from n 0 a.0) e (pools_number n 0 a.0) j in
        (l, inl (λ h. (sym q h, l)))
    by_part (inr j) f = let r = f j in (r.0, inr r.1)

or_true : (b d : Bool) → d ≡ true → b || d ≡ true
or_true true d e = refl
or_true false d e = e

or_first : (b d : Bool) → b ≡ true → b || d ≡ true
or_first b d e = ap (λ z. z || d) e

module _ (new : Option (List ℕ)) (p : Parts) (a : AreParts p) (ps : List Range) where
  -- Of what stays whole.
  whole_copied : (kept : List EventAt) (remaining : List EntryAt) (r : Framed) → AllByRecursion (OutputRecordIsCopied remaining ps) (output_records new p kept) → In p.records r → link_there p r ≡ None
      → is_kept_or_metadata p kept r ≡ true → written_anew new p r ≡ None → RecordIsCopied ps r
  whole_copied kept remaining r c i l w n =
      all_in (OutputRecordIsCopied remaining ps) (output_records new p kept) (Whole r) c (in_given (output_record_of new p kept) p.records r (Whole r) i (λ j. output_record_by (l j) (w j) (n j) r))

  event_copied : (flags : List Bool) (remaining : List EntryAt) → AllByRecursion (OutputRecordIsCopied remaining ps) (output_records new p (kept_by p flags)) → (e : EventAt) → In (kept_by p flags) e
      → EventIsCopied ps e
  unfolding events_of
  event_copied flags remaining c e i =
      let there = in_filter_map (event_in p) p.records e (subst (λ z. In z e) (events_given p p.records) (in_marked flags (events_of p) e i)) in
      let r : Framed = there.0 in
      let recorded = event_recorded p r e there.2 in
      let got = in_get p.records r there.1 in
      let alone = event_alone p a got.0 r got.1 recorded.1 in
      let chosen : list_any (λ x. x.record_of.at == r.at) (kept_by p flags) ≡ true =
      in_any (λ (x : EventAt). x.record_of.at == r.at) (kept_by p flags) e i (is_eq e.record_of.at r.at (ap (λ (z : Framed). z.at) recorded.0)) in
      subst (RecordIsCopied ps) (sym recorded.0)
      (whole_copied (kept_by p flags) remaining r c there.1 alone.1 (or_first (list_any (λ x. x.record_of.at == r.at) (kept_by p flags)) (r.at == metadata_at p.bytes) chosen)
      (ap (λ t. if t then new else None) alone.0))

  pub events_are_copied : (flags : List Bool) (remaining : List EntryAt) → AllByRecursion (OutputRecordIsCopied remaining ps) (output_records new p (kept_by p flags))
      → AllByRecursion (EventIsCopied ps) (kept_by p flags)
  events_are_copied flags remaining c = all_from (EventIsCopied ps) (kept_by p flags) (event_copied flags remaining c)

  entry_copied : (kept : List EventAt) → AllByRecursion (OutputRecordIsCopied (remain p kept) ps) (output_records new p kept) → (e : EntryAt) → In (remain p kept) e → In p.entries e
      → EntryIsCopied ps e
  entry_copied kept c e i j =
      let remaining = remain p kept in
      let link = entry_link p.bytes p.classes 0 (reverse p.chain) p.entries e a.entries j in
      let there = in_filter_map (link_there p) p.records (e.checkpoint, link.0) (subst (λ z. In z (e.checkpoint, link.0)) ((cursor_first p [] a).links) link.1) in
      let r : Framed = there.0 in
      let all : AllByRecursion (EntryIsCopied ps) (filter (λ x. x.checkpoint == e.checkpoint) remaining) =
      all_in (OutputRecordIsCopied remaining ps) (output_records new p kept) (Chained e.checkpoint link.0) c
      (in_given (output_record_of new p kept) p.records r (Chained e.checkpoint link.0) there.1 (λ h. output_record_by (there.2 h) (is_kept_or_metadata p kept r) (written_anew new p r) r)) in
      all_in (EntryIsCopied ps) (filter (λ x. x.checkpoint == e.checkpoint) remaining) e all (in_filter (λ x. x.checkpoint == e.checkpoint) remaining e i (is_eq e.checkpoint e.checkpoint refl))

  pub entries_are_copied : (kept : List EventAt) → AllByRecursion (OutputRecordIsCopied (remain p kept) ps) (output_records new p kept) → AllByRecursion (EntryIsCopied ps) (remain p kept)
  unfolding remain
  entries_are_copied kept c = all_from (EntryIsCopied ps) (remain p kept) (λ e i. entry_copied kept c e i (in_marked (reached_marks p kept) p.entries e i))

  -- No checkpoint is a metadata record.
  no_link : link_there p a.metadata_record ≡ None
  no_link = by_find (link_there p a.metadata_record) refl
    where
      by_find : (o : Option Numbered) → link_there p a.metadata_record ≡ o → o ≡ None
      by_find None g = refl
      by_find (Some x) g =
          let h = found_numbered (IsCheckpoint p.bytes) (all_links p) a.metadata_record.at x (chained_checkpoints p a) g in
          let j : x.1.frame ≡ a.metadata_record = record_one p.bytes x.1.frame a.metadata_record h.0.0 (metadata_stands p a) h.1 in
          let n : x.1.frame.type_id ≡ a.metadata_record.type_id = ap (λ (z : Framed). z.type_id) j in
          let o : x.1.frame.type_id ≡ 1 = h.0.1 in
          let m : a.metadata_record.type_id ≡ 0 = a.metadata_there.type_is in
          cc

  pub metadata_is_copied : (kept : List EventAt) (remaining : List EntryAt) → AllByRecursion (OutputRecordIsCopied remaining ps) (output_records new p kept) → new ≡ None → MetadataIsCopied ps p
  metadata_is_copied kept remaining c none =
      let r = a.metadata_record in
      record {
        frame = r;
        there = a.metadata_there;
        copied = whole_copied kept remaining r c (contains_in p.records r a.metadata_there.listed) no_link
            (or_true (list_any (λ e. e.record_of.at == r.at) kept) (r.at == metadata_at p.bytes) (is_eq r.at (metadata_at p.bytes) a.metadata_there.place))
            (ap (λ t. if t then new else None) (is_eq r.at (metadata_at p.bytes) a.metadata_there.place) ∙ none);
      }
