-- Scrubbing what was scrubbed, with all its events kept, changes nothing.
use Rattle.std.specs.Prelude.{◌≡◌, ◌⊎◌, ℕ, ◌+◌, ◌^◌, ◌<◌, ◌≤◌, Bool, true, false, ◌==◌, List, [], ◌∷◌, ◌++◌, length, find, Option, None, Some, if◌then◌else◌}
use Rattle.std.specs.List.{AllByRecursion}
use Rattle.std.specs.Option.{option_map_or}
use Rattle.std.proofs.Common.{ap, arith, refl, sym, ◌∙◌, subst, inl, inr}
use Rattle.std.proofs.lemmas.Bool.Decides.{nat_tests}
use Rattle.jfr_base.proofs.HoldLaws.{Holds}
use Rattle.jfr_meta.specs.Body.{Body}
use Rattle.jfr_chunk.specs.Parts.{Parts, EventAt, AreParts, events_of, metadata_at}
use Rattle.jfr_chunk.specs.Reach.{Reached, reached_marks, remain}
use Rattle.jfr_chunk.specs.Scrub.{OutputRecord, Written, output_records, written_anew, written, record_of, moved, header_with, assembled}
use Rattle.jfr_chunk.specs.Laws.{AreEvents}
use Rattle.jfr_laws.proofs.Front.{front_again}
use Rattle.jfr_laws.proofs.Premises.{GoodAnew, metadata_stands}
use Rattle.jfr_laws.proofs.Rebuilt.{anew_only, metadata_is, new_parts, parts_are_valid}
use Rattle.jfr_laws.proofs.Rewritten.{new_output_records, IsPlaced, Rewritten, rewritten}
use Rattle.jfr_laws.proofs.Same.{all_remain}
use Rattle.jfr_laws.proofs.AllOutput.{is_metadata, output_records_settled}
use Rattle.jfr_frame.specs.declared.framed.Framed.{Framed}
use Rattle.jfr_laws.proofs.Found.{shown_frame}
use Rattle.jfr_layout.specs.Classes.{Classes}
use Rattle.jfr_laws.proofs.Suits.{Suits}
use Rattle.jfr_laws.proofs.OutputRecords.{bytes_from, IsOutputRecordIn}
use Rattle.jfr_laws.proofs.Whole.{remaining_of, written_of, body_of, is_ready, metadata_found, metadata_new, MetadataReads, Leading, last_of, metadata_of, out}

-- An offset leads to itself, or to none, if each record is written at its own offset.
moved_itself : (ws : List Written) (x : ℕ) → AllByRecursion IsPlaced ws → (moved ws x ≡ x) ⊎ (moved ws x ≡ 0)
moved_itself [] x a = inr refl
moved_itself (w ∷ ws) x a = by_test ((record_of w.output_record).at == x) refl (moved_itself ws x a.1)
  where
    by_test : (t : Bool) → ((record_of w.output_record).at == x) ≡ t → (moved ws x ≡ x) ⊎ (moved ws x ≡ 0)
        → (option_map_or (λ w. w.at) (if t then Some w else find (λ w. (record_of w.output_record).at == x) ws) 0 ≡ x) ⊎ (option_map_or (λ w. w.at) (if t then Some w else find (λ w. (record_of w.output_record).at == x) ws) 0 ≡ 0)
    by_test true q i = let e : (record_of w.output_record).at ≡ x = grind (arith, nat_tests) in inl (sym a.0 ∙ e)
    by_test false q i = i

-- It leads to itself if it leads past the header.
output_records_put : (ws : List Written) (x place : ℕ) → AllByRecursion IsPlaced ws → moved ws x ≡ place → 68 ≤ place → moved ws x ≡ x
output_records_put ws x place a e h = by_case (moved_itself ws x a)
  where
    by_case : (moved ws x ≡ x) ⊎ (moved ws x ≡ 0) → moved ws x ≡ x
    by_case (inl f) = f
    by_case (inr f) = absurd (omega arith)

module _ (slim : Option (List ℕ)) (p : Parts) (a : AreParts p) (kept : List EventAt) (are : AreEvents p kept) (good : GoodAnew p.bytes (written_anew slim p)) (marks : List Bool) (b : List ℕ) (s : Leading slim p kept marks b)
    (m : Classes) (suits : Suits p kept m) (holds : AllByRecursion (IsOutputRecordIn p.bytes (remaining_of p marks) m) (output_records slim p kept)) (held : Body)
    (reads : MetadataReads slim p a held m) (small : length b < 2 ^ 63) where
  abbrev q : Parts
  q = new_parts slim p a kept are good marks b s m suits holds held reads

  abbrev valid : AreParts q
  valid = parts_are_valid slim p a kept are good marks b s m suits holds held reads small

  abbrev output_records_new : List OutputRecord
  output_records_new = new_output_records p.bytes (remaining_of p marks) 0 68 None (output_records slim p kept)

  abbrev written_new : List Written
  written_new = written b q.entries 68 None output_records_new

  -- What is left is written again unchanged.
  bytes_again : Rewritten 68 None (body_of slim p kept marks) (last_of slim p kept marks) b q.entries output_records_new
  bytes_again =
      let r = is_ready slim p kept marks a good in
      rewritten p.bytes (remaining_of p marks) m b q.entries (output_records slim p kept) 0 68 None [] holds r.deltas s.held refl (λ n o. tt)

  module _ (reached : (number : ℕ) → number < length q.entries → Reached q (events_of q) number) (settles : written_anew slim q valid.metadata_record ≡ metadata_new slim p a) where
    -- What is built anew of what is written is so too.
    good_again : GoodAnew b (written_anew slim q)
    good_again r x i e =
        let t = anew_only slim q r x e in
        let h : r.at ≡ metadata_at b = grind (arith, nat_tests) in
        let g : r ≡ valid.metadata_record = is_metadata slim p a kept are good marks b s m suits holds held reads small settles r i h in
        let w : metadata_new slim p a ≡ Some x = sym settles ∙ (ap (written_anew slim q) (sym g) ∙ e) in
        let y = good a.metadata_record x (metadata_stands p a) w in
        (y.0, subst (λ (z : Framed). length x ≤ z.size) (sym (g ∙ metadata_is slim p a kept are good marks b s m suits holds held reads small)) (shown_size (metadata_new slim p a) w))
      where
        shown_size : (w : Option (List ℕ)) → w ≡ Some x → length x ≤ (shown_frame p.bytes w a.metadata_record (metadata_found slim p kept marks a good b s.held).place).size
        shown_size None e = cc
        shown_size (Some y) e = let h : y ≡ x = cc in omega (arith, ap length h)

    -- All entries are left, and all records stay.
    left_again : remaining_of q (reached_marks q (events_of q)) ≡ q.entries
    unfolding remain
    left_again = all_remain q valid reached

    settled : output_records slim q (events_of q) ≡ output_records_new
    settled = output_records_settled slim p a kept are good marks b s m suits holds held reads small settles

    -- The metadata record is written at its own offset.
    metadata_again : moved written_new (metadata_at b) ≡ metadata_at b
    metadata_again =
        let all : List Bool = reached_marks q (events_of q) in
        let body : body_of slim q (events_of q) all ≡ body_of slim p kept marks = (λ i. bytes_from b (left_again i) 68 None (settled i)) ∙ bytes_again.same in
        let f = metadata_found slim q (events_of q) all valid good_again b (subst (Holds b (length b) 68) (sym body) s.held) in
        let e : written_of slim q (events_of q) all ≡ written_new = λ i. written b (left_again i) 68 None (settled i) in
        output_records_put written_new (metadata_at b) f.place bytes_again.placed
        (sym (ap (λ ws. moved ws (metadata_at b)) e) ∙ (ap (moved (written_of slim q (events_of q) all)) (sym valid.metadata_there.place) ∙ f.leads)) f.from

    -- So what is written again is the same, header and all.
    assembled_again : b ≡ out slim p kept marks → assembled q q.entries output_records_new ≡ b
    assembled_again o =
        let body : List ℕ = body_of slim p kept marks in
        let size : ℕ = 68 + length body in
        let last : ℕ = last_of slim p kept marks in
        let metadata : ℕ = metadata_of slim p kept marks in
        let m : moved written_new (metadata_at b) ≡ metadata = metadata_again ∙ s.metadata in
        let front : header_with b size last metadata ≡ header_with p.bytes size last metadata = ap (λ z. header_with z size last metadata) o ∙ front_again p.bytes body size last metadata in
        (λ i. header_with b (68 + length (bytes_again.same i)) (bytes_again.last_same i) (m i) ++ bytes_again.same i) ∙ (ap (λ z. z ++ body) front ∙ sym o)

    pub nothing_changes : b ≡ out slim p kept marks → assembled q (remain q (events_of q)) (output_records slim q (events_of q)) ≡ b
    nothing_changes o = (λ i. assembled q (all_remain q valid reached i) (settled i)) ∙ assembled_again o
