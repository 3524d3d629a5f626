-- What an accepted chunk becomes, with the events that flags choose, is kept.
use Rattle.std.specs.Prelude.{◌≡◌, ℕ, ◌^◌, ◌<◌, ◌≤◌, Bool, List, [], ◌∷◌, length, Option, Some, None}
use Rattle.std.specs.List.{AllByRecursion}
use Rattle.jfr_layout.specs.Classes.{Classes}
use Rattle.jfr_chunk.specs.Laws.{AreEvents, SameRecords}
use Rattle.jfr_chunk.proofs.HasNodesLaws.{has_nodes}
use Rattle.std.proofs.Common.{ap, arith, refl, sym, ◌∙◌, subst}
use Rattle.jfr_header.specs.Fronts as fronts
use Rattle.jfr_pool.specs.declared.entry.EntryAt.{EntryAt}
use Rattle.jfr_chunk.specs.Parts.{Parts, EventAt, AreParts, events_of}
use Rattle.jfr_chunk.specs.Reach.{Reached, reached_marks, marked, kept_by, remain}
use Rattle.jfr_chunk.specs.Metas.{Names, new_metadata}
use Rattle.jfr_chunk.specs.Scrub.{assembled, scrub_of, scrub_with, output_records, written_anew}
use Rattle.jfr_meta.specs.Body.{Body}
use Rattle.jfr_laws.proofs.Premises.{GoodAnew, metadata_stands}
use Rattle.jfr_laws.proofs.Anews.{Anew, anew, good_anew, shown_body, size_is}
use Rattle.jfr_laws.specs.Laws.{AreCopied, IsKept}
use Rattle.jfr_laws.proofs.Entries.{are_copied}
use Rattle.jfr_laws.proofs.Header.{whole_small}
use Rattle.jfr_laws.proofs.Whole.{new_is, metadata_new, Leading, remaining_of, is_ready, out, out_leading, out_whole, out_shorter}
use Rattle.jfr_laws.proofs.Rebuilt.{found, metadata_is, same_body, new_parts, parts_are_valid, entries_copied, records_copied}
use Rattle.jfr_laws.proofs.Again.{nothing_changes}
use Rattle.jfr_laws.proofs.OutputRecords.{IsOutputRecordIn}
use Rattle.jfr_laws.proofs.Suits.{left_agree, records_too}
use Rattle.jfr_laws.proofs.Settles.{settles_again, new_size}
use Rattle.jfr_frame.specs.declared.framed.Framed.{Framed}
use Rattle.jfr_laws.proofs.Copied.{record_length}
use Rattle.jfr_laws.proofs.Found.{shown_frame}
use Rattle.jfr_laws.proofs.Same.{chosen_events, event_of_chunk, marks_reached, same_events, mean_the_same, all_reached}

copied_length : (p q : Parts) (es fs : List EntryAt) → AreCopied p q es fs → length es ≡ length fs
copied_length p q [] [] a = refl
copied_length p q [] (f ∷ fs) a = absurd a
copied_length p q (e ∷ es) [] a = absurd a
copied_length p q (e ∷ es) (f ∷ fs) a = omega (arith, copied_length p q es fs a.1)

module _ (names : Names) (p : Parts) (a : AreParts p) (flags : List Bool) where
  abbrev kept : List EventAt
  kept = kept_by p flags

  abbrev are : AreEvents p kept
  are = chosen_events p flags

  abbrev marks : List Bool
  marks = reached_marks p kept

  abbrev slim : Option (List ℕ)
  slim = new_metadata names p kept

  out_is : out slim p kept marks ≡ scrub_of names p kept
  unfolding scrub_with remain
  out_is = refl

  good : GoodAnew p.bytes (written_anew slim p)
  good = good_anew names p a kept

  -- The classes that are left, and that they suit.
  n : Anew names p a kept
  n = anew names p a kept are

  abbrev m : Classes
  m = n.classes

  abbrev held : Body
  held = shown_body names p kept slim

  holds : AllByRecursion (IsOutputRecordIn p.bytes (remaining_of p marks) m) (output_records slim p kept)
  holds =
      records_too p.bytes p.classes m (remaining_of p marks) (left_agree p m (has_nodes p a) kept n.suits (event_of_chunk p a kept are) marks (marks_reached p a flags)) (output_records slim p kept)
      (is_ready slim p kept marks a good).valid

  -- The output after a header that leads to it.
  module _ (b : List ℕ) (s : Leading slim p kept marks b) (small : length b < 2 ^ 63) where
    abbrev parts : Parts
    parts = new_parts slim p a kept are good marks b s m n.suits holds held n.reads

    abbrev valid : AreParts parts
    valid = parts_are_valid slim p a kept are good marks b s m n.suits holds held n.reads small

    shown_size : (w : Option (List ℕ)) → (shown_frame p.bytes w a.metadata_record (found slim p a kept are good marks b s).place).size ≡ new_size p w
    shown_size None = record_length p.bytes a.metadata_record (metadata_stands p a) ∙ sym (size_is p a)
    shown_size (Some x) = refl

    copied : AreCopied p parts (marked marks p.entries) parts.entries
    copied = are_copied p parts (marked marks p.entries) parts.entries (entries_copied slim p a kept are good marks b s m n.suits holds held n.reads)

    -- Its metadata record becomes what it is.
    new_again : SameRecords p parts kept (events_of parts) → new_metadata names parts (events_of parts) ≡ slim
    new_again events =
        settles_again names p a kept are n parts valid refl events (same_body slim p a kept are good marks b s m n.suits holds held n.reads)
        (size_is parts valid ∙ (ap (λ (z : Framed). z.size) (metadata_is slim p a kept are good marks b s m n.suits holds held n.reads small)
        ∙ (shown_size (metadata_new slim p a) ∙ ap (new_size p) (new_is slim p a))))

    same_again : SameRecords p parts kept (events_of parts) → ((number : ℕ) → number < length parts.entries → Reached parts (events_of parts) number) → b ≡ out slim p kept marks
        → scrub_of names parts (events_of parts) ≡ b
    unfolding scrub_with
    same_again events reached e =
        ap (λ z. assembled parts (remain parts (events_of parts)) (output_records z parts (events_of parts))) (new_again events)
        ∙ nothing_changes slim p a kept are good marks b s m n.suits holds held n.reads small reached (new_is slim parts valid ∙ sym (new_is slim p a)) e

    parts_kept : b ≡ scrub_of names p kept → fronts.Whole b → length b ≤ length p.bytes → IsKept names p kept
    unfolding remain
    parts_kept e w l =
        let records = records_copied slim p a kept are good marks b s m n.suits holds held n.reads in
        let reached = all_reached p parts a valid flags n.suits records copied (copied_length p parts (marked marks p.entries) parts.entries copied) in
        let events = same_events p parts a valid flags n.suits records copied in
        record {
          parts = parts;
          classes = n.remaining;
          bytes = e;
          whole = subst fronts.Whole e w;
          valid = valid;
          size = subst (λ z. length z ≤ length p.bytes) e l;
          events = events;
          entries = copied;
          meaning = mean_the_same p parts a valid flags n.suits records copied;
          reached = reached;
          again = same_again events reached (e ∙ sym out_is);
        }

  pub scrubbed_kept : fronts.Whole p.bytes → IsKept names p kept
  scrubbed_kept whole =
      let b : List ℕ = out slim p kept marks in
      let shorter : length b ≤ length p.bytes = out_shorter slim p kept marks a good in
      let small = whole_small p.bytes whole in
      parts_kept b (out_leading slim p kept marks a good whole) (omega arith) out_is (out_whole slim p kept marks a good whole) shorter
