-- A chunk whose classes are all plain has no texts for the dictionary.
use Rattle.std.specs.Prelude.{◌≡◌, ◌==◌, ◌<◌, ◌++◌, ℕ, Bool, List, [], ◌∷◌, filter, length, Option, None, Some}
use Rattle.std.specs.List.{AllByRecursion, flat_map}
use Rattle.std.proofs.Common.{ap, refl, ◌∙◌}
use Rattle.jfr_frame.specs.declared.framed.Framed.{Framed}
use Rattle.jfr_layout.specs.Classes.{Sound}
use Rattle.jfr_value.specs.Nodes.{IsNode, NodeAt}
use Rattle.jfr_value.specs.Values.{Value}
use Rattle.jfr_pool.specs.declared.entry.EntryAt.{EntryAt}
use Rattle.jfr_pool.specs.Entries.{entry_node}
use Rattle.jfr_chunk.specs.Parts.{AreParts, EventAt, Parts}
use Rattle.jfr_chunk.specs.Reach.{kept_by}
use Rattle.jfr_chunk.specs.Scrub.{OutputRecord, Whole, Chained, Rebuilt}
use Rattle.jfr_chunk.proofs.AllLaws.{filter_all}
use Rattle.jfr_laws.proofs.Same.{chosen_events, event_of_chunk}
use Rattle.jfr_rewrite.specs.Rewrite.{event_there}
use Rattle.jfr_rewrite.proofs.Output.{find_in}
use Rattle.jfr_mask.specs.declared.numbering.Numbering.{Numbering}
use Rattle.jfr_mask.specs.Maskers.{IsEntryValue, IsMaskingBy, KnowsPlain, held_by, node_texts_by}
use Rattle.jfr_mask.specs.MaskOf.{Masking, dictionary_after, entries_left, origin_of, origin_texts, records_out, stops_in, whole_origin}
use Rattle.jfr_mask.specs.Plain.{IsPlain}
use Rattle.jfr_mask.specs.Pseudonyms.{has_text, with_texts}
use Rattle.jfr_mask.proofs.EntriesLeft.{left_values}
use Rattle.jfr_mask.proofs.NumberedRecords.{chained_texts, node_same}
use Rattle.jfr_mask.proofs.PlainLaws.{all_plain, node_no_texts}

all_none : {X : Type 0} (f : X → List (List ℕ)) → ((x : X) → f x ≡ []) → (xs : List X) → flat_map f xs ≡ []
all_none f none [] = refl
all_none f none (x ∷ xs) = ap (λ z. z ++ flat_map f xs) (none x) ∙ all_none f none xs

module _ (n : Numbering) (plain : KnowsPlain n.strings) (all : (i : ℕ) → i < length n.strings.chunk.now.classes → IsPlain n.strings.plain.now.flags.items i) (a : AreParts n.strings.chunk.now) (sound : Sound n.strings.chunk.now.classes) where
  abbrev p : Parts
  p = n.strings.chunk.now

  node_none : (x : NodeAt) (v : Value) → IsNode p.classes p.bytes x v → node_texts_by n x ≡ []
  node_none x v i = node_no_texts p (held_by n.strings) (has_text n.known.now) x v sound i (all_plain n.strings.masked.now p.classes n.strings.plain.now.flags.items plain all v i.fits)

  entries_none : (es : List EntryAt) → AllByRecursion (IsEntryValue p) es → flat_map (λ e. node_texts_by n (entry_node e)) es ≡ []
  entries_none [] h = refl
  entries_none (e ∷ es) h = ap (λ z. z ++ flat_map (λ e. node_texts_by n (entry_node e)) es) (node_none (entry_node e) h.0.0 h.0.1) ∙ entries_none es h.1

  module _ (m : Masking) (is : IsMaskingBy n m) (flags : List Bool) where
    abbrev kept : List EventAt
    kept = kept_by p flags

    event_none : (r : Framed) (o : Option EventAt) → event_there kept r ≡ o → origin_texts m p (whole_origin p r o) ≡ []
    event_none r None q = refl
    event_none r (Some e) q =
        let f = find_in (λ e. e.record_of.at == r.at) kept e q in
        let v = event_of_chunk p a kept (chosen_events p flags) e f.0 in
        ap (λ f. f e.node) (node_same n m is) ∙ node_none e.node v.value v.node

    left : AllByRecursion (IsEntryValue p) (entries_left m p kept)
    left = left_values (stops_in m p) p a flags

    origin_none : (o : OutputRecord) → origin_texts m p (origin_of p kept (entries_left m p kept) o) ≡ []
    origin_none (Whole r) = event_none r (event_there kept r) refl
    origin_none (Rebuilt r bytes) = refl
    origin_none (Chained number l) =
        chained_texts n m is flags (entries_left m p kept) number l
        ∙ entries_none (filter (λ e. e.checkpoint == number) (entries_left m p kept)) (filter_all (IsEntryValue p) (λ e. e.checkpoint == number) (entries_left m p kept) left)

    -- So the dictionary stays the same.
    pub chunk_none : (d : List (List ℕ)) → dictionary_after m d p kept ≡ d
    chunk_none d = ap (with_texts d) (all_none (λ o. origin_texts m p (origin_of p kept (entries_left m p kept) o)) origin_none (records_out m p kept))
