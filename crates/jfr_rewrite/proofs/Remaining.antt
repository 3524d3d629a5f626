-- The metadata record of an output, as `new_metadata` defines it, describes the remaining classes, which suit what remains.
use Rattle.std.specs.Prelude.{◌≡◌, ℕ, ◌+◌, ◌-◌, ◌≤◌, Bool, List, length, Option, Some, None, slice_range}
use Rattle.std.proofs.Common.{arith, refl, ◌∙◌, subst}
use Rattle.jfr_base.proofs.HoldLaws.{Holds}
use Rattle.jfr_frame.specs.declared.framed.Framed.{Framed}
use Rattle.jfr_frame.specs.Records.{IsRecord, record_bytes}
use Rattle.jfr_meta.specs.Body.{Body}
use Rattle.jfr_meta.specs.Described.{IsMetadata}
use Rattle.jfr_worklist.specs.Marks.{IsMarked}
use Rattle.jfr_worklist.proofs.Members.{contains_in}
use Rattle.jfr_chunk.specs.Parts.{Parts, EventAt, AreParts}
use Rattle.jfr_chunk.specs.Laws.{AreEvents}
use Rattle.jfr_chunk.specs.Metas.{Names, new_metadata, remaining_classes}
use Rattle.jfr_chunk.specs.Reach.{Reached, marked}
use Rattle.jfr_chunk.proofs.HasNodesLaws.{has_nodes}
use Rattle.jfr_laws.proofs.Anew.{anew_stands}
use Rattle.jfr_laws.proofs.Anews.{Anew, anew, good_anew}
use Rattle.jfr_laws.proofs.Copied.{record_copied}
use Rattle.jfr_laws.proofs.Found.{shown_bytes, shown_frame}
use Rattle.jfr_laws.proofs.Premises.{metadata_stands}
use Rattle.jfr_laws.proofs.Same.{event_of_chunk}
use Rattle.jfr_laws.proofs.Suits.{left_agree}
use Rattle.jfr_laws.proofs.Whole.{new_is}
use Rattle.jfr_rewrite.specs.Rewritten.{Describes, Suits, frame_from, metadata_bytes}

module _ (names : Names) (p : Parts) (a : AreParts p) (kept : List EventAt) (are : AreEvents p kept) where
  abbrev n : Anew names p a kept
  n = anew names p a kept are

  pub suits_remaining : (marks : List Bool) → ((i : ℕ) → IsMarked marks i → Reached p kept i) → Suits p kept (marked marks p.entries) (remaining_classes names p kept)
  suits_remaining marks r =
      subst (Suits p kept (marked marks p.entries)) n.remaining
      (record {
        sound = n.suits.sound;
        agree = n.suits.agree;
        before = n.suits.before;
        event = λ e i. n.suits.event e (contains_in kept e i);
        entry = left_agree p n.classes (has_nodes p a) kept n.suits (event_of_chunk p a kept are) marks r;
      })

  abbrev given : Option (List ℕ) → List ℕ
  given z = metadata_bytes z p a.metadata_record

  abbrev ReadsAs : Option (List ℕ) → Type 0
  ReadsAs z = (b : List ℕ) (at : ℕ) → Holds b (length b) at (shown_bytes p.bytes z a.metadata_record) → (body : Body) × IsMetadata b (shown_frame p.bytes z a.metadata_record at) body n.classes

  reads_as : ReadsAs (new_metadata names p kept)
  reads_as = subst ReadsAs (new_is (new_metadata names p kept) p a) (λ b at h. (let y = n.reads b at h in (y.0, y.1)))

  held : (x b : List ℕ) (at : ℕ) → at + length x ≤ length b → slice_range b at (at + length x) ≡ x → Holds b (length b) at x
  held x b at i e = record { bytes = e; within = i; inside = omega arith }

  describes : (z : Option (List ℕ)) → new_metadata names p kept ≡ z → ReadsAs z → Describes (given z) n.classes
  describes None e reads =
      let r : Framed = a.metadata_record in
      record {
        type_after = r.type_at - r.at;
        body_after = r.body - r.at;
        is_record =
            λ b at i q. subst (λ id. IsRecord b (frame_from id (r.type_at - r.at) (r.body - r.at) at (length (record_bytes p.bytes r)))) a.metadata_there.type_is
            (record_copied p.bytes b r at (metadata_stands p a) (held (record_bytes p.bytes r) b at i q));
        is_metadata = λ b at i q.
            (let y = reads b at (held (record_bytes p.bytes r) b at i q) in
            (y.0, subst (λ id. IsMetadata b (frame_from id (r.type_at - r.at) (r.body - r.at) at (length (record_bytes p.bytes r))) y.0 n.classes) a.metadata_there.type_is y.1));
      }
  describes (Some x) e reads = record {
    type_after = 5;
    body_after = 6;
    is_record = λ b at i q. anew_stands x b at (good_anew names p a kept a.metadata_record x (metadata_stands p a) (new_is (new_metadata names p kept) p a ∙ e)).0 (held x b at i q);
    is_metadata = λ b at i q. reads b at (held x b at i q);
  }

  pub describes_remaining : Describes (given (new_metadata names p kept)) (remaining_classes names p kept)
  describes_remaining = subst (Describes (given (new_metadata names p kept))) n.remaining (describes (new_metadata names p kept) refl reads_as)
