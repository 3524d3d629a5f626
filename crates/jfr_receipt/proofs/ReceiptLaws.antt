-- The receipt of a chunk's scrub.
use Rattle.std.specs.Prelude.{◌≡◌, ℕ, Bool, List, None, Ok}
use Rattle.std.proofs.Common.{ap, sym, subst, ◌∙◌}
use Rattle.jfr_filter.specs.Filters.{Given, describes}
use Rattle.jfr_header.specs.Fronts.{Whole}
use Rattle.jfr_chunk.specs.Parts.{Parts, AreParts}
use Rattle.jfr_chunk.specs.Chosen.{chosen, kept_of}
use Rattle.jfr_chunk.specs.Reach.{kept_by}
use Rattle.jfr_chunk.specs.Metas.{Names}
use Rattle.jfr_chunk.specs.Scrub.{scrub_of}
use Rattle.jfr_chunk.specs.Refusal.{flaw_in, read_parts, refusal_of}
use Rattle.jfr_chunk.proofs.ChainAnswers.{is_computed}
use Rattle.jfr_laws.specs.Laws.{IsKept}
use Rattle.jfr_laws.proofs.Settled.{settled}
use Rattle.jfr_scrub.specs.Headline.{IsScrubbed}
use Rattle.jfr_scrub.specs.Scrubs.{scrubbed, scrubbed_by}
use Rattle.jfr_scrub.proofs.AgainLaws.{is_scrubbed}
use Rattle.jfr_verify.specs.Laws.{IsKeptPassed, Passes}
use Rattle.jfr_verify.specs.Receipts.{receipt_of}
use Rattle.jfr_verify.specs.Verdicts.{receipt_by}
use Rattle.jfr_receipt.specs.Receipting.{IsReceipted, scrub_receipt}

-- The parts of the scrub of a chunk.
pub scrub_read : (p : Parts) (g : Given) (k : IsKept (describes g) p (kept_of g p)) → read_parts (scrub_of (describes g) p (kept_of g p)) ≡ Ok k.parts
scrub_read p g k = ((is_computed (scrub_of (describes g) p (kept_of g p)) k.whole.long).parts k.parts).0 (k.bytes, k.valid)

-- The receipt of what a chunk becomes.
pub receipt_is : (g : Given) (c r : List ℕ) (p : Parts) → Whole c → read_parts c ≡ Ok p → ((names : Names) (k : IsKept names p (kept_of g p)) → r ≡ receipt_of k.parts)
    → (refusal_of c ≡ None) × (r ≡ scrub_receipt g c)
unfolding refusal_of scrubbed scrub_receipt
receipt_is g c r p w e h =
    let u = ((is_computed c w.long).parts p).1 e in
    let k : IsKept (describes g) p (kept_of g p) = (settled g p (subst Whole (sym u.0) w) u.1).kept in
    (ap flaw_in e, h (describes g) k ∙ sym (ap receipt_by (ap (λ z. read_parts (scrubbed_by g z)) e ∙ scrub_read p g k)))

-- An accepted chunk and its scrub pass the checks with the receipt, since each output of a scrub does.
pub is_receipted : ((p : Parts) (flags : List Bool) → AreParts p → IsKeptPassed p (kept_by p flags)) → (g : Given) (c : List ℕ) → Whole c → refusal_of c ≡ None → IsReceipted g c (scrub_receipt g c)
unfolding scrub_receipt
is_receipted passed g c w n =
    let h : IsScrubbed g c (scrubbed g c) = is_scrubbed g c w n in
    let k = h.settled.kept in
    let e : read_parts (scrubbed g c) ≡ Ok k.parts = ap read_parts h.becomes ∙ scrub_read h.parts g k in
    record {
      input = h.parts;
      bytes = h.bytes;
      valid = h.valid;
      output = k.parts;
      becomes = k.bytes ∙ sym h.becomes;
      accepted = k.valid;
      passes = subst (Passes h.parts k.parts (kept_of g h.parts)) (sym (ap receipt_by e)) (passed h.parts (chosen g h.parts) h.valid (describes g) k);
    }
