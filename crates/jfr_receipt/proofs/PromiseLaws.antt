-- The scrub of a recording and its receipts are those that `verify` is promised to accept.
use Rattle.std.specs.Prelude.{◌≡◌, ℕ, ◌+◌, ◌^◌, ◌<◌, true, List, [], ◌∷◌, ◌++◌, length, map, Option, None, Some, Result, Ok, Err}
use Rattle.std.specs.List.{AllByRecursion, flat_map}
use Rattle.std.proofs.Common.{ap, refl, subst, sym, ◌∙◌}
use Rattle.jfr_base.specs.declared.flaw.Flaw.{Flaw}
use Rattle.jfr_filter.specs.Filters.{Given, describes, keeps}
use Rattle.jfr_header.specs.Cuts.{cut, joined}
use Rattle.jfr_plan.specs.Accepted.{AllAccepted}
use Rattle.jfr_chunk.specs.Chosen.{kept_of}
use Rattle.jfr_chunk.specs.Parts.{Parts}
use Rattle.jfr_chunk.specs.Refusal.{flaw_in, read_parts, refusal_of}
use Rattle.jfr_chunk.specs.Scrub.{scrub_of}
use Rattle.jfr_chunk.specs.Windows.{is_in}
use Rattle.jfr_output.specs.Recordings.{before_refused, unless_refused}
use Rattle.jfr_scrub.specs.Headline.{recording_scrubbed}
use Rattle.jfr_scrub.specs.Scrubs.{scrubbed, scrubbed_by}
use Rattle.jfr_verify.specs.Recordings.{Recording, read_on, recording_from, recording_in, recording_of}
use Rattle.jfr_verify.specs.Verdicts.{AreScrubs, output_of, receipt_by, receipt_for}
use Rattle.jfr_receipt.specs.Receipting.{describing, recording_receipts, scrub_receipt}

module _ (g : Given) (described : Option (List (List ℕ))) where
  abbrev filter : Given
  filter = describing described g

  -- What is described doesn't change which events are kept.
  same_kept : (p : Parts) → kept_of filter p ≡ kept_of g p
  unfolding keeps is_in
  same_kept p = refl

  scrub_is : (c : List ℕ) (p : Parts) → read_parts c ≡ Ok p → scrubbed filter c ≡ output_of (describes filter) g p
  unfolding scrubbed
  scrub_is c p e = ap (scrubbed_by filter) e ∙ ap (scrub_of (describes filter) p) (same_kept p)

  receipt_is : (c : List ℕ) (p : Parts) → read_parts c ≡ Ok p → scrub_receipt filter c ≡ receipt_for (describes filter) g p
  unfolding scrub_receipt
  receipt_is c p e = ap (λ z. receipt_by (read_parts z)) (scrub_is c p e)

  -- The chunks are read, and their scrubs and receipts are those of the parts that are read.
  record AreOf (n : ℕ) (cs : List (List ℕ)) : Type 0 where
    accepted : (recording_from n cs None).refusal ≡ None
    outputs : joined (map (scrubbed filter) (before_refused refusal_of cs)) ≡ flat_map (output_of (describes filter) g) (recording_from n cs None).parts
    receipts : joined (map (scrub_receipt filter) (before_refused refusal_of cs)) ≡ flat_map (receipt_for (describes filter) g) (recording_from n cs None).parts

  are_of : (n : ℕ) (cs : List (List ℕ)) → AllByRecursion (λ c. refusal_of c ≡ None) cs → AreOf n cs
  unfolding refusal_of
  are_of n [] a = record { accepted = refl; outputs = refl; receipts = refl }
  are_of n (c ∷ cs) a = by_parts (read_parts c) refl (are_of (n + 1) cs a.1)
    where
      by_parts : (r : Result Parts Flaw) → read_parts c ≡ r → AreOf (n + 1) cs → AreOf n (c ∷ cs)
      by_parts (Err flaw) e later = (let f : ◌≡◌ {A = Option Flaw} (Some flaw) None = sym (ap (flaw_in {A = Parts}) e) ∙ a.0 in cc)
      by_parts (Ok p) e later =
          let ps : Recording = recording_from (n + 1) cs None in
          record {
            accepted = ap (λ r. (read_on n r ps).refusal) e ∙ later.accepted;
            outputs =
                ap (λ z. joined (map (scrubbed filter) (unless_refused z (c ∷ before_refused refusal_of cs)))) a.0
                ∙ (ap (λ z. z ++ joined (map (scrubbed filter) (before_refused refusal_of cs))) (scrub_is c p e)
                ∙ (ap (λ z. output_of (describes filter) g p ++ z) later.outputs
                ∙ sym (ap (λ r. flat_map (output_of (describes filter) g) (read_on n r ps).parts) e)));
            receipts =
                ap (λ z. joined (map (scrub_receipt filter) (unless_refused z (c ∷ before_refused refusal_of cs)))) a.0
                ∙ (ap (λ z. z ++ joined (map (scrub_receipt filter) (before_refused refusal_of cs))) (receipt_is c p e)
                ∙ (ap (λ z. receipt_for (describes filter) g p ++ z) later.receipts
                ∙ sym (ap (λ r. flat_map (receipt_for (describes filter) g) (read_on n r ps).parts) e)));
          }

  pub are_scrubs : (x : List ℕ) → AllAccepted refusal_of x → length (recording_receipts filter x) < 2 ^ 40
      → AreScrubs g (record { input = Some x; output = Some (recording_scrubbed filter x); receipt = Some (recording_receipts filter x) })
  unfolding recording_of
  are_scrubs x a short =
      let cs : List (List ℕ) = (cut x 0 true).chunks in
      let o : AreOf 1 cs = are_of 1 cs a.each in
      let e : recording_of x ≡ recording_from 1 cs None = ap (recording_from 1 cs) a.flawless in
      let receipts : recording_receipts filter x ≡ flat_map (receipt_for (describes filter) g) (recording_of x).parts =
      o.receipts ∙ ap (λ (z : Recording). flat_map (receipt_for (describes filter) g) z.parts) (sym e) in
      record {
        names = describes filter;
        input = x;
        input_is = refl;
        input_ends = ap (λ (z : Recording). z.refusal) e ∙ o.accepted;
        output_is = ap Some (o.outputs ∙ ap (λ (z : Recording). flat_map (output_of (describes filter) g) z.parts) (sym e));
        receipt_is = ap Some receipts;
        short = subst (λ (z : List ℕ). length z < 2 ^ 40) receipts short;
      }
