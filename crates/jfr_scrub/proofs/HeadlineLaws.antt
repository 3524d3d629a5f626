-- What a scrub writes is the scrub of each chunk.
use Rattle.std.specs.Prelude.{◌≡◌, ℕ, List, None, Result, Ok, Err, IfOk}
use Rattle.std.proofs.Common.{ap, sym, ◌∙◌}
use Rattle.jfr_base.specs.declared.flaw.Refusal.{Refusal}
use Rattle.jfr_outside.specs.World.{State, IfKnown}
use Rattle.jfr_header.specs.declared.ending.Ending.{Ending}
use Rattle.jfr_header.specs.declared.ending.Ending.TheVariants as ending
use Rattle.jfr_filter.specs.Filters.{Given, describes}
use Rattle.jfr_plan.specs.Ends.{Fine, Refused}
use Rattle.jfr_plan.specs.Effects.{without_sink}
use Rattle.jfr_plan.specs.Clauses.{over, Ended}
use Rattle.jfr_chunk.specs.Scrub.{scrub_of}
use Rattle.jfr_chunk.specs.Parts.{Parts}
use Rattle.jfr_chunk.specs.Chosen.{kept_of}
use Rattle.jfr_chunk.specs.Refusal.{read_parts, refusal_of, flaw_in}
use Rattle.jfr_laws.specs.Laws.{IsSettled}
use Rattle.jfr_laws.proofs.Settled.{settled}
use Rattle.jfr_output.specs.Recordings.{IsByPlan}
use Rattle.jfr_output.proofs.MadeFile.{made_by_plan}
use Rattle.jfr_output.proofs.MadeOutput.{has_output, is_output_of}
use Rattle.jfr_scrub.specs.Headline.{IsScrubbed, IsScrubOf, Scrubs, recording_scrubbed}
use Rattle.jfr_scrub.specs.Scrubbing.{IsAccepted}
use Rattle.jfr_scrub.specs.Scrubs.{scrubbed, scrubbed_by, scrubbing}
use Rattle.jfr_scrub.proofs.AgainLaws.{is_scrubbed, recording_chunks}

-- What a recording becomes is its scrub.
pub is_scrub_of : (g : Given) (x : List ℕ) → IsScrubOf g x (recording_scrubbed g x)
is_scrub_of g = is_output_of refusal_of (scrubbed g) (IsScrubbed g) (is_scrubbed g) (recording_chunks g)

-- An answer that the plan ends with.
pub headline : (g : Given) (input output : List ℕ) (e : Ending) (a b : State) → (e ≡ ending.Done → Ended (over (scrubbing g output) input) Fine (without_sink a) (without_sink b))
    → ((r : Refusal) → e ≡ ending.Refused r → Ended (over (scrubbing g output) input) (Refused r) (without_sink a) (without_sink b)) → IsByPlan e
    → IfKnown a.contents b.contents (Scrubs g input output)
headline g input output = made_by_plan refusal_of (scrubbed g) input output (Scrubs g input output)
    (has_output refusal_of (scrubbed g) (IsScrubbed g) (is_scrubbed g) (recording_chunks g) input output)

-- What a chunk is read as is scrubbed.
pub made_of : (g : Given) (c b : List ℕ) (p : Parts) → read_parts c ≡ Ok p → b ≡ scrub_of (describes g) p (kept_of g p) → (refusal_of c ≡ None) × (b ≡ scrubbed g c)
unfolding refusal_of scrubbed
made_of g c b p e h = (ap flaw_in e, h ∙ sym (ap (scrubbed_by g) e))

-- What an accepted chunk becomes is settled.
pub is_settled : {T E : Type 0} (g : Given) (p : Parts) (r : Result T E) → IfOk r (λ s. IsAccepted p) → IfOk r (λ s. IsSettled g p)
is_settled g p (Ok s) h = settled g p h.whole h.parts
is_settled g p (Err fault) h = h
