-- When a scrub ends well.
use Rattle.std.proofs.Common.{◌≡◌, ℕ, refl, ◌∙◌, ap, true, List, [], ◌∷◌, Option, None, Some}
use Rattle.std.specs.Prelude.{◌↔◌}
use Rattle.std.specs.List.{AllByRecursion}
use Rattle.jfr_base.specs.declared.flaw.Flaw.{Flaw}
use Rattle.jfr_header.specs.Cuts.{cut}
use Rattle.jfr_filter.specs.Filters.{Given}
use Rattle.jfr_plan.specs.Ends.{Fine}
use Rattle.jfr_plan.specs.Rules.{plan_after}
use Rattle.jfr_plan.specs.Accepted.{AllAccepted}
use Rattle.jfr_plan.proofs.EndsWell.{making_ends_well}
use Rattle.jfr_chunk.specs.Refusal.{refusal_of}
use Rattle.jfr_output.specs.Recordings.{before_refused, unless_refused}
use Rattle.jfr_scrub.specs.Scrubs.{scrubbed, scrubbing}

pub scrub_ends_well : (g : Given) (output x : List ℕ) → ((plan_after (scrubbing g output) [] (Some x)).end ≡ Some Fine) ↔ AllAccepted refusal_of x
scrub_ends_well g output x = making_ends_well output refusal_of (scrubbed g) x

-- Where no chunk is refused, those before a refused one are all.
none_refused : (refusal : List ℕ → Option Flaw) (cs : List (List ℕ)) → AllByRecursion (λ c. refusal c ≡ None) cs → before_refused refusal cs ≡ cs
none_refused refusal [] h = refl
none_refused refusal (c ∷ cs) h =
    ap (λ (o : Option Flaw). unless_refused o (c ∷ before_refused refusal cs)) h.0 ∙ ap (λ (l : List (List ℕ)). c ∷ l) (none_refused refusal cs h.1)

pub all_before : (g : Given) (output x : List ℕ) → (plan_after (scrubbing g output) [] (Some x)).end ≡ Some Fine → before_refused refusal_of (cut x 0 true).chunks ≡ (cut x 0 true).chunks
all_before g output x e = none_refused refusal_of (cut x 0 true).chunks ((scrub_ends_well g output x).0 e).each
