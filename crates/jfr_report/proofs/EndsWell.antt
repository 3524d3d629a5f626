-- When a command that writes text ends well.
use Rattle.std.proofs.Common.{◌≡◌, ℕ, ◌+◌, refl, List, [], length, None, Some, Result, Ok, Err}
use Rattle.std.specs.Prelude.{◌↔◌}
use Rattle.jfr_base.specs.declared.flaw.Flaw.{Flaw}
use Rattle.jfr_plan.specs.Ends.{Fine}
use Rattle.jfr_plan.specs.Rules.{Stops, IsGoing, plan_after}
use Rattle.jfr_plan.specs.Accepted.{AllAccepted}
use Rattle.jfr_plan.proofs.EndsWell.{ends_well}
use Rattle.jfr_chunk.specs.Parts.{Parts}
use Rattle.jfr_chunk.specs.Refusal.{read_parts, refusal_of, flaw_in}
use Rattle.jfr_report.specs.Reports.{asks_texts, texting}

never_well : (n : ℕ) (texts : Parts → List (List ℕ)) (r : Result Parts Flaw) → asks_texts n texts r ≡ Stops Fine → ⊥
never_well n texts (Ok p) e = cc
never_well n texts (Err flaw) e = cc

goes_if : (n : ℕ) (texts : Parts → List (List ℕ)) (r : Result Parts Flaw) → IsGoing (asks_texts n texts r) ↔ (flaw_in r ≡ None)
goes_if n texts (Ok p) = (λ g. refl, λ g. refl)
goes_if n texts (Err flaw) = (λ g. cc, λ g. cc)

-- The work goes on after a chunk exactly if the chunk isn't refused.
chunk_goes : (n : ℕ) (texts : Parts → List (List ℕ)) (c : List ℕ) → IsGoing (asks_texts n texts (read_parts c)) ↔ (refusal_of c ≡ None)
unfolding refusal_of
chunk_goes n texts c = goes_if n texts (read_parts c)

pub texting_ends_well : (texts : ℕ → Parts → List (List ℕ)) (last : List (List ℕ) → List (List ℕ)) (x : List ℕ)
    → ((plan_after (texting texts last) [] (Some x)).end ≡ Some Fine) ↔ AllAccepted refusal_of x
texting_ends_well texts last x =
    ends_well (texting texts last) (λ c. refusal_of c ≡ None) x (λ before c. never_well (length before + 1) (texts (length before + 1)) (read_parts c))
    (λ before c. chunk_goes (length before + 1) (texts (length before + 1)) c)
