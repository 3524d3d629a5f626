use Rattle.std.proofs.Common.{[], ◌∷◌, option_to_list, refl, subst, sym}
use Rattle.jfr_pool.specs.Entries.{number_in_force}
use Rattle.jfr_value.specs.Visits.{TakesAll}
use Rattle.jfr_worklist.specs.Marks.{those}
use Rattle.jfr_worklist.specs.Putting.{Puts}
use Rattle.jfr_mask.specs.Maskers.{held_by}
use Rattle.jfr_mask.proofs.NumberLeaves.{number_target}
use Rattle.jfr_mask.proofs.references.WorklistVisitLeafMaskedStrings.passes_numbers.Goals as goal

pub returns-clause-same : goal.returns-clause-same
returns-clause-same c = λ strings leaf list n spelled ready.
    subst (λ o. TakesAll (λ t a b. Puts (those (number_in_force strings.chunk.now.entries) (t ∷ [])) a b) (option_to_list o) list list) (sym (number_target (held_by strings) leaf n)) refl
