use Rattle.std.proofs.Common.{[], refl, subst, sym, if◌then◌else◌}
use Rattle.jfr_mask.specs.Pseudonyms.{has_text}
use Rattle.jfr_mask.specs.Masked.{numbered_text}
use Rattle.jfr_mask.specs.MaskedLeaves.{leaf_text}
use Rattle.jfr_mask.specs.Maskers.{held_by}
use Rattle.jfr_mask.specs.Visitors.{AddsTexts}
use Rattle.jfr_mask.proofs.NumberLeaves.{number_not_masked}
use Rattle.jfr_mask.proofs.numbering.GrowingDictionaryVisitLeafNumbering.passes_numbers.Goals as goal

pub returns-clause-same : goal.returns-clause-same
returns-clause-same c = λ numbering leaf growing n lies noted.
    subst (λ b. AddsTexts (if b then numbered_text (has_text numbering.known.now) (leaf_text numbering.strings.chunk.now leaf) else []) growing growing)
    (sym (number_not_masked (held_by numbering.strings) leaf n)) (λ f. (f, refl))
