use Rattle.std.proofs.Common.{◌≡◌, ℕ, List, drop}
use Rattle.std.specs.Prelude.{find}
use Rattle.jfr_meta.specs.Described.{AreCategoryIds, is_category, category_annotation, annotations_of}
use Rattle.jfr_meta.proofs.class.category_annotation.Given as goal

abbrev pub invariant-loop-annotation : goal.invariant-loop-annotation
invariant-loop-annotation l = (hs : List (ℕ × List ℕ)) → AreCategoryIds hs l.ids
    → category_annotation l.strings hs l.element ≡ find (is_category l.strings hs) (drop l.annotation-index (annotations_of l.strings l.element))
