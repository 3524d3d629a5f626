use Rattle.std.specs.Prelude.{◌≡◌, ◌++◌, codes, take}
use Rattle.std.specs.List.{flat_map}
use Rattle.jfr_show.specs.Texts.{quoted}
use Rattle.jfr_show.proofs.metadata.show_categories.Given as goal

abbrev pub invariant-loop-category : goal.invariant-loop-category
invariant-loop-category l = l.out ≡ l.initial.out ++ flat_map (λ c. codes ", " ++ quoted c) (take l.category-index l.others)
