use Rattle.std.proofs.Common.{◌≡◌, ◌++◌, flat_map}
use Rattle.jfr_show.specs.Texts.{escaped}
use Rattle.jfr_show.proofs.quoted.push_characters.Given as goal

abbrev pub invariant-loop-character : goal.invariant-loop-character
invariant-loop-character l = l.out ++ flat_map escaped l.character-iterator ≡ l.initial.out ++ flat_map escaped l.initial.character-iterator
