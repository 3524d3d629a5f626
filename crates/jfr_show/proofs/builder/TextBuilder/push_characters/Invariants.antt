use Rattle.std.proofs.Common.{◌≡◌, ◌++◌}
use Rattle.jfr_show.proofs.builder.TextBuilder.push_characters.Given as goal

abbrev pub invariant-loop-character : goal.invariant-loop-character
invariant-loop-character l = l.self ++ l.character-iterator ≡ l.initial.self ++ l.initial.character-iterator
