use Rattle.std.proofs.Common.{◌≡◌, ◌++◌}
use Rattle.jfr_show.specs.Texts.{indent}
use Rattle.jfr_show.proofs.builder.TextBuilder.push_indent.Given as goal

abbrev pub invariant-loop : goal.invariant-loop
invariant-loop l = l.self ≡ l.initial.self ++ indent l.counter
