use Rattle.std.specs.Prelude.{◌≡◌, ◌++◌, map, string_bytes}
use Rattle.std.specs.List.{flat_map}
use Rattle.std.specs.Map.Iter.{deref_pair}
use Rattle.jfr_stacks.specs.Held.{entry_in}
use Rattle.jfr_stacks.specs.Folded.{line}
use Rattle.jfr_stacks.proofs.counts.push_lines.Given as goal

abbrev pub invariant-loop-text : goal.invariant-loop-text
invariant-loop-text l = string_bytes l.out ≡ string_bytes l.initial.out ++ flat_map line (map entry_in (map deref_pair l.yielded))
