use Rattle.std.specs.Prelude.{◌≡◌, ◌++◌, map}
use Rattle.std.specs.List.{flat_map}
use Rattle.std.specs.Map.Iter.{deref_pair}
use Rattle.jfr_show.specs.Held.{entry_of}
use Rattle.jfr_show.specs.Totals.{tally_line}
use Rattle.jfr_show.proofs.tally.show_tallies.Given as goal

abbrev pub invariant-loop-name : goal.invariant-loop-name
invariant-loop-name l = l.out ≡ l.initial.out ++ flat_map tally_line (map entry_of (map deref_pair l.yielded))
