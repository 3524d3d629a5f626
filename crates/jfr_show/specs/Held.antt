-- The tallies that a map in memory holds.
use Rattle.std.specs.Prelude.{ℕ, List, map, String, string_bytes}
use Rattle.std.specs.FinMap as fin
use Rattle.std.specs.BTreeMap.{BTreeMap}
use Rattle.std.specs.declared.alloc.Global.{Global}
use Rattle.jfr_show.specs.declared.tally.Tally.{Tally}
use Rattle.jfr_show.specs.Totals.{Tallies}

-- The bytes of a name, and its tally.
abbrev pub entry_of : String Global × Tally → List ℕ × Tally
entry_of e = (string_bytes e.0, e.1)

-- The tallies that a map holds.
abbrev pub tallies_in : BTreeMap (String Global) Tally → Tallies
tallies_in m = fin.from_entries (map entry_of m.entries)
