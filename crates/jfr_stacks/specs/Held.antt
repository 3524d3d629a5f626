-- The counts that a map in memory holds.
use Rattle.std.specs.Prelude.{ℕ, List, map, String, string_bytes}
use Rattle.std.specs.FinMap as fin
use Rattle.std.specs.BTreeMap.{BTreeMap}
use Rattle.std.specs.declared.alloc.Global.{Global}
use Rattle.jfr_stacks.specs.Folded.{Counts}

-- The bytes of a text, and its count.
abbrev pub entry_in : String Global × ℕ → List ℕ × ℕ
entry_in e = (string_bytes e.0, e.1)

-- The counts that a map holds.
abbrev pub counts_in : BTreeMap (String Global) ℕ → Counts
counts_in m = fin.from_entries (map entry_in m.entries)
