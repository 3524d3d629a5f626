-- The files that a map in memory holds.
use Rattle.std.specs.Prelude.{◌≡◌, is_some, true, ℕ, List, String, string_bytes, Vec, map}
use Rattle.std.specs.FinMap as fin
use Rattle.std.specs.declared.alloc.Global.{Global}
use Rattle.std.specs.BTreeMap.{BTreeMap}
use Rattle.jfr_outside.specs.World.{Files}

-- A file's name and its bytes.
abbrev pub entry_of : (String Global × Vec ℕ Global) → (List ℕ × List ℕ)
entry_of e = (string_bytes e.0, e.1.items)

-- The files that the map holds.
abbrev pub files_of : BTreeMap (String Global) (Vec ℕ Global) → Files
files_of m = fin.from_entries (map entry_of m.entries)

-- A file of this name exists.
pub record IsHeld (files : Files) (name : List ℕ) : Type 0 where
  pub there : is_some (fin.get files name) ≡ true
