-- The entries that the kept events reach by paths that go no further where Follow stops, such as at masked strings, by
-- a computation. `MarksMet` and `MarksOnlyMet` of jfr_rewrite say the same by paths of any length.
use Rattle.std.specs.Prelude.{ℕ, Bool, false, List, [], length, replicate, slice_get, Option, None, if◌then◌else◌}
use Rattle.std.specs.List.{flat_map}
use Rattle.std.specs.Option.{option_map_or}
use Rattle.jfr_worklist.specs.Marks.{those, marked_at, swept}
use Rattle.jfr_value.specs.declared.leaf.Holder.{Holder}
use Rattle.jfr_value.specs.Values.{Value, targets_of}
use Rattle.jfr_value.specs.Nodes.{NodeAt, value_of}
use Rattle.jfr_pool.specs.declared.entry.EntryAt.{EntryAt}
use Rattle.jfr_pool.specs.Entries.{number_in_force, entry_node}
use Rattle.jfr_chunk.specs.Parts.{Parts, EventAt}
use Rattle.jfr_chunk.specs.Reach.{marked}
use Rattle.jfr_rewrite.specs.Changed.{Change, changed, plain, single_of}
use Rattle.jfr_rewrite.specs.Paths.{Stops}

-- A value without parts, without its key if Follow stops there.
abbrev pub unkeyed : Stops → Change
unkeyed stops h s x = if stops h (single_of s x) then plain x.kind x.bytes None else x

-- The classes and keys to which a value with this holder and its parts refer, except where Follow stops.
abbrev pub targets_but : Stops → Option Holder → Value → List (ℕ × ℕ)
targets_but stops h v = targets_of (changed (unkeyed stops) h v)

-- Those of a node that is in no field, as an event's and an entry's are.
abbrev pub node_targets_but : Stops → Parts → NodeAt → List (ℕ × ℕ)
node_targets_but stops p n = option_map_or (targets_but stops None) (value_of p.classes p.bytes n) []

-- The numbers of the entries in force to which the kept events refer.
abbrev pub roots_but : Stops → Parts → List EventAt → List ℕ
roots_but stops p kept = those (number_in_force p.entries) (flat_map (λ e. node_targets_but stops p e.node) kept)

-- The numbers of the entries in force to which entry i refers.
abbrev pub next_but : Stops → Parts → ℕ → List ℕ
next_but stops p i = those (number_in_force p.entries) (option_map_or (λ e. node_targets_but stops p (entry_node e)) (slice_get p.entries i) [])

-- The marks of the entries that are reached. In each round, marked entries mark those to which they refer; after n
-- rounds, for n entries, nothing is added any more.
unfoldable pub marks_but : Stops → Parts → List EventAt → List Bool
marks_but stops p kept = swept (length p.entries) (next_but stops p) (marked_at (replicate (length p.entries) false) (roots_but stops p kept))

-- The entries that remain: those that are in force and reached so.
unfoldable pub remain_but : Stops → Parts → List EventAt → List EntryAt
remain_but stops p kept = marked (marks_but stops p kept) p.entries
