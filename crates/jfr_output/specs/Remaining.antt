-- The entries that remain.
use Rattle.std.specs.Prelude.{ℕ, ◌≤◌, List, [], ◌∷◌, ⊤}
use Rattle.jfr_pool.specs.declared.entry.EntryAt.{EntryAt}
use Rattle.jfr_output.specs.declared.remaining.RemainingEntries.{RemainingEntries}
use Rattle.jfr_output.specs.declared.remaining.RemainingEntries.TheVariants as remainings

-- The list of the entries that remain.
abbrev pub entries_in : RemainingEntries → List EntryAt
entries_in (remainings.All es) = es.now
entries_in (remainings.Listed es) = es.items

-- The entries are in the order of their checkpoints, whose numbers are at least n.
abbrev pub NotFalling : ℕ → List EntryAt → Type 0
NotFalling n [] = ⊤
NotFalling n (e ∷ es) = (n ≤ e.checkpoint) × NotFalling e.checkpoint es
