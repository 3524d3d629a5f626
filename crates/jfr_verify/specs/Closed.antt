-- How it is computed whether all that is referred to is marked.
use Rattle.std.specs.Prelude.{◌≡◌, ℕ, zero, suc, Bool, true, false, ◌&&◌, List, [], slice_get, unwrap_or, if◌then◌else◌}
use Rattle.std.specs.Option.{option_map_or}
use Rattle.std.specs.List.{list_all}
use Rattle.jfr_chunk.specs.Parts.{Parts, EventAt, events_of}
use Rattle.jfr_worklist.specs.Marks.{is_marked}
use Rattle.jfr_chunk.specs.Reach.{roots, node_entries, next_entries}
use Rattle.jfr_verify.specs.declared.closed.ClosedCheck.{ClosedCheck}

-- Whether the entries with these numbers are marked.
abbrev pub are_marked : List Bool → List ℕ → Bool
are_marked marks numbers = list_all (is_marked marks) numbers

-- These numbers were checked: if one isn't marked, the check fails.
pub record ChecksMarks (numbers : List ℕ) (old new : ClosedCheck) : Type 0 where
  pub marks : new.marks.items ≡ old.marks.items
  pub closed : new.closed ≡ (old.closed && are_marked old.marks.items numbers)

-- Whether all that these events refer to is marked.
abbrev pub events_closed : Parts → List Bool → List EventAt → Bool
events_closed p marks es = are_marked marks (roots p es)

-- What event n refers to, if it is kept.
abbrev pub kept_refs : Parts → List Bool → ℕ → List ℕ
kept_refs p flags n = if unwrap_or (slice_get flags n) false then option_map_or (λ e. node_entries p.entries p.classes p.bytes e.node) (slice_get (events_of p) n) [] else []

-- What entry n refers to, if it is marked.
abbrev pub marked_refs : Parts → List Bool → ℕ → List ℕ
marked_refs p marks n = if is_marked marks n then next_entries p n else []

-- Whether the marked entries among the first n refer only to marked ones.
abbrev pub entries_closed : Parts → List Bool → ℕ → Bool
entries_closed p marks zero = true
entries_closed p marks (suc n) = entries_closed p marks n && are_marked marks (marked_refs p marks n)
