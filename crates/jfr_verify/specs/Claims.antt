-- Claimed parents: a parent for each entry, which may or may not refer to it.
use Rattle.std.specs.Prelude.{◌≡◌, ◌<◌, ℕ, Bool, true, false, List, length, filter, slice_get, slice_set, Some, Contains, ◌==◌}
use Rattle.std.specs.Option.{option_map_or}
use Rattle.jfr_chunk.specs.Parts.{Parts, EventAt, events_of}
use Rattle.jfr_chunk.specs.Reach.{node_entries, next_entries}
use Rattle.jfr_verify.specs.declared.line.Parent.{Parent}
use Rattle.jfr_verify.specs.declared.line.Parent.TheVariants.{OfEvent, OfEntry}

-- The parent refers to entry t, which is in force.
abbrev pub RefersTo : Parts → Parent → ℕ → Type 0
RefersTo p (OfEvent i) t = (e : EventAt) × (slice_get (events_of p) i ≡ Some e) × Contains (node_entries p.entries p.classes p.bytes e.node) t
RefersTo p (OfEntry i) t = Contains (next_entries p i) t

-- Entry t has a claimed parent, which refers to it.
abbrev pub IsConfirmed : Parts → List Parent → ℕ → Type 0
IsConfirmed p parents t = (parent : Parent) × (slice_get parents t ≡ Some parent) × RefersTo p parent t

-- Each entry has a claimed parent, which refers to it.
abbrev pub AreConfirmed : Parts → List Parent → Type 0
AreConfirmed p parents = (t : ℕ) → t < length p.entries → IsConfirmed p parents t

-- Each event of the chunk that is a claimed parent has its flag set.
abbrev pub AreClaimed : List Parent → List Bool → Type 0
AreClaimed parents claimed = (i t : ℕ) → slice_get parents t ≡ Some (OfEvent i) → slice_get claimed i ≡ Some false → ⊥

-- The flags of events, with that of this parent set if it is one of them.
abbrev pub with_claimed : List Bool → Parent → List Bool
with_claimed claimed (OfEvent i) = slice_set claimed i true
with_claimed claimed (OfEntry i) = claimed

-- Whether two parents are the same.
abbrev pub same_parent : Parent → Parent → Bool
same_parent (OfEvent a) (OfEvent b) = a == b
same_parent (OfEntry a) (OfEntry b) = a == b
same_parent (OfEvent a) (OfEntry b) = false
same_parent (OfEntry a) (OfEvent b) = false

-- Whether this is the claimed parent of entry t.
abbrev pub is_parent_of : List Parent → Parent → ℕ → Bool
is_parent_of parents parent t = option_map_or (same_parent parent) (slice_get parents t) false

-- The entries of the list whose claimed parent is this one.
abbrev pub children : List Parent → Parent → List ℕ → List ℕ
children parents parent is = filter (is_parent_of parents parent) is
