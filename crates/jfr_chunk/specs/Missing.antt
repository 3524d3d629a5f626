-- The classes and keys to which events refer and that have no entry in force.
use Rattle.std.specs.Prelude.{◌≡◌, ◌⊎◌, ℕ, Bool, false, not, is_some, List, map, filter, slice_get, Some, Contains}
use Rattle.jfr_layout.specs.Classes.{Classes}
use Rattle.jfr_value.specs.Nodes.{NodeAt, targets}
use Rattle.jfr_pool.specs.declared.entry.EntryAt.{EntryAt}
use Rattle.jfr_pool.specs.Entries.{number_in_force}
use Rattle.jfr_chunk.specs.declared.missing.MissingRef.{MissingRef}
use Rattle.jfr_chunk.specs.declared.missing.MissingRefs.{MissingRefs}
use Rattle.jfr_chunk.specs.Parts.{Parts, events_of}

-- Whether no entry is in force for the class and the key.
abbrev pub is_missing : List EntryAt → ℕ × ℕ → Bool
is_missing es t = not (is_some (number_in_force es t))

-- The classes and keys without an entry in force to which a node refers, from left to right.
abbrev pub node_missing : List EntryAt → Classes → List ℕ → NodeAt → List (ℕ × ℕ)
node_missing es k c n = filter (is_missing es) (targets k c n)

-- Those to which the events refer, in a list for each event.
abbrev pub missing_by_event : Parts → List (List (ℕ × ℕ))
missing_by_event p = map (λ e. node_missing p.entries p.classes p.bytes e.node) (events_of p)

-- The class and the key of a noted reference.
abbrev pub pair_of : MissingRef → ℕ × ℕ
pair_of m = (m.class, m.key)

-- A reference to this class and key is noted.
abbrev pub IsNoted : List MissingRef → ℕ × ℕ → Type 0
IsNoted refs t = (m : MissingRef) × Contains refs m × (pair_of m ≡ t)

-- Exactly the classes and keys in these lists, one list for each event, are noted. Each is in the list of the
-- event whose number is noted with it.
pub record AreMissing (events : List (List (ℕ × ℕ))) (refs : List MissingRef) : Type 0 where
  pub all : (ts : List (ℕ × ℕ)) → Contains events ts → (t : ℕ × ℕ) → Contains ts t → IsNoted refs t
  pub only : (m : MissingRef) → Contains refs m → (ts : List (ℕ × ℕ)) × (slice_get events m.event ≡ Some ts) × Contains ts (pair_of m)

-- Unless the list lacks some, they are noted in it.
abbrev pub AreNotedIn : List (List (ℕ × ℕ)) → MissingRefs → Type 0
AreNotedIn events list = list.lacks ≡ false → AreMissing events list.refs.items

-- Unless it lacks some, the list has what it had, and these classes and keys of an event.
pub record Notes (ts : List (ℕ × ℕ)) (event : ℕ) (old new : MissingRefs) : Type 0 where
  pub lacked_none : new.lacks ≡ false → old.lacks ≡ false
  pub grows : new.lacks ≡ false → (m : MissingRef) → Contains old.refs.items m → Contains new.refs.items m
  pub added : new.lacks ≡ false → (t : ℕ × ℕ) → Contains ts t → IsNoted new.refs.items t
  pub only : new.lacks ≡ false → (m : MissingRef) → Contains new.refs.items m → Contains old.refs.items m ⊎ ((m.event ≡ event) × Contains ts (pair_of m))
