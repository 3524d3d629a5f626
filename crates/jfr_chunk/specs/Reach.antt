-- The entries that the kept events reach: by paths of any length, and the same by a computation.
use Rattle.std.specs.Prelude.{◌≡◌, ℕ, Bool, true, false, List, [], ◌∷◌, ◌++◌, length, replicate, slice_get, Some, Contains}
use Rattle.std.specs.Option.{option_map_or}
use Rattle.jfr_worklist.specs.Marks.{those, marked_at, swept}
use Rattle.jfr_layout.specs.Classes.{Classes}
use Rattle.jfr_value.specs.declared.node.Step.{Step}
use Rattle.jfr_value.specs.Nodes.{NodeAt, target, targets}
use Rattle.jfr_pool.specs.declared.entry.EntryAt.{EntryAt}
use Rattle.jfr_pool.specs.Entries.{number_in_force, entry_node}
use Rattle.jfr_chunk.specs.Parts.{Parts, EventAt, events_of}
use Rattle.jfr_chunk.specs.Paths.{leads}

-- A path of a kept event leads to a node that refers to this class and key.
pub record Used (p : Parts) (kept : List EventAt) (t : ℕ × ℕ) : Type 0 where
  pub event : EventAt
  pub is_kept : Contains kept event
  pub path : List Step
  pub node : NodeAt
  pub leads_there : leads p event.node path ≡ Some node
  pub refers : target p.classes p.bytes node ≡ Some t

-- A path from a kept event leads to a node that refers to a class and a key, and the entry in force for them
-- has this number.
pub record Reached (p : Parts) (kept : List EventAt) (number : ℕ) : Type 0 where
  pub event : EventAt
  pub is_kept : Contains kept event
  pub path : List Step
  pub node : NodeAt
  pub leads_there : leads p event.node path ≡ Some node
  pub key : ℕ × ℕ
  pub refers : target p.classes p.bytes node ≡ Some key
  pub in_force : number_in_force p.entries key ≡ Some number

-- The numbers of the entries in force to which a node refers, from left to right.
abbrev pub node_entries : List EntryAt → Classes → List ℕ → NodeAt → List ℕ
node_entries es k c n = those (number_in_force es) (targets k c n)

-- The classes and keys to which these nodes refer, from left to right.
abbrev pub all_targets : Parts → List NodeAt → List (ℕ × ℕ)
all_targets p [] = []
all_targets p (n ∷ ns) = targets p.classes p.bytes n ++ all_targets p ns

-- The nodes of these events' fields.
abbrev pub nodes_of : List EventAt → List NodeAt
nodes_of [] = []
nodes_of (e ∷ es) = e.node ∷ nodes_of es

-- The numbers of the entries in force to which the kept events refer.
abbrev pub roots : Parts → List EventAt → List ℕ
roots p kept = those (number_in_force p.entries) (all_targets p (nodes_of kept))

-- The numbers of the entries in force to which entry i refers.
abbrev pub next_entries : Parts → ℕ → List ℕ
next_entries p i = those (number_in_force p.entries) (option_map_or (λ e. targets p.classes p.bytes (entry_node e)) (slice_get p.entries i) [])

-- The marks of the entries that are reached. In each round, marked entries mark those to which they refer;
-- after n rounds, for n entries, nothing is added any more.
unfoldable pub reached_marks : Parts → List EventAt → List Bool
reached_marks p kept = swept (length p.entries) (next_entries p) (marked_at (replicate (length p.entries) false) (roots p kept))

-- The members that are marked, in order.
abbrev pub marked : {X : Type 0} → List Bool → List X → List X
marked [] xs = []
marked (m ∷ ms) [] = []
marked (true ∷ ms) (x ∷ xs) = x ∷ marked ms xs
marked (false ∷ ms) (x ∷ xs) = marked ms xs

-- The events that are kept, given a flag for each.
abbrev pub kept_by : Parts → List Bool → List EventAt
kept_by p flags = marked flags (events_of p)

-- The entries that remain: those that are in force and reached.
unfoldable pub remain : Parts → List EventAt → List EntryAt
remain p kept = marked (reached_marks p kept) p.entries
