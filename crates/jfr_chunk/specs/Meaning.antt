-- When two chunks mean the same: event by event, path by path.
use Rattle.std.specs.Prelude.{◌≡◌, ℕ, List, [], ◌∷◌, ⊤}
use Rattle.jfr_frame.specs.Records.{record_bytes}
use Rattle.jfr_value.specs.declared.node.Step.{Step}
use Rattle.jfr_value.specs.Nodes.{NodeAt, node_bytes, Both}
use Rattle.jfr_value.specs.Laws.{SameNode}
use Rattle.jfr_pool.specs.Entries.{in_force, entry_node}
use Rattle.jfr_chunk.specs.Parts.{Parts, EventAt}
use Rattle.jfr_chunk.specs.Paths.{leads}

-- Every path leads from both nodes to nodes with equal shape and bytes, or from both nowhere.
abbrev pub SamePaths : Parts → Parts → NodeAt → NodeAt → Type 0
SamePaths p q n m = (path : List Step) → Both (SameNode p.bytes q.bytes) (leads p n path) (leads q m path)

-- Both chunks have an entry in force for the class and the key, with equal bytes of the value, or neither has
-- one.
abbrev pub SameEntry : Parts → Parts → ℕ × ℕ → Type 0
SameEntry p q target = Both (λ e f. node_bytes p.bytes (entry_node e) ≡ node_bytes q.bytes (entry_node f)) (in_force p.entries target) (in_force q.entries target)

-- Two events have the same class and equal record bytes, and every path leads to the same from both.
pub record SameEvent (p q : Parts) (e f : EventAt) : Type 0 where
  pub class : e.record_of.type_id ≡ f.record_of.type_id
  pub bytes : record_bytes p.bytes e.record_of ≡ record_bytes q.bytes f.record_of
  pub paths : SamePaths p q e.node f.node

-- The events correspond one to one, in order, and each pair means the same.
abbrev pub SameMeaning : Parts → Parts → List EventAt → List EventAt → Type 0
SameMeaning p q [] [] = ⊤
SameMeaning p q (e ∷ es) (f ∷ fs) = SameEvent p q e f × SameMeaning p q es fs
SameMeaning p q [] (f ∷ fs) = ⊥
SameMeaning p q (e ∷ es) [] = ⊥
