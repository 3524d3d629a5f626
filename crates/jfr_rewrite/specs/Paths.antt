-- Where paths lead in a rewritten chunk.
use Rattle.std.specs.Prelude.{◌≡◌, ℕ, Bool, false, List, [], ◌∷◌, Option, Some, None, Contains, map, option_and_then, slice_range, if◌then◌else◌}
use Rattle.std.specs.Option.{option_map, option_map_or}
use Rattle.jfr_layout.specs.Classes.{Classes}
use Rattle.jfr_layout.specs.declared.shape.Shape.{Shape}
use Rattle.jfr_frame.specs.Records.{record_end}
use Rattle.jfr_value.specs.declared.leaf.Holder.{Holder}
use Rattle.jfr_value.specs.declared.node.Step.{Step}
use Rattle.jfr_value.specs.declared.node.Step.TheVariants as steps
use Rattle.jfr_value.specs.Values.{Value, bytes_of, own_target, Fits}
use Rattle.jfr_value.specs.Nodes.{NodeAt, Both, child, target, node_bytes, value_of}
use Rattle.jfr_value.specs.Leaves.{leaves_in, part_holder}
use Rattle.jfr_pool.specs.Entries.{entry_node, in_force, number_in_force}
use Rattle.jfr_worklist.specs.Marks.{IsMarked}
use Rattle.jfr_chunk.specs.Parts.{Parts, EventAt}
use Rattle.jfr_chunk.specs.Paths.{leads}
use Rattle.jfr_rewrite.specs.Changed.{Change, changed, changed_leaf, content}
use Rattle.jfr_rewrite.specs.Rewritten.{HasChangedValue}

-- A node and its holder: the innermost field that it is in, if it is in one.
pub record Held : Type 0 where
  pub holder : Option Holder
  pub node : NodeAt

-- Whether Follow stops at a value, given its holder.
abbrev pub Stops : Type 0
Stops = Option Holder → Value → Bool

-- The holder of the node to which a step leads: that of the part, or none for the value of an entry.
abbrev pub step_holder : Option Holder → Shape → Step → Option Holder
step_holder h s (steps.Field i) = part_holder s h i
step_holder h s (steps.Item i) = part_holder s h i
step_holder h s steps.Follow = None

-- What a node refers to, unless Follow stops there.
abbrev pub target_but : Stops → Parts → Held → Option (ℕ × ℕ)
target_but stops p n = if option_map_or (stops n.holder) (value_of p.classes p.bytes n.node) false then None else target p.classes p.bytes n.node

-- The node after one step, if Follow doesn't stop.
abbrev pub node_after : Stops → Parts → Held → Step → Option NodeAt
node_after stops p n (steps.Field i) = child p.classes p.bytes n.node (steps.Field i)
node_after stops p n (steps.Item i) = child p.classes p.bytes n.node (steps.Item i)
node_after stops p n steps.Follow = option_and_then (λ t. option_map entry_node (in_force p.entries t)) (target_but stops p n)

-- The node to which a step leads, with its holder.
abbrev pub held_after : Held → Step → NodeAt → Held
held_after n s m = record { holder = step_holder n.holder n.node.shape s; node = m }

-- The node to which a path leads that goes no further where Follow stops.
abbrev pub leads_but : Stops → Parts → Held → List Step → Option Held
leads_but stops p n [] = Some n
leads_but stops p n (s ∷ path) = option_and_then (λ m. leads_but stops p (held_after n s m) path) (node_after stops p n s)

-- An event's or an entry's node, which is in no field.
abbrev pub root : NodeAt → Held
root n = record { holder = None; node = n }

-- A class and a key, and the class and the new key.
abbrev pub with_key : (ℕ × ℕ → ℕ) → ℕ × ℕ → ℕ × ℕ
with_key key t = (t.0, key t)

-- A changed value refers to the same class by the new key, or to nothing if Follow stops at the value.
abbrev pub Retargets : Classes → Change → Stops → (ℕ × ℕ → ℕ) → Type 0
Retargets k ch stops key = (h : Option Holder) (v : Value) → Fits k v → own_target (changed ch h v) ≡ (if stops h v then None else option_map (with_key key) (own_target v))

-- Such a path leads from a kept event to a node that refers to this class and key.
pub record Met (stops : Stops) (p : Parts) (kept : List EventAt) (t : ℕ × ℕ) : Type 0 where
  pub event : EventAt
  pub is_kept : Contains kept event
  pub path : List Step
  pub node : Held
  pub leads_there : leads_but stops p (root event.node) path ≡ Some node
  pub refers : target_but stops p node ≡ Some t

-- A class and a key are met whose new key is this.
abbrev pub MetBy : (ℕ × ℕ → ℕ) → Stops → Parts → List EventAt → ℕ × ℕ → Type 0
MetBy key stops p kept u = (t : ℕ × ℕ) × Met stops p kept t × (with_key key t ≡ u)

-- For each class and key that are met, the entry in force for the new key has the changed value of the entry in
-- force, or there is none for either.
abbrev pub MeetsChanged : Change → (ℕ × ℕ → ℕ) → Stops → Parts → Parts → List EventAt → Type 0
MeetsChanged ch key stops p q kept = (t : ℕ × ℕ) → Met stops p kept t → Both (HasChangedValue ch p q) (in_force p.entries t) (in_force q.entries (with_key key t))

-- Marked is each entry that is in force for a class and key that are met.
abbrev pub MarksMet : Stops → Parts → List EventAt → List Bool → Type 0
MarksMet stops p kept marks = (t : ℕ × ℕ) → Met stops p kept t → (n : ℕ) → number_in_force p.entries t ≡ Some n → IsMarked marks n

-- And no other entry is marked.
abbrev pub MarksOnlyMet : Stops → Parts → List EventAt → List Bool → Type 0
MarksOnlyMet stops p kept marks = (n : ℕ) → IsMarked marks n → (t : ℕ × ℕ) × Met stops p kept t × (number_in_force p.entries t ≡ Some n)

-- Two nodes have the same shape, and the second has the changed bytes and the changed leaves of the first.
pub record IsChangedNode (ch : Change) (p q : Parts) (n : Held) (o : NodeAt) : Type 0 where
  pub shape : n.node.shape ≡ o.shape
  pub bytes : option_map_or (λ v. bytes_of (changed ch n.holder v)) (value_of p.classes p.bytes n.node) [] ≡ node_bytes q.bytes o
  pub leaves : map content (leaves_in n.holder q.classes q.bytes o) ≡ map (changed_leaf ch) (leaves_in n.holder p.classes p.bytes n.node)

-- Two events of the same class, with the same bytes after their fields. Each path leads, unless Follow stops on it,
-- from the first to a node and from the second to the changed one, or from both nowhere.
pub record MeansChanged (ch : Change) (stops : Stops) (p q : Parts) (e f : EventAt) : Type 0 where
  pub class : e.record_of.type_id ≡ f.record_of.type_id
  pub rest : slice_range p.bytes e.node.end (record_end e.record_of) ≡ slice_range q.bytes f.node.end (record_end f.record_of)
  pub paths : (path : List Step) → Both (IsChangedNode ch p q) (leads_but stops p (root e.node) path) (leads q f.node path)
