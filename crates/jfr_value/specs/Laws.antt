-- Laws of values and of nodes.
use Rattle.std.specs.Prelude.{◌≡◌, ◌↔◌, ◌⊎◌, ℕ, zero, suc, ◌≤◌, List, [], ◌∷◌, ◌++◌, replicate, Option, Some, Contains, if◌then◌else◌}
use Rattle.std.specs.List.{filter_map}
use Rattle.jfr_base.specs.declared.flaw.Flaw.{Flaw}
use Rattle.jfr_base.specs.declared.integer.Var.{Var}
use Rattle.jfr_base.specs.Formats.{Exactly, int_at}
use Rattle.jfr_base.specs.Integer.{worth_within}
use Rattle.jfr_layout.specs.Classes.{Classes, item_of}
use Rattle.jfr_layout.specs.declared.shape.Shape.{Shape}
use Rattle.jfr_value.specs.declared.leaf.Holder.{Holder}
use Rattle.jfr_value.specs.declared.leaf.LeafKind.TheVariants as leaf_kinds
use Rattle.jfr_value.specs.declared.node.Step.{Step}
use Rattle.jfr_value.specs.Values.{Value, Single, Group, shape_of, bytes_of, Fits}
use Rattle.jfr_value.specs.Reading.{value_format}
use Rattle.jfr_value.specs.Nodes.{NodeAt, node_at, node_bytes, IsNode, EndsAt, IsRefused, IsValueReason, child, children, inside, target, targets, Both}
use Rattle.jfr_value.specs.Leaves.{LeafAt, leaves, leaves_in, leaf_target, part_holder}

-- The trees that fit are exactly those that the format reads, each from its own bytes.
abbrev pub AreRead : Classes → Type 0
AreRead k = (v : Value) → Fits k v ↔ Exactly (value_format k (shape_of v)) (bytes_of v) v

-- There is exactly one answer for the shape at the offset: a value, or a flaw.
pub record HasOneAnswer (k : Classes) (c : List ℕ) (s : Shape) (at end : ℕ) : Type 0 where
  pub some : ((to : ℕ) × (to ≤ end) × EndsAt k c s at to) ⊎ ((flaw : Flaw) × IsRefused k c s at end flaw)
  pub not_both : (to : ℕ) → to ≤ end → EndsAt k c s at to → (flaw : Flaw) → IsRefused k c s at end flaw → ⊥
  pub one_value : (to too : ℕ) (v w : Value) → IsNode k c (node_at s at to) v → IsNode k c (node_at s at too) w → (to ≡ too) × (v ≡ w)
  pub one_flaw : (flaw other : Flaw) → IsRefused k c s at end flaw → IsRefused k c s at end other → flaw ≡ other
  pub reason : (flaw : Flaw) → IsRefused k c s at end flaw → IsValueReason flaw.reason

-- Nodes of equal shape and bytes.
pub record SameNode (c d : List ℕ) (n o : NodeAt) : Type 0 where
  pub shape : n.shape ≡ o.shape
  pub bytes : node_bytes c n ≡ node_bytes d o

-- Nodes that have the same field and item steps, each to nodes of equal shape and bytes.
abbrev pub SameSteps : Classes → Classes → List ℕ → List ℕ → NodeAt → NodeAt → Type 0
SameSteps k m c d n o = (step : Step) → Both (SameNode c d) (child k c n step) (child m d o step)

-- A path of fields and items leads to a node that refers to this class and key.
abbrev pub RefersInside : Classes → List ℕ → NodeAt → ℕ × ℕ → Type 0
RefersInside k c n t = (path : List Step) × (m : NodeAt) × (inside k c n path ≡ Some m) × (target k c m ≡ Some t)

-- The targets of a node are those of the nodes to which its paths of fields and items lead, and those of its
-- leaves.
pub record RefersByParts (k : Classes) (c : List ℕ) (n : NodeAt) : Type 0 where
  pub paths : (t : ℕ × ℕ) → Contains (targets k c n) t ↔ RefersInside k c n t
  pub leaves_too : filter_map leaf_target (leaves k c n) ≡ targets k c n

-- These are nodes of values of these shapes, which cover the bytes from one offset up to the other, one after
-- another.
abbrev pub Cover : Classes → List ℕ → ℕ → ℕ → List Shape → List NodeAt → Type 0
Cover k c at to [] [] = at ≡ to
Cover k c at to (s ∷ ss) (n ∷ ns) = (n.at ≡ at) × (n.shape ≡ s) × ((v : Value) × IsNode k c n v) × Cover k c n.end to ss ns
Cover k c at to [] (n ∷ ns) = ⊥
Cover k c at to (s ∷ ss) [] = ⊥

-- An array's items cover what follows its count, which is read at its start.
pub record ItemsCover (k : Classes) (c : List ℕ) (n : NodeAt) : Type 0 where
  pub count : Var
  pub counted : int_at c n.at n.end ≡ Some count
  pub cover : Cover k c count.end n.end (replicate count.value (item_of n.shape)) (children k c n)

-- The leaves of nodes, whose holders the function gives by their numbers.
abbrev pub leaves_in_each : (ℕ → Option Holder) → Classes → List ℕ → List NodeAt → List LeafAt
leaves_in_each holders k c [] = []
leaves_in_each holders k c (n ∷ ns) = leaves_in (holders zero) k c n ++ leaves_in_each (λ i. holders (suc i)) k c ns

-- The leaves of a node with this holder and value: the only one of a reference or of a value of a base name;
-- otherwise those of its children in order, and before them an array's count.
abbrev pub LeavesInOrder : Classes → List ℕ → NodeAt → Value → Option Holder → Type 0
LeavesInOrder k c n (Single s kind b key) holder = leaves_in holder k c n ≡ record { kind = kind; class = s.class; holder = holder; at = n.at; spelled = b } ∷ []
LeavesInOrder k c n (Group s h vs) holder =
    leaves_in holder k c n
    ≡ (if s.array then record { kind = leaf_kinds.Count (worth_within 8 h); class = s.class; holder = holder; at = n.at; spelled = h } ∷ [] else []) ++ leaves_in_each (part_holder s holder) k c
    (children k c n)
