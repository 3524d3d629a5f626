-- In every chunk the classes are sound, and the fields of events are values.
use Rattle.std.specs.Prelude.{◌≡◌, ◌≢◌, Some, slice_get}
use Rattle.std.proofs.Common.{refl, subst}
use Rattle.jfr_layout.specs.Classes.{Sound}
use Rattle.jfr_value.specs.declared.node.Node.{Node}
use Rattle.jfr_value.specs.declared.node.Step.{Step}
use Rattle.jfr_value.specs.declared.node.Step.TheVariants as steps
use Rattle.jfr_value.specs.Values.{Value}
use Rattle.jfr_value.specs.Nodes.{NodeAt, IsNode, IsValue, child, node_of}
use Rattle.jfr_chunk.specs.declared.event.Event.{Event}
use Rattle.jfr_chunk.specs.Parts.{Parts, AreParts, events_of}
use Rattle.jfr_chunk.specs.Paths.{step}
use Rattle.jfr_chunk.specs.Indexed.{event_at}
use Rattle.jfr_chunk.proofs.PathLaws.{HasNodes}
use Rattle.jfr_worklist.proofs.Members.{get_in}
use Rattle.jfr_chunk.proofs.HasNodesLaws.{has_nodes, event_is}

-- A value of the chunk.
abbrev pub IsPlace : Parts → NodeAt → Type 0
IsPlace p n = (v : Value) × IsNode p.classes p.bytes n v

pub value_place : (p : Parts) (n : Node) → n.bytes.now ≡ p.bytes → IsValue p.classes n → IsPlace p (node_of n)
value_place p n e (v, i) = (v, subst (λ z. IsNode p.classes z (node_of n) v) e i)

module _ (p : Parts) (parts : AreParts p) where
  abbrev holds : HasNodes p
  holds = has_nodes p parts

  pub sound : Sound p.classes
  sound = holds.sound

  pub event_place : (e : Event) → slice_get (events_of p) e.number ≡ Some (event_at e) → IsPlace p (node_of e.node)
  event_place e q = let i = event_is p parts (event_at e) (get_in (events_of p) e.number (event_at e) q) in (i.value, i.node)

-- A step to a field or an item.
pub step_child : (p : Parts) (n : NodeAt) (by : Step) → by ≢ steps.Follow → step p n by ≡ child p.classes p.bytes n by
step_child p n (steps.Field i) h = refl
step_child p n (steps.Item i) h = refl
step_child p n steps.Follow h = absurd (h refl)
