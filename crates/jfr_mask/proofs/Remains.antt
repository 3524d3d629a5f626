-- The entries that remain of an accepted chunk are exactly those that are reached.
use Rattle.std.specs.Prelude.{ℕ, List}
use Rattle.std.proofs.lemmas.List.Elements.{All-contains_itself}
use Rattle.jfr_value.specs.Nodes.{IsNode}
use Rattle.jfr_value.specs.Values.{Value}
use Rattle.jfr_worklist.specs.Marks.{IsMarked}
use Rattle.jfr_worklist.specs.Members.{In}
use Rattle.jfr_chunk.specs.Laws.{AreEvents}
use Rattle.jfr_chunk.specs.Parts.{AreParts, EventAt, Parts, events_of}
use Rattle.jfr_chunk.specs.Reach.{Reached}
use Rattle.jfr_chunk.proofs.HasNodesLaws.{has_nodes}
use Rattle.jfr_laws.proofs.Same.{event_of_chunk}
use Rattle.jfr_rewrite.specs.Paths.{MarksMet, MarksOnlyMet, Stops}
use Rattle.jfr_mask.specs.ReachBut.{marks_but}
use Rattle.jfr_mask.proofs.ReachBut.{marks_met, marks_reached, only_met}

-- The events of a chunk are events of it.
pub all_are : (p : Parts) → AreEvents p (events_of p)
all_are p = All-contains_itself (events_of p)

module _ (stops : Stops) (p : Parts) (kept : List EventAt) (a : AreParts p) (are : AreEvents p kept) where
  nodes : (e : EventAt) → In kept e → (v : Value) × IsNode p.classes p.bytes e.node v
  nodes e i = let u = event_of_chunk p a kept are e i in (u.value, u.node)

  pub remains_met : MarksMet stops p kept (marks_but stops p kept)
  remains_met = marks_met stops p (has_nodes p a) kept nodes

  pub only_remains_met : MarksOnlyMet stops p kept (marks_but stops p kept)
  only_remains_met = only_met stops p (has_nodes p a) kept nodes

  pub remains_reached : (number : ℕ) → IsMarked (marks_but stops p kept) number → Reached p kept number
  remains_reached = marks_reached stops p (has_nodes p a) kept nodes
