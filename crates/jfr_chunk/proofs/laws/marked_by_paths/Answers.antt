use Rattle.std.specs.Prelude.{Contains}
use Rattle.std.proofs.lemmas.List.Elements.{All-contains}
use Rattle.jfr_chunk.specs.Parts.{events_of}
use Rattle.jfr_worklist.proofs.Members.{contains_in, in_contains}
use Rattle.jfr_chunk.proofs.ReachedLaws.{reached_marked}
use Rattle.jfr_chunk.proofs.HasNodesLaws.{has_nodes, event_is}
use Rattle.jfr_chunk.proofs.laws.marked_by_paths.Goals as goal

pub returns : goal.returns
returns c = λ p kept a k number.
    reached_marked p (has_nodes p a) kept (λ e i. (let v = event_is p a e (contains_in (events_of p) e (All-contains (Contains (events_of p)) kept e k (in_contains kept e i))) in (v.value, v.node)))
    number
