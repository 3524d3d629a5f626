use Rattle.jfr_chunk.proofs.ReachedLaws.{path_reach}
use Rattle.jfr_chunk.proofs.HasNodesLaws.{has_nodes, event_is}
use Rattle.jfr_chunk.specs.Parts.{events_of}
use Rattle.jfr_verify.proofs.LineLaws.{receipt_of_is_receipt}
use Rattle.jfr_verify.proofs.SpellingLaws.{receipt_exact}
use Rattle.jfr_verify.proofs.laws.receipt_of_reached.Goals as goal

pub returns : goal.returns
returns c = λ p a all. receipt_of_is_receipt p (λ i h. path_reach p (has_nodes p a) (events_of p) (λ e k. (let v = event_is p a e k in (v.value, v.node))) i (all i h)) (receipt_exact p)
