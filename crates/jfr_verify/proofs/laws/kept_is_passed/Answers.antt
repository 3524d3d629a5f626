use Rattle.jfr_chunk.proofs.ReachedLaws.{path_reach}
use Rattle.jfr_chunk.proofs.HasNodesLaws.{has_nodes, event_is}
use Rattle.jfr_chunk.specs.Parts.{events_of}
use Rattle.jfr_verify.proofs.LineLaws.{receipt_of_is_receipt}
use Rattle.jfr_verify.proofs.SpellingLaws.{receipt_exact}
use Rattle.jfr_verify.proofs.CompleteLaws.{kept_passes}
use Rattle.jfr_verify.proofs.laws.kept_is_passed.Goals as goal

pub returns : goal.returns
returns c = λ p flags a names k. kept_passes p a flags names k
    (λ all. receipt_of_is_receipt k.parts (λ i h. path_reach k.parts (has_nodes k.parts k.valid) (events_of k.parts) (λ e m. (let v = event_is k.parts k.valid e m in (v.value, v.node))) i (all i h))
    (receipt_exact k.parts))
