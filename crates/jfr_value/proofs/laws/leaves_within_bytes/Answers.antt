use Rattle.jfr_value.proofs.TargetLaws.{node_leaves_within}
use Rattle.jfr_value.proofs.laws.leaves_within_bytes.Goals as goal

pub returns : goal.returns
returns c = λ k b n v s i. node_leaves_within k s b n v i
