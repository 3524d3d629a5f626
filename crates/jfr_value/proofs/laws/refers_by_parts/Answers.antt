use Rattle.jfr_value.proofs.TargetLaws.{refers_parts}
use Rattle.jfr_value.proofs.laws.refers_by_parts.Goals as goal

pub returns : goal.returns
returns c = λ k b n v s i. refers_parts k s b n v i
