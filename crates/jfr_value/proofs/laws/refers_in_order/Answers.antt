use Rattle.jfr_value.proofs.ChildrenLaws.{targets_in_order}
use Rattle.jfr_value.proofs.laws.refers_in_order.Goals as goal

pub returns : goal.returns
returns c = λ k b n v s i. targets_in_order k b s n v i
