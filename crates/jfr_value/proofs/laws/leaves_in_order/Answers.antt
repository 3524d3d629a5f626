use Rattle.jfr_value.proofs.ChildrenLaws.{leaves_ordered}
use Rattle.jfr_value.proofs.laws.leaves_in_order.Goals as goal

pub returns : goal.returns
returns c = λ k b n v g s i. leaves_ordered k b s n v g i
