use Rattle.jfr_value.proofs.ChildrenLaws.{node_reads}
use Rattle.jfr_value.proofs.laws.nodes_are_read.Goals as goal

pub returns : goal.returns
returns c = λ k b s at to end v sound o l. node_reads k b s at to end v sound o l
