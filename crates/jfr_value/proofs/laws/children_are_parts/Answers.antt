use Rattle.jfr_value.proofs.ChildrenLaws.{fields_cover, items_cover, parts_are_valid}
use Rattle.jfr_value.proofs.NodeLaws.{value_is}
use Rattle.jfr_value.proofs.laws.children_are_parts.Goals as goal

pub returns-clause-value : goal.returns-clause-value
returns-clause-value c = λ k b n v s i. value_is k b n v s i

pub returns-clause-parts : goal.returns-clause-parts
returns-clause-parts c = λ k b n v s i j. parts_are_valid k b s n v i j

pub returns-clause-fields : goal.returns-clause-fields
returns-clause-fields c = λ k b n v d s i a o q m. fields_cover k b s n v d i a o q m

pub returns-clause-items : goal.returns-clause-items
returns-clause-items c = λ k b n v s i a. items_cover k b s n v i a
