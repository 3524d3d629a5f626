use Rattle.jfr_value.proofs.ByteLaws.{node_agree, law_of_bytes}
use Rattle.jfr_value.proofs.laws.same_bytes.Goals as goal

pub returns-clause-value : goal.returns-clause-value
returns-clause-value c = λ k m b d n o v a i e p q. node_agree k m b d n o v i e.shape e.bytes p q a

pub returns-clause-steps : goal.returns-clause-steps
returns-clause-steps c = λ k m b d n o v s t a i e p q step. law_of_bytes k m b d n o v s t i e p q a step
