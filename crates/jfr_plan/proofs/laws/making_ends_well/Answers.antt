use Rattle.jfr_plan.proofs.EndsWell.{making_ends_well, all_made}
use Rattle.jfr_plan.proofs.laws.making_ends_well.Goals as goal

pub returns-clause-exactly : goal.returns-clause-exactly
returns-clause-exactly c = λ output refusal becomes x. making_ends_well output refusal becomes x

pub returns-clause-all : goal.returns-clause-all
returns-clause-all c = λ output refusal becomes x e. all_made output refusal becomes x e
