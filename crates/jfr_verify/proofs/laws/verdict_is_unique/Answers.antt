use Rattle.jfr_verify.proofs.VerdictLaws.{one_verdict, some_verdict}
use Rattle.jfr_verify.proofs.laws.verdict_is_unique.Goals as goal

pub returns-clause-one : goal.returns-clause-one
returns-clause-one c = λ g t. one_verdict g t

pub returns-clause-there : goal.returns-clause-there
returns-clause-there c = some_verdict
