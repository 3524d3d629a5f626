use Rattle.jfr_verify.proofs.VerdictLaws.{scrubs_verified}
use Rattle.jfr_verify.proofs.laws.scrubs_are_verified.Goals as goal

pub returns : goal.returns
returns c = λ g t. scrubs_verified g t
