use Rattle.jfr_verify.proofs.VerifiedLaws.{verified}
use Rattle.jfr_verify.proofs.laws.passed_is_verified.Goals as goal

pub returns : goal.returns
returns c = λ p q flags receipt a b h. verified p q a b flags receipt h
