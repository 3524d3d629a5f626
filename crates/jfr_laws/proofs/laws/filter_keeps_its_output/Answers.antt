use Rattle.jfr_laws.proofs.Settled.{settled}
use Rattle.jfr_laws.proofs.laws.filter_keeps_its_output.Goals as goal

pub returns : goal.returns
returns c = λ g p whole a. settled g p whole a
