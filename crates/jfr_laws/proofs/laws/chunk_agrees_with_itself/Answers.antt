use Rattle.jfr_laws.proofs.Itself.{same_kept_itself}
use Rattle.jfr_laws.proofs.laws.chunk_agrees_with_itself.Goals as goal

pub returns : goal.returns
returns c = λ slim p kept a are. same_kept_itself slim p kept a are
