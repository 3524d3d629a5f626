use Rattle.jfr_laws.proofs.Scrubbed.{scrubbed_kept}
use Rattle.jfr_laws.proofs.laws.scrubbed_is_kept.Goals as goal

pub returns : goal.returns
returns c = λ names p flags whole a. scrubbed_kept names p a flags whole
