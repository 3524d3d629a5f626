use Rattle.jfr_report.proofs.SampleAccepted.{sample_accepted}
use Rattle.jfr_report.proofs.laws.sample_is_accepted.Goals as goal

pub returns : goal.returns
returns c = sample_accepted
