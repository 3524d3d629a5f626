use Rattle.jfr_report.proofs.EndsWell.{texting_ends_well}
use Rattle.jfr_report.proofs.laws.reports_end_well.Goals as goal

pub returns : goal.returns
returns c = λ texts last x. texting_ends_well texts last x
