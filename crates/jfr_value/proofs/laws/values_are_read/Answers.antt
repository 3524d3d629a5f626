use Rattle.jfr_value.proofs.DepthLaws.{fits_good}
use Rattle.jfr_value.proofs.FitLaws.{good_fits}
use Rattle.jfr_value.proofs.laws.values_are_read.Goals as goal

pub returns : goal.returns
returns c = λ k s v. (fits_good k v s, good_fits k v)
