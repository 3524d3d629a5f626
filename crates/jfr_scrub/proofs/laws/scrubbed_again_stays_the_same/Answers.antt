use Rattle.jfr_scrub.proofs.AgainLaws.{recording_again}
use Rattle.jfr_scrub.proofs.laws.scrubbed_again_stays_the_same.Goals as goal

pub returns : goal.returns
returns c = λ g x. recording_again g x
