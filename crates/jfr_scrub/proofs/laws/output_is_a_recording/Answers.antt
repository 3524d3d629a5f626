use Rattle.jfr_scrub.proofs.AgainLaws.{one_scrub}
use Rattle.jfr_scrub.proofs.HeadlineLaws.{is_scrub_of}
use Rattle.jfr_scrub.proofs.laws.output_is_a_recording.Goals as goal

pub returns-clause-scrub : goal.returns-clause-scrub
returns-clause-scrub c = λ g x. is_scrub_of g x

pub returns-clause-one : goal.returns-clause-one
returns-clause-one c = λ g x y s. one_scrub g x y s
