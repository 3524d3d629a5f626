use Rattle.jfr_scrub.proofs.EndsWell.{scrub_ends_well, all_before}
use Rattle.jfr_scrub.proofs.laws.scrubbing_ends_well.Goals as goal

pub returns-clause-exactly : goal.returns-clause-exactly
returns-clause-exactly c = λ g output x. scrub_ends_well g output x

pub returns-clause-all : goal.returns-clause-all
returns-clause-all c = λ g output x e. all_before g output x e
