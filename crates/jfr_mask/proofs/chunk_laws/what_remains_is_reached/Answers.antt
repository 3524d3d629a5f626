use Rattle.jfr_mask.proofs.Remains.{only_remains_met, remains_met, remains_reached}
use Rattle.jfr_mask.proofs.chunk_laws.what_remains_is_reached.Goals as goal

pub returns-clause-met : goal.returns-clause-met
returns-clause-met c = λ stops p kept a are. remains_met stops p kept a are

pub returns-clause-only : goal.returns-clause-only
returns-clause-only c = λ stops p kept a are. only_remains_met stops p kept a are

pub returns-clause-reached : goal.returns-clause-reached
returns-clause-reached c = λ stops p kept a are number m. remains_reached stops p kept a are number m
