use Rattle.jfr_scrub.proofs.PartLaws.{all_parts, two_parts}
use Rattle.jfr_scrub.proofs.laws.parts_are_scrubbed_one_by_one.Goals as goal

pub returns-clause-two : goal.returns-clause-two
returns-clause-two c = λ g x y a h. two_parts g x y a h

pub returns-clause-all : goal.returns-clause-all
returns-clause-all c = λ g parts a h. all_parts g parts a h
