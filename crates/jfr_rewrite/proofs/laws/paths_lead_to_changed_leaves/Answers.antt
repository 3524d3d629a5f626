use Rattle.jfr_rewrite.proofs.laws.paths_lead_to_changed_leaves.Goals as goal
use Rattle.jfr_rewrite.proofs.InForce.{same_keys_meet}
use Rattle.jfr_rewrite.proofs.MeaningLaws.{means_changed}
use Rattle.jfr_rewrite.proofs.UsedLaws.{all_reached, used_is_met}

pub returns-clause-paths : goal.returns-clause-paths
returns-clause-paths c = λ ch key stops p q kept others a b are are_too keeps targets met events. means_changed ch key stops p q kept others a b are are_too keeps targets met events

pub returns-clause-same_keys : goal.returns-clause-same_keys
returns-clause-same_keys c = λ w stops p q kept marks same entries met. same_keys_meet w p q same stops kept marks entries met

pub returns-clause-used : goal.returns-clause-used
returns-clause-used c = λ ch key stops p q kept others a b are are_too keeps targets met events u. used_is_met ch key stops p q kept others a b are are_too keeps targets met events u

pub returns-clause-reached : goal.returns-clause-reached
returns-clause-reached c = λ w stops p q kept others marks same used entries met n h. all_reached w stops p q kept others marks same used entries met n h
