use Rattle.jfr_value.proofs.LeafKeys.{keys_spelled}
use Rattle.jfr_value.proofs.laws.keys_are_spelled.Goals as goal

pub returns : goal.returns
returns c = λ k b n v sound i. keys_spelled k b n v sound i
