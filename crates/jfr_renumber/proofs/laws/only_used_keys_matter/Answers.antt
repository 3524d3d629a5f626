use Rattle.jfr_renumber.proofs.AgreeLaws.{output_same}
use Rattle.jfr_renumber.proofs.laws.only_used_keys_matter.Goals as goal

pub returns : goal.returns
returns c = λ slim p flags new parts same. output_same p parts flags new same slim
