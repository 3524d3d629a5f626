use Rattle.jfr_chunk.proofs.PartsLaws.{one_parts}
use Rattle.jfr_chunk.proofs.laws.one_parts.Goals as goal

pub returns : goal.returns
returns c = λ p q a b e. one_parts p q a b e
