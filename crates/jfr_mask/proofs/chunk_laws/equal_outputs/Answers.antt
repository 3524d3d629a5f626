use Rattle.std.specs.Prelude.{[]}
use Rattle.jfr_mask.proofs.EqualOutputs.{all_equal}
use Rattle.jfr_mask.proofs.chunk_laws.equal_outputs.Goals as goal

pub returns : goal.returns
returns c = λ m g ex cs es a. all_equal m g ex [] cs es a
