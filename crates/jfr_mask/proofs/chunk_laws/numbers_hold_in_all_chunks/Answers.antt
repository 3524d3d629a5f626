use Rattle.std.specs.Prelude.{[]}
use Rattle.jfr_mask.proofs.DictionaryLaws.{all_numbered, is_dictionary}
use Rattle.jfr_mask.proofs.chunk_laws.numbers_hold_in_all_chunks.Goals as goal

pub returns-clause-distinct : goal.returns-clause-distinct
returns-clause-distinct c = is_dictionary

pub returns-clause-same : goal.returns-clause-same
returns-clause-same c = λ m cs. all_numbered m cs []
