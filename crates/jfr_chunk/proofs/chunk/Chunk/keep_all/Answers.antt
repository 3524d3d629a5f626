use Rattle.std.proofs.Common.{rules}
use Rattle.jfr_chunk.proofs.SeenLaws.{each_length}
use Rattle.jfr_chunk.proofs.chunk.Chunk.keep_all.Goals as goal

pub returns-clause-ok : goal.returns-clause-ok
returns-clause-ok c = search (rules, each_length)
