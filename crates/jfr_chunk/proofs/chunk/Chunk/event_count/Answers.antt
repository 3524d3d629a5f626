use Rattle.std.proofs.Common.{rules}
use Rattle.jfr_chunk.proofs.SeenLaws.{each_length}
use Rattle.jfr_chunk.proofs.chunk.Chunk.event_count.Goals as goal

pub returns : goal.returns
returns c = search (rules, each_length)
