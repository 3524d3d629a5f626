use Rattle.jfr_header.proofs.Steps.{whole_front}
use Rattle.jfr_header.proofs.laws.whole_chunk_is_found.Goals as goal

pub returns : goal.returns
returns c = whole_front c.args.chunk.now c.args.left.now c.args.start c.args.first c.requires.whole c.requires.early
