use Rattle.jfr_meta.proofs.Depths.{shallow}
use Rattle.jfr_chunk.specs.Parts.{AreParts}
use Rattle.jfr_chunk.proofs.chunk.Chunk.metadata.Goals as goal

pub returns-clause-shallow : goal.returns-clause-shallow
returns-clause-shallow c =
    let a : AreParts _ = c.self.invariant.parts in
    shallow _ a.metadata_record _ _ a.metadata
