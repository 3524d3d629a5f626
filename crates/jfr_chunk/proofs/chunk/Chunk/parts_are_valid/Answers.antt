use Rattle.std.proofs.Common.{subst}
use Rattle.jfr_chunk.specs.Parts.{AreParts}
use Rattle.jfr_chunk.proofs.HasNodesLaws.{has_nodes}
use Rattle.jfr_chunk.proofs.chunk.Chunk.parts_are_valid.Goals as goal

pub returns-clause-sound : goal.returns-clause-sound
returns-clause-sound c = (has_nodes c.args.self.now (subst AreParts c.self.view_is c.self.invariant.parts)).sound
