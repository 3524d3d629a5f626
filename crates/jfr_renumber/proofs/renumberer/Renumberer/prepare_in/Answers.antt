use Rattle.jfr_chunk.specs.Chosen.{chosen}
use Rattle.jfr_filter.specs.Filters.{describes}
use Rattle.jfr_renumber.proofs.Renumbered.{is_renumbered}
use Rattle.jfr_renumber.proofs.renumberer.Renumberer.prepare_in.Goals as goal

pub returns-clause-renumbered : goal.returns-clause-renumbered
returns-clause-renumbered c = is_renumbered (describes c.args.filter.now) c.args.chunk.now c.bytes.ensures.parts (chosen c.args.filter.now c.args.chunk.now) c.bytes.ensures.whole
