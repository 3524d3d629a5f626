use Rattle.jfr_chunk.proofs.NotedLaws.{all_noted}
use Rattle.jfr_chunk.proofs.chunk.Chunk.missing_refs.Goals as goal

pub returns : goal.returns
returns c = all_noted _ c.args.self.now c.self.inside.events.early c.self.inside.events.fields.items c.self.inside.events.missing c.all.result c.self.view_is c.self.invariant.events
    c.self.invariant.missing c.all.ensures
