use Rattle.std.proofs.Common.{rules, ◌≡◌, map}
use Rattle.std.specs.Prelude.{Some, slice_get}
use Rattle.jfr_chunk.specs.Parts.{events_of}
use Rattle.jfr_chunk.specs.Indexed.{indexed_event}
use Rattle.jfr_chunk.proofs.SeenLaws.{event_recorded}
use Rattle.jfr_chunk.proofs.chunk.Chunk.event_record.Goals as goal

pub returns : goal.returns
returns c =
    let e : map (indexed_event c.args.self.now.records c.self.inside.events.early) c.self.inside.events.fields.items ≡ map Some (events_of c.args.self.now) = search rules in
    let g : slice_get c.self.inside.events.fields.items c.args.number ≡ Some c.in_ok-fields.fields = search rules in
    event_recorded c.args.self.now c.self.inside.events.early c.self.inside.events.fields.items c.args.number c.in_ok-fields.fields e g
