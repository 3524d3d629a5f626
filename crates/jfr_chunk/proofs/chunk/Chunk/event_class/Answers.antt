use Rattle.std.proofs.Common.{rules, ◌≡◌, map}
use Rattle.std.specs.Prelude.{Some, option_map, slice_get}
use Rattle.jfr_frame.specs.declared.framed.Framed.{Framed}
use Rattle.jfr_chunk.specs.Parts.{EventAt, events_of}
use Rattle.jfr_chunk.specs.Indexed.{indexed_event}
use Rattle.jfr_chunk.proofs.SeenLaws.{event_framed}
use Rattle.jfr_chunk.proofs.chunk.Chunk.event_class.Goals as goal

pub returns : goal.returns
returns c =
    let e : map (indexed_event c.args.self.now.records c.self.inside.events.early) c.self.inside.events.fields.items ≡ map Some (events_of c.args.self.now) = search rules in
    let g : slice_get c.self.inside.events.fields.items c.args.number ≡ Some c.in_ok-fields.fields = search rules in
    let h : option_map (λ (r : Framed). r.type_id) (slice_get c.args.self.now.records c.in_ok-fields.fields.record) ≡ option_map (λ (e : EventAt). e.record_of.type_id)
    (slice_get (events_of c.args.self.now) c.args.number) =
    event_framed (λ (r : Framed). r.type_id) c.args.self.now c.self.inside.events.early c.self.inside.events.fields.items c.args.number c.in_ok-fields.fields e g in
    search rules

pub returns-in_err-frame : goal.returns-in_err-frame
returns-in_err-frame c =
    let e : map (indexed_event c.args.self.now.records c.self.inside.events.early) c.self.inside.events.fields.items ≡ map Some (events_of c.args.self.now) = search rules in
    let g : slice_get c.self.inside.events.fields.items c.args.number ≡ Some c.in_ok-fields.fields = search rules in
    let h : option_map (λ (r : Framed). r.type_id) (slice_get c.args.self.now.records c.in_ok-fields.fields.record) ≡ option_map (λ (e : EventAt). e.record_of.type_id)
    (slice_get (events_of c.args.self.now) c.args.number) =
    event_framed (λ (r : Framed). r.type_id) c.args.self.now c.self.inside.events.early c.self.inside.events.fields.items c.args.number c.in_ok-fields.fields e g in
    search rules
