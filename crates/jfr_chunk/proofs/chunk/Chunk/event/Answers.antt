use Rattle.std.proofs.Common.{rules, arith, ◌≡◌, ap, refl, sym, ◌∙◌, map, subst}
use Rattle.std.specs.Prelude.{Some, None, slice_get, option_map}
use Rattle.jfr_value.specs.Nodes.{node_at}
use Rattle.jfr_chunk.specs.Parts.{AreParts, Parts, events_of}
use Rattle.jfr_chunk.specs.Indexed.{indexed_event, event_at, event_with}
use Rattle.jfr_chunk.proofs.CountLaws.{whole_small}
use Rattle.jfr_chunk.proofs.EventReading.{record_of}
use Rattle.jfr_chunk.proofs.SeenLaws.{event_found, event_missed}
use Rattle.jfr_chunk.proofs.HasNodesLaws.{event_value}
use Rattle.jfr_chunk.proofs.chunk.Chunk.event.Goals as goal

pub returns-in_err-frame-clause-exact : goal.returns-in_err-frame-clause-exact
returns-in_err-frame-clause-exact c =
    let e : map (indexed_event c.args.self.now.records c.self.inside.events.early) c.self.inside.events.fields.items ≡ map Some (events_of c.args.self.now) = search rules in
    let g : slice_get c.self.inside.events.fields.items c.args.number ≡ Some c.in_ok-fields.fields = search rules in
    let h : slice_get c.args.self.now.records c.in_ok-fields.fields.record ≡ None = search rules in
    ap (option_map event_at) c.from_residual-in_err-frame.ensures ∙ event_missed c.args.self.now c.self.inside.events.early c.self.inside.events.fields.items c.args.number c.in_ok-fields.fields e g h

pub end_of_fields-requires : goal.end_of_fields-requires
end_of_fields-requires c =
    let i = record_of c.self.inside.bytes.now c.self.inside.frames c.in_ok-fields.fields.record c.in_ok-frame.frame c.self.invariant.parts.records (sym c.get.ensures ∙ c.in_ok-frame.was) in
    let w = whole_small c.self.inside.bytes.now c.self.invariant.whole in
    omega (arith, i.within)

pub returns-clause-exact : goal.returns-clause-exact
returns-clause-exact c =
    let e : map (indexed_event c.args.self.now.records c.self.inside.events.early) c.self.inside.events.fields.items ≡ map Some (events_of c.args.self.now) = search rules in
    let g : slice_get c.self.inside.events.fields.items c.args.number ≡ Some c.in_ok-fields.fields = search rules in
    let h : slice_get c.args.self.now.records c.in_ok-fields.fields.record ≡ Some c.in_ok-frame.frame = search rules in
    rw c.inline.ensures (ap (λ end. Some (event_with end c.in_ok-frame.frame)) c.end_of_fields.ensures
    ∙ event_found c.args.self.now c.self.inside.events.early c.self.inside.events.fields.items c.args.number c.in_ok-fields.fields c.in_ok-frame.frame e g h)

pub returns-clause-value : goal.returns-clause-value
returns-clause-value c =
    event_value c.args.self.now (subst AreParts c.self.view_is c.self.invariant.parts) c.args.number
    (record { record_of = c.in_ok-frame.frame; node = node_at c.inline.result c.in_ok-frame.frame.body c.end_of_fields.result })
    (record { shape = c.inline.result; bytes = c.self.inside.bytes; at = c.in_ok-frame.frame.body; end = c.end_of_fields.result })
    (sym (returns-clause-exact c)) refl (ap (λ (p : Parts). p.bytes) c.self.view_is)
