use Rattle.std.proofs.Common.{rules, ◌≡◌, ap, sym, ◌∙◌, ◌≤◌, map, subst, length}
use Rattle.std.specs.Prelude.{Some, slice_get, slice_range}
use Rattle.std.proofs.lemmas.Option.{slice_get_within}
use Rattle.jfr_chunk.specs.Parts.{Parts, events_of}
use Rattle.jfr_chunk.specs.Indexed.{AreKeysIn, indexed_event, indexed_places}
use Rattle.jfr_chunk.proofs.KeyLaws.{event_places}
use Rattle.jfr_chunk.proofs.RefLaws.{refs_range, range_got}
use Rattle.jfr_chunk.proofs.chunk.Chunk.event_keys.Goals as goal

pub refs_before-from-requires : goal.refs_before-from-requires
refs_before-from-requires c =
    let g : slice_get c.self.inside.events.fields.items c.args.number ≡ Some c.in_ok-fields.fields = search rules in
    slice_get_within c.self.inside.events.fields.items c.args.number c.in_ok-fields.fields g

pub returns : goal.returns
returns c =
    let e : map (indexed_event c.args.self.now.records c.self.inside.events.early) c.self.inside.events.fields.items ≡ map Some (events_of c.args.self.now) = search rules in
    let g : slice_get c.self.inside.events.fields.items c.args.number ≡ Some c.in_ok-fields.fields = search rules in
    let a = subst (λ (p : Parts). AreKeysIn p.entries p.classes p.bytes p.records c.self.inside.events.early c.self.inside.events.fields.items c.self.inside.events.keys) c.self.view_is
    c.self.invariant.keys in
    let r = refs_range (indexed_places c.args.self.now.entries c.args.self.now.classes c.args.self.now.bytes c.args.self.now.records c.self.inside.events.early) c.self.inside.events.fields.items
    c.self.inside.events.keys.places.items c.args.number c.in_ok-fields.fields c.refs_before-from.result (a.places c.in_ok-places.ensures.1) g
    c.refs_before-from.ensures.first c.refs_before-from.ensures.later in
    let n = c.in_ok-places.ensures.0 in
    let w : c.in_ok-fields.fields.refs_end ≤ length c.in_ok-places.places.now = subst (λ z. c.in_ok-fields.fields.refs_end ≤ length z) (sym n) r.within in
    event_places c.args.self.now c.self.inside.events.early c.self.inside.events.fields.items c.args.number c.in_ok-fields.fields c.self.inside.events.keys c.get.result e g a c.in_ok-places.ensures.1
    (range_got c.get.result c.in_ok-places.places.now c.refs_before-from.result c.in_ok-fields.fields.refs_end c.get.ensures.lookup.0 r.order w
    ∙ (ap (λ z. Some (slice_range z c.refs_before-from.result c.in_ok-fields.fields.refs_end)) n ∙ ap (λ z. Some z) r.range))
