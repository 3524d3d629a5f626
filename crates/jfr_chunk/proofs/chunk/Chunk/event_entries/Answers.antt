use Rattle.std.proofs.Common.{rules, ◌≡◌, ap, sym, ◌∙◌, ◌≤◌, map, subst, length}
use Rattle.std.specs.Prelude.{Some, slice_get, slice_range}
use Rattle.std.proofs.lemmas.Option.{slice_get_within}
use Rattle.jfr_chunk.specs.Parts.{Parts, events_of}
use Rattle.jfr_chunk.specs.Indexed.{AreRefs, indexed_refs, indexed_event}
use Rattle.jfr_chunk.proofs.RefLaws.{refs_range, range_got}
use Rattle.jfr_chunk.proofs.SeenLaws.{event_due}
use Rattle.jfr_chunk.proofs.chunk.Chunk.event_entries.Goals as goal

pub refs_before-start-requires : goal.refs_before-start-requires
refs_before-start-requires c =
    let g : slice_get c.self.inside.events.fields.items c.args.number ≡ Some c.in_ok-fields.fields = search rules in
    slice_get_within c.self.inside.events.fields.items c.args.number c.in_ok-fields.fields g

pub returns : goal.returns
returns c =
    let e : map (indexed_event c.args.self.now.records c.self.inside.events.early) c.self.inside.events.fields.items ≡ map Some (events_of c.args.self.now) = search rules in
    let g : slice_get c.self.inside.events.fields.items c.args.number ≡ Some c.in_ok-fields.fields = search rules in
    let a = subst (λ (p : Parts). AreRefs (indexed_refs p.entries p.classes p.bytes p.records c.self.inside.events.early) 0 c.self.inside.events.fields.items c.self.inside.events.numbers.items)
    c.self.view_is c.self.invariant.refs_end in
    let r = refs_range (indexed_refs c.args.self.now.entries c.args.self.now.classes c.args.self.now.bytes c.args.self.now.records c.self.inside.events.early) c.self.inside.events.fields.items
    c.self.inside.events.numbers.items c.args.number c.in_ok-fields.fields c.refs_before-start.result a g
    c.refs_before-start.ensures.first c.refs_before-start.ensures.later in
    let d = event_due c.args.self.now c.self.inside.events.early c.self.inside.events.fields.items c.args.number c.in_ok-fields.fields e g in
    let n = c.deref.ensures.value in
    let w : c.in_ok-fields.fields.refs_end ≤ length c.deref.result.now = subst (λ z. c.in_ok-fields.fields.refs_end ≤ length z) (sym n) r.within in
    range_got c.get.result c.deref.result.now c.refs_before-start.result c.in_ok-fields.fields.refs_end c.get.ensures.lookup.0 r.order w
    ∙ (ap (λ z. Some (slice_range z c.refs_before-start.result c.in_ok-fields.fields.refs_end)) n ∙ (ap (λ z. Some z) r.range ∙ d))
