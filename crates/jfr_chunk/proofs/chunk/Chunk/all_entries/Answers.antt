use Rattle.std.proofs.Common.{rules, ◌≡◌, ◌∙◌, map, subst}
use Rattle.std.specs.Prelude.{Some}
use Rattle.jfr_chunk.specs.Parts.{Parts, events_of}
use Rattle.jfr_chunk.specs.Indexed.{AreRefs, indexed_refs, indexed_event}
use Rattle.jfr_chunk.proofs.SeenLaws.{all_due}
use Rattle.jfr_chunk.proofs.chunk.Chunk.all_entries.Goals as goal

pub returns : goal.returns
returns c =
    let e : map (indexed_event c.args.self.now.records c.self.inside.events.early) c.self.inside.events.fields.items ≡ map Some (events_of c.args.self.now) = search rules in
    let a = subst (λ (p : Parts). AreRefs (indexed_refs p.entries p.classes p.bytes p.records c.self.inside.events.early) 0 c.self.inside.events.fields.items c.self.inside.events.numbers.items)
    c.self.view_is c.self.invariant.refs_end in
    c.as_slice.ensures.value ∙ all_due c.args.self.now c.self.inside.events.early 0 c.self.inside.events.fields.items (events_of c.args.self.now) c.self.inside.events.numbers.items e a
