use Rattle.std.proofs.Common.{refl, slice_get, subst, sym}
use Rattle.jfr_worklist.specs.Putting.{Puts}
use Rattle.jfr_chunk.specs.Indexed.{event_at}
use Rattle.jfr_chunk.specs.Parts.{events_of}
use Rattle.jfr_mask.specs.declared.references.Reaching.{Reaching}
use Rattle.jfr_mask.specs.Visitors.{Lists}
use Rattle.jfr_mask.proofs.PlainStrings.{event_all, event_no_strings}
use Rattle.jfr_mask.proofs.VisitorLaws.{lists_same}
use Rattle.jfr_mask.proofs.references.put_event.Goals as goal

pub returns-then-has_id-clause-puts : goal.returns-then-has_id-clause-puts
returns-then-has_id-clause-puts c =
    let p = c.args.chunk.now in
    let event = c.in-Some.event in
    subst (λ z. Puts z c.args.reaching.now.list c.put_plain.new.list)
    (event_all p c.args.masked.now c.args.plain.now.flags.items c.classes.result.now event.node.bytes.now c.requires.sound c.requires.plain c.classes.ensures c.in-Some.ensures.of_chunk.bytes
    (event_at event) c.in-Some.ensures.value (c.has_id.ensures c.if-has_id.true) (slice_get (events_of p) c.args.number) c.in-Some.ensures.exact)
    c.put_plain.ensures

pub returns-then-has_id-clause-lists : goal.returns-then-has_id-clause-lists
returns-then-has_id-clause-lists c =
    let p = c.args.chunk.now in
    let event = c.in-Some.event in
    let old = c.args.reaching.now in
    let new : Reaching = record { list = c.put_plain.new.list; events = old.events; failed = old.failed } in
    subst (λ z. Lists z old new)
    (sym (event_no_strings p c.args.masked.now c.args.plain.now.flags.items c.classes.result.now event.node.bytes.now c.requires.sound c.requires.plain c.classes.ensures c.in-Some.ensures.of_chunk.bytes
    (event_at event) c.in-Some.ensures.value (c.has_id.ensures c.if-has_id.true) (slice_get (events_of p) c.args.number) c.in-Some.ensures.exact))
    (lists_same old new refl refl refl)
