use Rattle.std.proofs.Common.{◌++◌, ◌≤◌, ◌∙◌, ap, arith, length, map, subst, sym}
use Rattle.jfr_chunk.specs.Indexed.{event_at}
use Rattle.jfr_chunk.proofs.CountLaws.{whole_small}
use Rattle.jfr_rewrite.proofs.EventWriting.{event_facts}
use Rattle.jfr_renumber.specs.Numbers.{ChunkKeys, number_or_zero}
use Rattle.jfr_renumber.specs.Renumber.{pair_of}
use Rattle.jfr_renumber.proofs.PlaceLaws.{noted_put}
use Rattle.jfr_renumber.proofs.entry_keys.EntryKeysRewriter.put_event.Goals as goal

pub end-requires : goal.end-requires
end-requires c =
    let facts = event_facts c.args.chunk.now c.bytes.ensures.parts c.args.event.number (event_at c.args.event) (sym c.requires.listed) in
    let within = facts.is_record.within in
    let small = whole_small c.args.chunk.now.bytes c.bytes.ensures.whole in
    omega (arith, within, small)

pub put_with_keys-requires-clause-integers : goal.put_with_keys-requires-clause-integers
put_with_keys-requires-clause-integers c =
    let by_entry = c.as_slice.ensures.value ∙ (c.self.invariant ∙ ap (λ (z : ChunkKeys). map (λ e. number_or_zero z.keys (pair_of e)) z.entries) c.self.view_is) in
    (noted_put c.args.chunk.now c.args.self.now c.as_slice.result.now c.bytes.result.now c.args.event.number c.end.result (event_at c.args.event) c.in-Some.places.now c.bytes.ensures.parts
    c.requires.suits by_entry c.zero_is_kept.ensures c.requires.listed c.in-Some.ensures c.bytes.ensures.exact c.end.ensures).0

pub put_with_keys-requires-clause-within : goal.put_with_keys-requires-clause-within
put_with_keys-requires-clause-within c =
    let facts = event_facts c.args.chunk.now c.bytes.ensures.parts c.args.event.number (event_at c.args.event) (sym c.requires.listed) in
    let within = facts.is_record.within in
    let last = c.end.ensures in
    subst (λ z. c.end.result ≤ length z) (sym c.bytes.ensures.exact) (omega (arith, within, last))

pub returns-clause-put : goal.returns-clause-put
returns-clause-put c = λ done.
    let by_entry = c.as_slice.ensures.value ∙ (c.self.invariant ∙ ap (λ (z : ChunkKeys). map (λ e. number_or_zero z.keys (pair_of e)) z.entries) c.self.view_is) in
    c.in_ok-put_with_keys.ensures.ok
    ∙ ap (λ z. c.args.out.now.items ++ z)
    (noted_put c.args.chunk.now c.args.self.now c.as_slice.result.now c.bytes.result.now c.args.event.number c.end.result (event_at c.args.event) c.in-Some.places.now c.bytes.ensures.parts
    c.requires.suits by_entry c.zero_is_kept.ensures c.requires.listed c.in-Some.ensures c.bytes.ensures.exact c.end.ensures).1
