use Rattle.std.proofs.Common.{◌≡◌, ◌++◌, subst}
use Rattle.std.specs.Prelude.{IfSome}
use Rattle.jfr_chunk.specs.Indexed.{event_at}
use Rattle.jfr_rewrite.specs.Rewrite.{event_bytes, event_tail}
use Rattle.jfr_rewrite.specs.Rewritten.{CarriesTail}
use Rattle.jfr_rewrite.specs.Writing.{Wrote}
use Rattle.jfr_rewrite.proofs.EventWriting.{event_facts}
use Rattle.jfr_rewrite.proofs.records.put_chunk_event.Goals as goal

pub put_event-requires-clause-record : goal.put_event-requires-clause-record
put_event-requires-clause-record g c = (event_facts c.args.chunk.now c.parts_are_valid.ensures.parts c.args.number (event_at c.in-Some.event) c.in-Some.ensures.exact).is_record

pub put_event-requires-clause-array : goal.put_event-requires-clause-array
put_event-requires-clause-array g c = (event_facts c.args.chunk.now c.parts_are_valid.ensures.parts c.args.number (event_at c.in-Some.event) c.in-Some.ensures.exact).array

pub put_event-requires-clause-constant : goal.put_event-requires-clause-constant
put_event-requires-clause-constant g c = (event_facts c.args.chunk.now c.parts_are_valid.ensures.parts c.args.number (event_at c.in-Some.event) c.in-Some.ensures.exact).constant

pub put_event-requires-clause-start : goal.put_event-requires-clause-start
put_event-requires-clause-start g c = (event_facts c.args.chunk.now c.parts_are_valid.ensures.parts c.args.number (event_at c.in-Some.event) c.in-Some.ensures.exact).place

pub put_event-requires-clause-within : goal.put_event-requires-clause-within
put_event-requires-clause-within g c = (event_facts c.args.chunk.now c.parts_are_valid.ensures.parts c.args.number (event_at c.in-Some.event) c.in-Some.ensures.exact).within

pub returns-in-Some : goal.returns-in-Some
returns-in-Some g c =
    let w = g.R.Rewriter.rewrite c.args.rewriting.now in
    let p = c.args.chunk.now in
    subst (λ o. IfSome o (λ e. Wrote c.put_event.result (λ done. c.put_event.new.out.items ≡ c.args.out.now.items ++ event_bytes w p e) (CarriesTail w e.record_of (event_tail w p e))))
    c.in-Some.ensures.exact c.put_event.ensures
