use Rattle.std.specs.List.{filter_map}
use Rattle.std.proofs.Common.{◌+◌, ◌≤◌, ℕ, List, arith, length, subst, sym}
use Rattle.jfr_chunk.specs.Reach.{kept_by}
use Rattle.jfr_stacks.specs.Adding.{HasPending, most_events}
use Rattle.jfr_stacks.specs.Held.{counts_in}
use Rattle.jfr_stacks.specs.Texts.{entry_text, stack_of}
use Rattle.jfr_stacks.proofs.CountLaws.{below_more}
use Rattle.jfr_stacks.proofs.EventLaws.{events_few, texts_few}
use Rattle.jfr_stacks.proofs.counting.add_events.Goals as goal

pub count_events-requires-clause-few : goal.count_events-requires-clause-few
count_events-requires-clause-few c = events_few c.args.chunk.now c.bytes.ensures.whole c.bytes.ensures.parts

pub add_entries-requires-clause-pending : goal.add_entries-requires-clause-pending
add_entries-requires-clause-pending c =
    let p = c.args.chunk.now in
    let old = counts_in c.args.counts.now in
    let ts : List (List ℕ) = filter_map (stack_of p) (kept_by p c.in_ok-kept.kept) in
    let now = counts_in c.count_events.new.counts in (
      old,
      ts,
      c.requires.below,
      texts_few (stack_of p) p c.in_ok-kept.kept (events_few p c.bytes.ensures.whole c.bytes.ensures.parts),
      subst (λ ns. HasPending (entry_text p) old ts now 0 ns)
          (sym c.deref.ensures.value) c.in_ok-by_entry.ensures.ok,
    )

pub returns-clause-below : goal.returns-clause-below
returns-clause-below c = λ most b.
    (let p = c.args.chunk.now in
    let old = counts_in c.args.counts.now in
    let ts : List (List ℕ) = filter_map (stack_of p) (kept_by p c.in_ok-kept.kept) in
    let now = counts_in c.count_events.new.counts in
    let l : length ts ≤ most_events = texts_few (stack_of p) p c.in_ok-kept.kept (events_few p c.bytes.ensures.whole c.bytes.ensures.parts) in
    below_more (most + length ts) (most + most_events) (counts_in c.add_entries.new.counts) (omega arith)
    (c.add_entries.ensures.below old ts most (subst (λ ns. HasPending (entry_text p) old ts now 0 ns) (sym c.deref.ensures.value) c.in_ok-by_entry.ensures.ok) b))
