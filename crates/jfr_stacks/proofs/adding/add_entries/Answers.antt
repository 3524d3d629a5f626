use Rattle.std.proofs.Common.{◌+◌, ◌<◌, ◌≤◌, arith, drop, get_or, length, subst, sym}
use Rattle.std.proofs.lemmas.Option.{slice_get-get_or}
use Rattle.jfr_filter.proofs.AnyLaws.{drop_at_get}
use Rattle.jfr_stacks.specs.Adding.{AreBelow, HasPending, most_counted, most_events}
use Rattle.jfr_stacks.specs.Held.{counts_in}
use Rattle.jfr_stacks.specs.Texts.{entry_text}
use Rattle.jfr_stacks.proofs.CountLaws.{below_fits}
use Rattle.jfr_stacks.proofs.PendingLaws.{pending_below, pending_next}
use Rattle.jfr_stacks.proofs.adding.add_entries.Goals as goal

pub add_entry-requires-clause-fits : goal.add_entry-requires-clause-fits
add_entry-requires-clause-fits c =
    let text = entry_text c.args.chunk.now in
    let ns = c.args.by_entry.now in
    let number = c.loop-number.number in
    let now = counts_in c.loop-number.counts in
    let r = c.requires.pending in
    let n = get_or ns number 0 in
    let w : number < length ns = c.loop-number-test.true in
    let l : n ≤ most_events = c.requires.small.each number n (slice_get-get_or ns number 0 w) in
    let m : length r.1 ≤ most_events = r.3 in
    let most = most_counted in
    below_fits (most + length r.1) n now (omega arith) (pending_below text r.0 r.1 now number most (drop number ns) (c.loop-number.invariant.pending r.0 r.1 r.4) r.2)

pub returns-in_err-add_entry-clause-below : goal.returns-in_err-add_entry-clause-below
returns-in_err-add_entry-clause-below c = λ old ts most h b.
    subst (AreBelow (most + length ts)) (sym c.in_err-add_entry.ensures.unchanged)
    (pending_below (entry_text c.args.chunk.now) old ts (counts_in c.loop-number.counts) c.loop-number.number most (drop c.loop-number.number c.args.by_entry.now)
    (c.loop-number.invariant.pending old ts h) b)

pub loop-number-preserved : goal.loop-number-preserved
loop-number-preserved c = record {
  ready = c.in_ok-add_entry.ensures.ready;
  pending = λ old ts h.
      (let text = entry_text c.args.chunk.now in
      let ns = c.args.by_entry.now in
      let number = c.loop-number.number in
      let now = counts_in c.loop-number.counts in
      let n = get_or ns number 0 in
      let w : number < length ns = c.loop-number-test.true in
      pending_next text old ts now number n (drop (number + 1) ns) (counts_in c.add_entry.new.counts) c.in_ok-add_entry.ensures.ok
      (subst (λ z. HasPending text old ts now number z) (drop_at_get ns number n (slice_get-get_or ns number 0 w)) (c.loop-number.invariant.pending old ts h)));
}
