use Rattle.std.proofs.Common.{◌∙◌, ap, refl, sym, subst, IsTrue, Err}
use Rattle.jfr_header.proofs.Steps.{chain_known, map_known}
use Rattle.jfr_verify.proofs.ComparingLaws.{start, open_left, on_next, on_stopped, on_end, on_refused, never_fails, counts_same}
use Rattle.jfr_verify.proofs.OutputLaws.{same_on}
use Rattle.jfr_verify.proofs.RecordingLaws.{next_left}
use Rattle.jfr_verify.proofs.stream.compare_input.Goals as goal

pub chunks-init : goal.chunks-init
chunks-init g c = record {
  going = λ qs h. map_known (g.P.Place.state c.args.place.now).contents (g.P.Place.state c.open.new.place).contents _ _ c.in-Ok.ensures.contents
      (λ w v o. start c.args.name.now c.args.comparer.now.filter.now qs c.args.comparer.now.receipts.now c.args.comparer.now c.in-Ok.cutter w v refl h c.in-Ok.ensures.number o);
  left = map_known (g.P.Place.state c.args.place.now).contents (g.P.Place.state c.open.new.place).contents _ _ c.in-Ok.ensures.contents (λ w v o. open_left c.args.name.now c.in-Ok.cutter w v o);
  whole = c.requires;
  filter = refl;
  live = c.in-Ok.ensures.live;
  counts = c.in-Ok.ensures.counts;
}

pub returns-in-End-clause-contents : goal.returns-in-End-clause-contents
returns-in-End-clause-contents g c = λ qs h.
    chain_known (g.P.Place.state c.args.place.now).contents (g.P.Place.state c.chunks.place).contents (g.P.Place.state c.next.new.place).contents _ _ _
    (c.chunks.invariant.going qs h) c.in-End.ensures.contents
    (λ w v u k n. on_end c.args.name.now qs c.args.comparer.now.receipts.now c.chunks.comparer c.chunks.cutter c.next.new.self w v u c.args.comparer.now.filter.now c.chunks.invariant.filter
    c.end.result c.number.result c.number.ensures c.in-End.ensures.cut.1.number n c.end.ensures.ends k)

pub returns-in-End-clause-counts : goal.returns-in-End-clause-counts
returns-in-End-clause-counts g c =
    counts_same c.end.result (g.P.Place.state c.args.place.now) (g.P.Place.state c.next.new.place) c.end.ensures.no_read_fault
    (same_on (g.P.Place.state c.args.place.now) (g.P.Place.state c.chunks.place) (g.P.Place.state c.next.new.place) c.chunks.invariant.counts
    (record { reads = c.in-End.ensures.counts; writes = c.in-End.ensures.writes; same = c.in-End.ensures.steady }))

pub returns-in-End-clause-steady : goal.returns-in-End-clause-steady
returns-in-End-clause-steady g c = λ s e. absurd (c.end.ensures.no_read_fault e)

pub returns-in-Refused-clause-contents : goal.returns-in-Refused-clause-contents
returns-in-Refused-clause-contents g c = λ qs h.
    chain_known (g.P.Place.state c.args.place.now).contents (g.P.Place.state c.chunks.place).contents (g.P.Place.state c.next.new.place).contents _ _ _
    (c.chunks.invariant.going qs h) c.in-Refused.ensures.contents
    (λ w v u k n. on_refused c.args.name.now qs c.args.comparer.now.receipts.now c.chunks.comparer c.chunks.cutter c.next.new.self w v u c.args.comparer.now.filter.now c.chunks.invariant.filter
    c.in-Refused.refusal c.in-Refused.ensures.cut.0 n k)

pub returns-in-Failed-clause-steady : goal.returns-in-Failed-clause-steady
returns-in-Failed-clause-steady g c = λ s e.
    never_fails (g.P.Place.state c.args.place.now).contents (g.P.Place.state c.chunks.place).contents c.chunks.cutter _ c.chunks.invariant.left
    (c.in-Failed.ensures.fails (subst IsTrue (sym c.chunks.invariant.counts.same) s) refl)

pub chunks-preserved : goal.chunks-preserved
chunks-preserved g c = record {
  going = λ qs h.
      chain_known (g.P.Place.state c.args.place.now).contents (g.P.Place.state c.chunks.place).contents (g.P.Place.state c.next.new.place).contents _ _ _
      (c.chunks.invariant.going qs h) c.in-Chunk.ensures.contents
      (λ w v u k n. on_next c.args.name.now qs c.args.comparer.now.receipts.now c.chunks.comparer c.chunks.cutter c.next.new.self w v u c.args.comparer.now.filter.now c.chunks.invariant.filter
      c.compare.new.self c.in-Ok-compare.field-0 c.bytes.result.now c.number-in-chunks.result c.bytes.ensures c.number-in-chunks.ensures c.in-Chunk.ensures.cut n c.in-Ok-compare.ensures.steps k);
  left = chain_known (g.P.Place.state c.args.place.now).contents (g.P.Place.state c.chunks.place).contents
      (g.P.Place.state c.next.new.place).contents _ _ _ c.chunks.invariant.left c.in-Chunk.ensures.contents
      (λ w v u k n. next_left c.chunks.cutter c.next.new.self (λ z. Unit {0}) w v u k c.in-Chunk.ensures.cut n);
  whole = c.in-Ok-compare.ensures.whole;
  filter = c.in-Ok-compare.ensures.filter ∙ c.chunks.invariant.filter;
  live = c.in-Chunk.ensures.cut.live;
  counts = same_on (g.P.Place.state c.args.place.now) (g.P.Place.state c.chunks.place) (g.P.Place.state c.next.new.place) c.chunks.invariant.counts
      (record { reads = c.in-Chunk.ensures.counts; writes = c.in-Chunk.ensures.writes; same = c.in-Chunk.ensures.steady });
}

pub returns-in-Err-compare-clause-contents : goal.returns-in-Err-compare-clause-contents
returns-in-Err-compare-clause-contents g c = λ qs h.
    chain_known (g.P.Place.state c.args.place.now).contents (g.P.Place.state c.chunks.place).contents (g.P.Place.state c.next.new.place).contents _ _ _
    (c.chunks.invariant.going qs h) c.in-Chunk.ensures.contents
    (λ w v u k n. on_stopped c.args.name.now qs c.args.comparer.now.receipts.now c.chunks.comparer c.chunks.cutter c.next.new.self w v u c.args.comparer.now.filter.now c.chunks.invariant.filter
    c.compare.new.self c.in-Err-compare.verdict c.bytes.result.now c.number-in-chunks.result c.bytes.ensures c.number-in-chunks.ensures c.in-Chunk.ensures.cut n c.in-Err-compare.ensures.steps k)

pub returns-in-Err-compare-clause-counts : goal.returns-in-Err-compare-clause-counts
returns-in-Err-compare-clause-counts g c =
    counts_same c.in-Err-compare.verdict (g.P.Place.state c.args.place.now) (g.P.Place.state c.next.new.place) (λ e. c.in-Err-compare.ensures.no_read_fault (ap Err e))
    (same_on (g.P.Place.state c.args.place.now) (g.P.Place.state c.chunks.place) (g.P.Place.state c.next.new.place) c.chunks.invariant.counts
    (record { reads = c.in-Chunk.ensures.counts; writes = c.in-Chunk.ensures.writes; same = c.in-Chunk.ensures.steady }))

pub returns-in-Err-compare-clause-steady : goal.returns-in-Err-compare-clause-steady
returns-in-Err-compare-clause-steady g c = λ s e. absurd (c.in-Err-compare.ensures.no_read_fault (ap Err e))
