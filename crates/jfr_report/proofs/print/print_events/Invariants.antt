use Rattle.std.proofs.Common.{◌≡◌}
use Rattle.std.specs.Prelude.{drop, encode_utf8_all}
use Rattle.jfr_chunk.specs.Parts.{events_of}
use Rattle.jfr_chunk.specs.Reach.{kept_by, marked}
use Rattle.jfr_report.specs.Reports.{events_bytes, writer_of}
use Rattle.jfr_report.specs.Gathered.{IsGathered}
use Rattle.jfr_report.proofs.print.print_events.Given as goal

-- The kept events so far are written or gathered.
abbrev pub invariant-loop-number : goal.invariant-loop-number
invariant-loop-number g l = record {
  gathered : IsGathered (events_bytes l.fn.selection.style.json l.fn.selection.style.depth l.fn.selection.chunk.now (kept_by l.fn.selection.chunk.now l.fn.selection.kept.now)) (g.O.Sink.state l.fn.out).written (g.O.Sink.state l.out).written (encode_utf8_all l.page)
      (events_bytes l.fn.selection.style.json l.fn.selection.style.depth l.fn.selection.chunk.now
      (marked (drop l.number l.fn.selection.kept.now) (drop l.number (events_of l.fn.selection.chunk.now))));
  writer : l.writer ≡ writer_of l.fn.selection.style.json l.fn.selection.chunk.now;
  faults : (g.O.Sink.state l.out).faults ≡ (g.O.Sink.state l.fn.out).faults;
}
