use Rattle.std.proofs.Common.{◌+◌, drop, sym, subst, ◌∙◌, false}
use Rattle.std.specs.Prelude.{encode_utf8_all}
use Rattle.jfr_chunk.specs.Parts.{events_of}
use Rattle.jfr_chunk.specs.Indexed.{event_at}
use Rattle.jfr_chunk.specs.Reach.{marked}
use Rattle.jfr_report.specs.Reports.{events_bytes}
use Rattle.jfr_report.specs.Gathered.{IsGathered}
use Rattle.jfr_report.proofs.KeptLaws.{kept_skips, kept_takes}
use Rattle.jfr_report.proofs.print.print_if_kept.Goals as goal

pub returns-then-not-is_kept-clause-texts : goal.returns-then-not-is_kept-clause-texts
returns-then-not-is_kept-clause-texts g c = λ all before i.
    subst (λ ms. IsGathered all before (g.O.Sink.state c.args.out.now).written (encode_utf8_all c.args.page.now)
    (events_bytes c.args.selection.now.style.json c.args.selection.now.style.depth c.args.selection.now.chunk.now ms))
    (kept_skips c.args.selection.now.kept.now (events_of c.args.selection.now.chunk.now) c.args.number (sym c.is_kept.ensures ∙ c.if-not-is_kept.true)) i

pub returns-clause-texts : goal.returns-clause-texts
returns-clause-texts g c = λ all before i.
    c.print_event.ensures.texts all (events_bytes c.args.selection.now.style.json c.args.selection.now.style.depth c.args.selection.now.chunk.now
    (marked (drop (c.args.number + 1) c.args.selection.now.kept.now) (drop (c.args.number + 1) (events_of c.args.selection.now.chunk.now)))) before
    (subst (λ ms. IsGathered all before (g.O.Sink.state c.args.out.now).written (encode_utf8_all c.args.page.now)
    (events_bytes c.args.selection.now.style.json c.args.selection.now.style.depth c.args.selection.now.chunk.now ms))
    (kept_takes c.args.selection.now.kept.now (events_of c.args.selection.now.chunk.now) (event_at c.known_event-event.result) c.args.number
    (sym c.is_kept.ensures ∙ c.if-not-is_kept.false) c.known_event-event.ensures.exact) i)
