use Rattle.std.proofs.Common.{[], arith, ap, refl, sym, subst, ◌≤◌, length}
use Rattle.std.specs.Prelude.{encode_utf8_all}
use Rattle.jfr_chunk.specs.Parts.{events_of}
use Rattle.jfr_chunk.specs.Reach.{kept_by}
use Rattle.jfr_report.specs.Reports.{events_bytes}
use Rattle.jfr_report.specs.Gathered.{IsGathered}
use Rattle.jfr_report.proofs.PageLaws.{begins, last_page}
use Rattle.jfr_report.proofs.KeptLaws.{kept_past}
use Rattle.jfr_report.proofs.print.print_events.Goals as goal

pub loop-number-init : goal.loop-number-init
loop-number-init g c =
    let all = events_bytes c.args.selection.now.style.json c.args.selection.now.style.depth c.args.selection.now.chunk.now (kept_by c.args.selection.now.chunk.now c.args.selection.now.kept.now) in
    let before = (g.O.Sink.state c.args.out.now).written in
    record {
      gathered = subst (λ z. IsGathered all before before z all) (sym (ap encode_utf8_all c.clear.ensures)) (begins all before);
      writer = c.requires.writer;
      faults = refl;
    }

pub returns-clause-texts : goal.returns-clause-texts
returns-clause-texts g c =
    let all = events_bytes c.args.selection.now.style.json c.args.selection.now.style.depth c.args.selection.now.chunk.now (kept_by c.args.selection.now.chunk.now c.args.selection.now.kept.now) in
    let before = (g.O.Sink.state c.args.out.now).written in
    let past : length (events_of c.args.selection.now.chunk.now) ≤ c.loop-number.number = omega (arith, c.event_count-number-end.ensures, c.loop-number-test.false) in
    let i = subst (λ ms. IsGathered all before (g.O.Sink.state c.loop-number.out).written (encode_utf8_all c.loop-number.page)
    (events_bytes c.args.selection.now.style.json c.args.selection.now.style.depth c.args.selection.now.chunk.now ms))
    (kept_past c.args.selection.now.kept.now (events_of c.args.selection.now.chunk.now) c.loop-number.number past) c.loop-number.invariant.gathered in
    last_page all before (g.O.Sink.state c.write_page.new.out).written c.write_page.result (encode_utf8_all c.write_page.new.page)
    (c.write_page.ensures.texts all [] before i) c.write_page.ensures.begun
