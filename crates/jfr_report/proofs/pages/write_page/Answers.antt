use Rattle.std.proofs.Common.{ap, sym, ◌∙◌}
use Rattle.std.specs.Prelude.{encode_utf8_all}
use Rattle.std.proofs.lemmas.Result.{err_from_is_err_and}
use Rattle.jfr_report.proofs.PageLaws.{page_written, page_failed, page_passed, is_empty_list, some_list, text_counted}
use Rattle.jfr_report.proofs.pages.write_page.Goals as goal

pub returns-then-is_empty-clause-begun : goal.returns-then-is_empty-clause-begun
returns-then-is_empty-clause-begun g c = sym c.as_bytes.ensures ∙ is_empty_list c.as_bytes.result.now (sym c.is_empty.ensures ∙ c.if-is_empty.true)

pub returns-in_err-map_err-clause-texts : goal.returns-in_err-map_err-clause-texts
returns-in_err-map_err-clause-texts g c = λ all rest before i.
    let p = err_from_is_err_and c.from_residual.result c.from_residual.ensures.1 in
    rw (p.1, p.2) (page_failed all before (g.O.Sink.state c.args.out.now).written (g.O.Sink.state c.write.new.self).written
    (encode_utf8_all c.args.page.now) c.as_bytes-2.result.now rest c.write.result c.map_err.result c.in_err-map_err.field-0.0
    c.map_err.ensures.cases c.in_err-map_err.was c.as_bytes-2.ensures (λ e. some_list c.as_bytes.result.now (sym c.is_empty.ensures ∙ c.if-is_empty.false) (c.as_bytes.ensures ∙ e))
    c.write.ensures.contents i)

pub returns-in_err-map_err-clause-faults : goal.returns-in_err-map_err-clause-faults
returns-in_err-map_err-clause-faults g c =
    let p = err_from_is_err_and c.from_residual.result c.from_residual.ensures.1 in
    rw (p.1, p.2) (rw c.in_err-map_err.was at
    (text_counted (g.O.Sink.state c.args.out.now).faults (g.O.Sink.state c.write.new.self).faults c.write.result c.map_err.result c.map_err.ensures.cases c.write.ensures.faults))

pub returns-clause-faults : goal.returns-clause-faults
returns-clause-faults g c = rw c.in_ok-map_err.was at
    (text_counted (g.O.Sink.state c.args.out.now).faults (g.O.Sink.state c.write.new.self).faults c.write.result c.map_err.result c.map_err.ensures.cases c.write.ensures.faults)

pub returns-clause-texts : goal.returns-clause-texts
returns-clause-texts g c = λ all rest before i.
    page_written all before (g.O.Sink.state c.args.out.now).written (g.O.Sink.state c.write.new.self).written (encode_utf8_all c.args.page.now) c.as_bytes-2.result.now
    (encode_utf8_all c.clear.new.self) rest c.as_bytes-2.ensures (ap encode_utf8_all c.clear.ensures)
    (page_passed (g.O.Sink.state c.args.out.now).written (g.O.Sink.state c.write.new.self).written c.as_bytes-2.result.now c.write.result c.map_err.result _ c.map_err.ensures.cases c.in_ok-map_err.was
    c.write.ensures.contents) i
