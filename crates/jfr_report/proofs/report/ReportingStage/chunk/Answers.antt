use Rattle.std.proofs.Common.{◌+◌, ap, length}
use Rattle.jfr_plan.specs.Effects.{outside}
use Rattle.jfr_plan.specs.Rules.{Text}
use Rattle.jfr_plan.proofs.Failing.{chunk_refused, chunk_tallied}
use Rattle.jfr_chunk.specs.Refusal.{read_parts}
use Rattle.jfr_report.proofs.PlanLaws.{chunk_told}
use Rattle.jfr_report.proofs.PartsLaws.{seen_more}
use Rattle.jfr_report.specs.Reports.{all_parts, asks_texts, texting}
use Rattle.jfr_report.proofs.report.ReportingStage.chunk.Goals as goal

pub returns-in-Err-clause-contents : goal.returns-in-Err-clause-contents
returns-in-Err-clause-contents g c = λ before s number.
    let texts = g.R.Report.texts c.args.self.now.report (length before + 1) in
    chunk_refused (g.P.Place.state c.args._place.now).steady (asks_texts (length before + 1) texts (read_parts c.args.chunk.now)) (length before + 1) c.args.number c.in-Err.fault c.of_chunk.result
    (g.O.Sink.state c.args.out.now).written (g.P.Place.state c.args._place.now).contents c.of_chunk.ensures number
    (λ f e. ap (asks_texts (length before + 1) texts) (rw e at c.in-Err.ensures.exact))

pub returns-in-Err-clause-counts : goal.returns-in-Err-clause-counts
returns-in-Err-clause-counts g c = chunk_tallied Text c.args.number c.in-Err.fault c.of_chunk.result (outside (g.P.Place.state c.args._place.now) (g.O.Sink.state c.args.out.now)) c.of_chunk.ensures

pub returns-clause-seen : goal.returns-clause-seen
returns-clause-seen g c = λ before s number.
    seen_more (g.R.Report.seen c.chunk-written.new.self) c.chunk-written.result before c.args.chunk.now c.in-Ok.chunk c.in-Ok.ensures.exact (c.chunk-written.ensures.seen (all_parts before) s)

pub returns-clause-contents : goal.returns-clause-contents
returns-clause-contents g c = λ before s number.
    chunk_told (g.P.Place.state c.args._place.now).steady c.args.number (length before + 1) (g.R.Report.texts c.args.self.now.report) c.args.chunk.now c.in-Ok.chunk c.chunk-written.result
    (g.P.Place.state c.args._place.now).contents (g.O.Sink.state c.args.out.now).written (g.O.Sink.state c.chunk-written.new.out).written
    c.in-Ok.ensures.exact number c.chunk-written.ensures.texts

pub returns-clause-rule : goal.returns-clause-rule
returns-clause-rule g c = let s = c.chunk-written.ensures.same in λ i. texting (s.0 i) (λ before. s.1 i (all_parts before))
