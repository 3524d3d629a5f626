use Rattle.jfr_report.specs.Reports.{all_parts}
use Rattle.jfr_report.proofs.PlanLaws.{texts_told, texts_tallied}
use Rattle.jfr_report.proofs.report.ReportingStage.end.Goals as goal

pub returns-clause-contents : goal.returns-clause-contents
returns-clause-contents g c = λ before s.
    texts_told (g.P.Place.state c.args._place.now).steady (g.R.Report.last c.args.self.now.report (all_parts before)) c.end.result (g.P.Place.state c.args._place.now).contents
    (g.O.Sink.state c.args.out.now).written (g.O.Sink.state c.end.new.out).written
    (c.end.ensures.texts (all_parts before) s)

pub returns-clause-counts : goal.returns-clause-counts
returns-clause-counts g c = texts_tallied c.end.result (g.P.Place.state c.args._place.now) (g.O.Sink.state c.args.out.now) (g.O.Sink.state c.end.new.out) c.end.ensures.faults
