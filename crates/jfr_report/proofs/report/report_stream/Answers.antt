use Rattle.std.proofs.Common.{[]}
use Rattle.jfr_plan.specs.Effects.{outside}
use Rattle.jfr_plan.proofs.Clauses.{ran_over}
use Rattle.jfr_report.specs.Reports.{texting, all_parts}
use Rattle.jfr_report.proofs.report.report_stream.Goals as goal

pub returns : goal.returns
returns g c =
    let r = texting (g.R.Report.texts c.args.report) (λ before. g.R.Report.last c.args.report (all_parts before)) in
    let a = outside (g.P.Place.state c.args.place.now) (g.O.Sink.state c.args.out.now) in
    let b = outside (g.P.Place.state c.run_stage.new.place) (g.O.Sink.state c.run_stage.new.out) in
    record { ran = ran_over r c.args.file.now c.run_stage.result a b (c.run_stage.ensures.contents [] c.requires.new (c.first-at.ensures.start, c.first-at.ensures.number)) c.run_stage.ensures.counts }
