use Rattle.jfr_plan.specs.Effects.{outside}
use Rattle.jfr_plan.proofs.Leaving.{tallied}
use Rattle.jfr_mask.proofs.recording.RecordingMaskerStage.opened.Goals as goal

pub returns-clause-counts : goal.returns-clause-counts
returns-clause-counts g c =
    let sink = g.O.Sink.state c.args._out.now in
    (tallied c.create_output.result (outside (g.P.Place.state c.args.place.now) sink) (outside (g.P.Place.state c.create_output.new.place) sink) (c.create_output.ensures.counts sink)).2
