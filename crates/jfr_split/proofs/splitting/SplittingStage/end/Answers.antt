use Rattle.jfr_plan.specs.Effects.{outside}
use Rattle.jfr_plan.proofs.Leaving.{tallied}
use Rattle.jfr_split.proofs.splitting.SplittingStage.end.Goals as goal

pub returns-clause-counts : goal.returns-clause-counts
returns-clause-counts g c =
    let sink = g.O.Sink.state c.args._out.now in
    (tallied c.close_part.result (outside (g.P.Place.state c.args.place.now) sink) (outside (g.P.Place.state c.close_part.new.place) sink) (c.close_part.ensures.counts sink)).1
