use Rattle.jfr_plan.proofs.Failing.{finish_leaves, write_counted}
use Rattle.jfr_plan.proofs.effects.finish_output.Goals as goal

pub returns-clause-contents : goal.returns-clause-contents
returns-clause-contents g c = λ sink.
    finish_leaves (g.P.Place.state c.args.place.now).steady sink.written (g.P.Place.state c.args.place.now).contents
    (g.P.Place.state c.finish_output.new.self).contents c.finish_output.result c.map_err.result c.map_err.ensures.cases c.finish_output.ensures.contents c.finish_output.ensures.open
    c.finish_output.ensures.steady

pub returns-clause-counts : goal.returns-clause-counts
returns-clause-counts g c = write_counted c.finish_output.result c.map_err.result (g.P.Place.state c.args.place.now)
    (g.P.Place.state c.finish_output.new.self) c.map_err.ensures.cases c.finish_output.ensures.reads c.finish_output.ensures.writes c.finish_output.ensures.same
