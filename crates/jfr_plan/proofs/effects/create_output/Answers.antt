use Rattle.jfr_plan.proofs.Failing.{create_leaves, write_counted}
use Rattle.jfr_plan.proofs.effects.create_output.Goals as goal

pub returns-clause-contents : goal.returns-clause-contents
returns-clause-contents g c = λ sink.
    create_leaves (g.P.Place.state c.args.place.now).steady c.args.name.now sink.written (g.P.Place.state c.args.place.now).contents
    (g.P.Place.state c.create_output.new.self).contents c.create_output.result c.map_err.result c.map_err.ensures.cases c.create_output.ensures.contents c.create_output.ensures.was_new
    c.create_output.ensures.steady

pub returns-clause-counts : goal.returns-clause-counts
returns-clause-counts g c = write_counted c.create_output.result c.map_err.result (g.P.Place.state c.args.place.now)
    (g.P.Place.state c.create_output.new.self) c.map_err.ensures.cases c.create_output.ensures.reads c.create_output.ensures.writes c.create_output.ensures.same
