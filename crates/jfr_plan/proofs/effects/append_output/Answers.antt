use Rattle.std.proofs.Common.{refl, [], ◌∷◌}
use Rattle.jfr_plan.specs.Effects.{Append}
use Rattle.jfr_plan.specs.Rules.{Goes}
use Rattle.jfr_plan.proofs.Failing.{append_leaves, write_counted}
use Rattle.jfr_plan.proofs.effects.append_output.Goals as goal

pub returns-clause-contents : goal.returns-clause-contents
returns-clause-contents g c = λ sink.
    append_leaves (g.P.Place.state c.args.place.now).steady (Goes (Append c.args.bytes.now ∷ [])) c.args.bytes.now sink.written (g.P.Place.state c.args.place.now).contents
    (g.P.Place.state c.append.new.self).contents c.append.result c.map_err.result refl c.map_err.ensures.cases c.append.ensures.contents c.append.ensures.open c.append.ensures.steady

pub returns-clause-counts : goal.returns-clause-counts
returns-clause-counts g c = write_counted c.append.result c.map_err.result (g.P.Place.state c.args.place.now)
    (g.P.Place.state c.append.new.self) c.map_err.ensures.cases c.append.ensures.reads c.append.ensures.writes c.append.ensures.same
