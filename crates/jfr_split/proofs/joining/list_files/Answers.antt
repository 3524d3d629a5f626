use Rattle.std.proofs.Common.{None, refl}
use Rattle.std.proofs.lemmas.Result.{err_from_is_err_and}
use Rattle.jfr_plan.specs.Effects.{without_sink}
use Rattle.jfr_plan.specs.Rules.{File}
use Rattle.jfr_plan.proofs.Failing.{read_tallied}
use Rattle.jfr_split.proofs.Halting.{gave_up, not_listed}
use Rattle.jfr_split.proofs.joining.list_files.Goals as goal

pub returns-in_err-names-clause-ended : goal.returns-in_err-names-clause-ended
returns-in_err-names-clause-ended g c =
    let p = err_from_is_err_and c.from_residual.result c.from_residual.ensures.1 in
    let r = gave_up c.list.result c.map_err.result c.in_err-names.field-0.0 c.map_err.ensures.cases c.in_err-names.was in
    rw (p.1, p.2) (λ plan. not_listed _ (g.P.Place.state c.args.place.now).steady plan r.0 c.in_err-names.field-0.0 None (g.P.Place.state c.args.place.now).contents
    (g.P.Place.state c.list.new.self).contents r.2
    (rw r.1 at c.list.ensures.contents)
    (rw r.1 at c.list.ensures.steady))

pub returns-in_err-names-clause-counts : goal.returns-in_err-names-clause-counts
returns-in_err-names-clause-counts g c =
    let p = err_from_is_err_and c.from_residual.result c.from_residual.ensures.1 in
    let r = gave_up c.list.result c.map_err.result c.in_err-names.field-0.0 c.map_err.ensures.cases c.in_err-names.was in
    rw (p.1, p.2) (read_tallied File r.0 c.in_err-names.field-0.0 (without_sink (g.P.Place.state c.args.place.now)) (without_sink (g.P.Place.state c.list.new.self)) r.2
    (rw r.1 at c.list.ensures.reads) c.list.ensures.writes refl c.list.ensures.same)
