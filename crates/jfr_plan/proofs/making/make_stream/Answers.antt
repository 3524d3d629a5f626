use Rattle.std.proofs.Common.{[]}
use Rattle.jfr_plan.specs.Effects.{without_sink}
use Rattle.jfr_plan.specs.Makes.{making}
use Rattle.jfr_plan.proofs.Clauses as clauses
use Rattle.jfr_plan.proofs.making.make_stream.Goals as goal

pub returns-clause-ran : goal.returns-clause-ran
returns-clause-ran g c =
    let r = making c.args.output.now (g.M.Make.refusal c.args.make) (g.M.Make.becomes c.args.make) in
    let a = without_sink (g.P.Place.state c.args.place.now) in
    let b = without_sink (g.P.Place.state c.run_stage.new.place) in
    clauses.ran_over r c.args.input.now c.run_stage.result a b (c.run_stage.ensures.contents [] tt (c.first-at.ensures.start, c.first-at.ensures.number)) c.run_stage.ensures.counts

pub returns-clause-can_create : goal.returns-clause-can_create
returns-clause-can_create g c =
    let a = without_sink (g.P.Place.state c.args.place.now) in
    let b = without_sink (g.P.Place.state c.run_stage.new.place) in
    clauses.can_create (g.M.Make.refusal c.args.make) (g.M.Make.becomes c.args.make) c.args.input.now c.args.output.now c.run_stage.result a b
    (c.run_stage.ensures.contents [] tt (c.first-at.ensures.start, c.first-at.ensures.number)) c.run_stage.ensures.counts
