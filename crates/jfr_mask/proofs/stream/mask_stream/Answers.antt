use Rattle.jfr_mask.proofs.CanCreate.{can_create}
use Rattle.jfr_mask.proofs.CommandLaws.{headline, writes_table}
use Rattle.jfr_mask.proofs.TaskLaws.{knew, ran_masks, unknown}
use Rattle.jfr_mask.specs.Streams.{work_of}
use Rattle.jfr_plan.specs.Clauses.{Ran}
use Rattle.jfr_plan.specs.Effects.{without_sink}
use Rattle.jfr_plan.specs.Ends.{command_end}
use Rattle.jfr_plan.specs.Rules.{Masked}
use Rattle.jfr_plan.proofs.Leaving.{tallied_after}
use Rattle.jfr_mask.specs.Commands.{mask_task}
use Rattle.jfr_mask.proofs.stream.mask_stream.Given.{Over}
use Rattle.jfr_mask.proofs.stream.mask_stream.Goals as goal

ran_with : (g : Over) (c : goal.After-drop-known-inside g)
    → Ran (mask_task (work_of c.args.rule c.args.files)) c.mask_with.result (without_sink (g.P.Place.state c.args.place.now)) (without_sink (g.P.Place.state c.mask_with.new.place))
ran_with g c =
    let k = work_of c.args.rule c.args.files in
    let a = g.P.Place.state c.args.place.now in
    let b = g.P.Place.state c.read_known.new.place in
    let z = g.P.Place.state c.mask_with.new.place in
    ran_masks k c.mask_with.result a z (knew k _ (command_end c.mask_with.result) a b z c.in-Ok.ensures.counts.3 c.in-Ok.ensures.contents c.mask_with.ensures.contents)
    (tallied_after Masked (command_end c.mask_with.result) (without_sink a) (without_sink b) (without_sink z) c.in-Ok.ensures.counts c.mask_with.ensures.counts)

pub returns-in-Err-clause-each : goal.returns-in-Err-clause-each
returns-in-Err-clause-each g c = c.chunks_are_masked.ensures c.args.rule.filter.now

ran_without : (g : Over) (c : goal.In-Err g)
    → Ran (mask_task (work_of c.args.rule c.args.files)) c.in-Err.ending (without_sink (g.P.Place.state c.args.place.now)) (without_sink (g.P.Place.state c.read_known.new.place))
ran_without g c =
    let k = work_of c.args.rule c.args.files in
    let a = g.P.Place.state c.args.place.now in
    let b = g.P.Place.state c.read_known.new.place in
    ran_masks k c.in-Err.ending a b (unknown k c.in-Err.ending a b c.in-Err.ensures.contents) c.in-Err.ensures.counts

pub returns-in-Err-clause-ran : goal.returns-in-Err-clause-ran
returns-in-Err-clause-ran g c = ran_without g c

pub returns-in-Err-clause-can_create : goal.returns-in-Err-clause-can_create
returns-in-Err-clause-can_create g c = can_create (work_of c.args.rule c.args.files) c.in-Err.ending (g.P.Place.state c.args.place.now) (g.P.Place.state c.read_known.new.place) (ran_without g c)

pub returns-clause-can_create : goal.returns-clause-can_create
returns-clause-can_create g c = can_create (work_of c.args.rule c.args.files) c.mask_with.result (g.P.Place.state c.args.place.now) (g.P.Place.state c.mask_with.new.place) (ran_with g c)

pub returns-clause-headline : goal.returns-clause-headline
returns-clause-headline g c = headline c.outputs_are_masked.ensures.one (work_of c.args.rule c.args.files) (g.P.Place.state c.args.place.now) (g.P.Place.state c.mask_with.new.place) c.mask_with.result
    (ran_with g c).done (ran_with g c).refused

pub returns-clause-table : goal.returns-clause-table
returns-clause-table g c = λ is. writes_table (work_of c.args.rule c.args.files) (g.P.Place.state c.args.place.now) (g.P.Place.state c.mask_with.new.place) ((ran_with g c).done is)

pub returns-clause-each : goal.returns-clause-each
returns-clause-each g c = c.chunks_are_masked.ensures c.args.rule.filter.now

pub returns-clause-ran : goal.returns-clause-ran
returns-clause-ran g c = ran_with g c
