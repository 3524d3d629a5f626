use Rattle.std.proofs.Common.{◌∙◌, sym, subst, []}
use Rattle.jfr_header.specs.declared.ending.Ending.{Ending}
use Rattle.jfr_plan.specs.Ends.{command_end}
use Rattle.jfr_plan.specs.Effects.{without_sink}
use Rattle.jfr_plan.specs.Outcomes.{After}
use Rattle.jfr_plan.proofs.Clauses.{ran_over}
use Rattle.jfr_split.specs.Splits.{splitting}
use Rattle.jfr_split.proofs.Creating.{can_create}
use Rattle.jfr_split.proofs.Fold.{of_none}
use Rattle.jfr_split.proofs.splitting.disassemble.Goals as goal

pub returns-clause-ran : goal.returns-clause-ran
returns-clause-ran g c =
    let a = without_sink (g.P.Place.state c.args.place.now) in
    let b = without_sink (g.P.Place.state c.run_stage.new.place) in
    let contents = c.run_stage.ensures.contents [] (of_none c.args.rule.now ∙ sym c.none.ensures) (c.first-at.ensures.start, c.first-at.ensures.number) in
    ran_over (splitting c.args.rule.now c.args.file.now) c.args.file.now c.run_stage.result a b contents c.run_stage.ensures.counts

pub returns-clause-too_many : goal.returns-clause-too_many
returns-clause-too_many g c = λ e.
    let contents = c.run_stage.ensures.contents [] (of_none c.args.rule.now ∙ sym c.none.ensures) (c.first-at.ensures.start, c.first-at.ensures.number) in
    subst (λ (y : Ending). After (splitting c.args.rule.now c.args.file.now) [] c.args.file.now (command_end y) (without_sink (g.P.Place.state c.args.place.now))
    (without_sink (g.P.Place.state c.run_stage.new.place))) e contents

pub returns-clause-can_create : goal.returns-clause-can_create
returns-clause-can_create g c = λ can.
    let a = without_sink (g.P.Place.state c.args.place.now) in
    let b = without_sink (g.P.Place.state c.run_stage.new.place) in
    let contents = c.run_stage.ensures.contents [] (of_none c.args.rule.now ∙ sym c.none.ensures) (c.first-at.ensures.start, c.first-at.ensures.number) in
    can_create c.args.rule.now c.args.file.now c.run_stage.result a b c.requires contents c.run_stage.ensures.counts can
