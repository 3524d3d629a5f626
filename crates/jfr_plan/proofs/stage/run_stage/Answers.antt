use Rattle.std.proofs.Common.{◌∙◌, refl, subst, Bool, Err}
use Rattle.jfr_outside.specs.World.{IfKnown}
use Rattle.jfr_plan.specs.Ends.{command_end}
use Rattle.jfr_plan.specs.Effects.{outside}
use Rattle.jfr_plan.specs.Rules.{Goes}
use Rattle.jfr_plan.specs.Parts.{PartWorld}
use Rattle.jfr_plan.specs.Outcomes.{OutcomeOf}
use Rattle.jfr_plan.proofs.Failing.{open_failed, read_tallied, open_ended}
use Rattle.jfr_plan.proofs.Staging.{opened_err, opened_ok}
use Rattle.jfr_plan.proofs.stage.run_stage.Goals as goal

pub returns-in-Err-clause-contents : goal.returns-in-Err-clause-contents
returns-in-Err-clause-contents g c = λ earlier s m.
    open_failed (g.P.Place.state c.args.place.now).steady (g.S.Stage.rule c.args.stage.now) earlier c.args.input.now c.in-Err.fault c.of_read.result (g.O.Sink.state c.args.out.now).written
    (g.P.Place.state c.args.place.now).contents (g.P.Place.state c.open_input.new.self).contents c.of_read.ensures
    (rw c.in-Err.is at c.open_input.ensures.contents)
    (rw c.in-Err.is at c.open_input.ensures.steady)

pub returns-in-Err-clause-later : goal.returns-in-Err-clause-later
returns-in-Err-clause-later g c = λ earlier s m e. absurd (open_ended c.in-Err.fault c.of_read.result c.of_read.ensures e)

pub returns-in-Err-clause-counts : goal.returns-in-Err-clause-counts
returns-in-Err-clause-counts g c =
    read_tallied (g.S.Stage.rule c.args.stage.now).target c.in-Err.fault c.of_read.result (outside (g.P.Place.state c.args.place.now) (g.O.Sink.state c.args.out.now))
    (outside (g.P.Place.state c.open_input.new.self) (g.O.Sink.state c.args.out.now)) c.of_read.ensures
    (rw c.in-Err.is at c.open_input.ensures.reads) c.open_input.ensures.writes refl c.open_input.ensures.same

pub returns-in-Err-opened-clause-contents : goal.returns-in-Err-opened-clause-contents
returns-in-Err-opened-clause-contents g c = λ earlier s m.
    let r = g.S.Stage.rule c.args.stage.now in
    let o = (g.O.Sink.state c.args.out.now).written in
    let q = (g.O.Sink.state c.opened.new.out).written in
    let a = (g.P.Place.state c.open_input.new.self).contents in
    let d = (g.P.Place.state c.opened.new.place).contents in
    opened_err (g.P.Place.state c.args.place.now).steady r earlier c.args.input.now c.in-Err-opened.ending o q
    (g.P.Place.state c.args.place.now).contents a d c.in-Ok.ensures.contents c.in-Ok.ensures.there
    (subst (λ (k : Bool). IfKnown a d (PartWorld k (Goes r.opens) (Err c.in-Err-opened.ending) o q)) c.in-Ok.ensures.same c.in-Err-opened.ensures.contents)

pub returns-clause-contents : goal.returns-clause-contents
returns-clause-contents g c = λ earlier s m.
    let r = g.S.Stage.rule c.args.stage.now in
    let Seen = g.S.Stage.seen c.args.stage.now in
    let o = (g.O.Sink.state c.args.out.now).written in
    let b = (g.P.Place.state c.args.place.now).contents in
    let a = (g.P.Place.state c.open_input.new.self).contents in
    let d = (g.P.Place.state c.opened.new.place).contents in
    let st = (g.P.Place.state c.open_input.new.self).steady in
    let begun = opened_ok st r earlier Seen c.args.input.now c.begin_input.new.self.start c.begin_input.new.self.number c.in-Ok-opened.field-0 o (g.O.Sink.state c.opened.new.out).written b a d s
    (c.begin_input.ensures.start ∙ m.0, c.begin_input.ensures.number ∙ m.1) c.in-Ok.ensures.contents c.in-Ok.ensures.there c.in-Ok-opened.ensures.contents in
    subst (λ (k : Bool). IfKnown b (g.P.Place.state c.run_chunks.new.place).contents
    (OutcomeOf k r earlier c.args.input.now o (g.O.Sink.state c.run_chunks.new.out).written (command_end c.run_chunks.result))) (c.in-Ok-opened.ensures.counts.3 ∙ c.in-Ok.ensures.same)
    (c.run_chunks.ensures.contents earlier c.args.input.now b o begun)

pub returns-clause-later : goal.returns-clause-later
returns-clause-later g c = λ earlier s m e.
    let r = g.S.Stage.rule c.args.stage.now in
    let o = (g.O.Sink.state c.args.out.now).written in
    let b = (g.P.Place.state c.args.place.now).contents in
    let begun = opened_ok (g.P.Place.state c.open_input.new.self).steady r earlier (g.S.Stage.seen c.args.stage.now) c.args.input.now c.begin_input.new.self.start c.begin_input.new.self.number
    c.in-Ok-opened.field-0 o (g.O.Sink.state c.opened.new.out).written b (g.P.Place.state c.open_input.new.self).contents (g.P.Place.state c.opened.new.place).contents s
    (c.begin_input.ensures.start ∙ m.0, c.begin_input.ensures.number ∙ m.1) c.in-Ok.ensures.contents c.in-Ok.ensures.there c.in-Ok-opened.ensures.contents in
    c.run_chunks.ensures.later earlier c.args.input.now b o begun e
