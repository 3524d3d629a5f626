use Rattle.std.proofs.Common.{sym, subst}
use Rattle.jfr_cli.specs.Answers.{answer_line, answer_status, IsAnswered}
use Rattle.jfr_cli.proofs.status.write_answer.Goals as goal

pub returns-in-Usage : goal.returns-in-Usage
returns-in-Usage g c = subst (λ x. IsAnswered (answer_status x) (answer_line x) c.write_usage.result (g.E.Sink.state c.args.err.now) (g.E.Sink.state c.write_usage.new.err))
    (sym c.in-Usage.is) c.write_usage.ensures

pub returns-in-Ended : goal.returns-in-Ended
returns-in-Ended g c = subst (λ x. IsAnswered (answer_status x) (answer_line x) c.write_ending.result (g.E.Sink.state c.args.err.now) (g.E.Sink.state c.write_ending.new.err))
    (sym c.in-Ended.is) c.write_ending.ensures

pub returns-in-Doubted : goal.returns-in-Doubted
returns-in-Doubted g c = subst (λ x. IsAnswered (answer_status x) (answer_line x) c.write_doubt.result (g.E.Sink.state c.args.err.now) (g.E.Sink.state c.write_doubt.new.err))
    (sym c.in-Doubted.is) c.write_doubt.ensures

pub returns-in-Unbuilt : goal.returns-in-Unbuilt
returns-in-Unbuilt g c = subst (λ x. IsAnswered (answer_status x) (answer_line x) c.write_unbuilt.result (g.E.Sink.state c.args.err.now) (g.E.Sink.state c.write_unbuilt.new.err))
    (sym c.in-Unbuilt.is) c.write_unbuilt.ensures
