use Rattle.std.proofs.Common.{◌∙◌, ap}
use Rattle.jfr_base.specs.Formats.{run, end_or_flaw}
use Rattle.jfr_value.specs.Reading.{value_format}
use Rattle.jfr_value.proofs.AnswerLaws.{end_ok, end_refused, end_reason}
use Rattle.jfr_value.proofs.extent.end_of.Goals as goal

pub end_by_layout-requires-clause-layout : goal.end_by_layout-requires-clause-layout
end_by_layout-requires-clause-layout c = c.layout_of-layout.ensures.known c.requires.known

pub returns-clause-exact : goal.returns-clause-exact
returns-clause-exact c = c.end_by_layout.ensures.exact ∙ ap (λ s. end_or_flaw (run (value_format c.args.classes.now s) c.args.bytes.now c.args.end c.args.at)) c.layout_of-layout.ensures.shape

pub returns-clause-ok : goal.returns-clause-ok
returns-clause-ok c = end_ok c.args.classes.now c.args.bytes.now c.args.shape c.args.at c.args.end c.requires.order c.requires.within c.end_by_layout.result (returns-clause-exact c)

pub returns-clause-refused : goal.returns-clause-refused
returns-clause-refused c = end_refused c.args.classes.now c.args.bytes.now c.args.shape c.args.at c.args.end c.requires.order c.requires.within c.end_by_layout.result (returns-clause-exact c)

pub returns-clause-reason : goal.returns-clause-reason
returns-clause-reason c =
    end_reason c.args.classes.now c.args.bytes.now c.args.shape c.args.at c.args.end c.requires.order c.requires.within c.end_by_layout.result
    (returns-clause-exact c) c.layout_of-layout.ensures.sound c.requires.known
