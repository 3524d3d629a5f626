use Rattle.jfr_value.proofs.AnswerLaws.{end_ok, end_reason, end_refused}
use Rattle.jfr_value.proofs.LayoutLaws.{layout_known}
use Rattle.jfr_value.proofs.extent.end_by_layout.Goals as goal

pub returns-clause-ok : goal.returns-clause-ok
returns-clause-ok c = end_ok c.args.classes.now c.args.bytes.now c.args.layout.now.shape c.args.at c.args.end c.requires.order c.requires.within c.value_end.result c.value_end.ensures.exact

pub returns-clause-refused : goal.returns-clause-refused
returns-clause-refused c = end_refused c.args.classes.now c.args.bytes.now c.args.layout.now.shape c.args.at c.args.end c.requires.order c.requires.within c.value_end.result c.value_end.ensures.exact

pub returns-clause-reason : goal.returns-clause-reason
returns-clause-reason c =
    end_reason c.args.classes.now c.args.bytes.now c.args.layout.now.shape c.args.at c.args.end c.requires.order c.requires.within c.value_end.result c.value_end.ensures.exact c.requires.sound
    (layout_known c.args.classes.now c.args.layout.now c.requires.layout)
