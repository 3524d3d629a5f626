use Rattle.jfr_value.proofs.AnswerLaws.{end_ok, end_reason, end_refused}
use Rattle.jfr_value.proofs.LayoutLaws.{layout_known}
use Rattle.jfr_value.proofs.TakingLaws.{node_taken}
use Rattle.jfr_value.proofs.extent.end_visiting_keys.Goals as goal

pub returns-clause-reason : goal.returns-clause-reason
returns-clause-reason g c =
    end_reason c.args.walk.classes.now c.args.walk.bytes.now c.args.layout.now.shape c.args.at c.args.walk.end c.requires.order c.args.walk.within c.value_end.result c.value_end.ensures.exact
    c.requires.sound (layout_known c.args.walk.classes.now c.args.layout.now c.requires.layout)

pub returns-clause-visited : goal.returns-clause-visited
returns-clause-visited g c =
    node_taken (g.V.VisitKey.takes c.args.walk.with.now) c.args.walk.classes.now c.args.layout.now.shape c.args.walk.bytes.now c.args.walk.end c.args.at c.args.visitor.now c.value_end.new.visitor
    c.requires.sound c.requires.order c.args.walk.within c.value_end.result
    c.value_end.ensures.exact c.value_end.ensures.visited

pub returns-clause-ok : goal.returns-clause-ok
returns-clause-ok g c = end_ok c.args.walk.classes.now c.args.walk.bytes.now c.args.layout.now.shape c.args.at c.args.walk.end c.requires.order c.args.walk.within c.value_end.result
    c.value_end.ensures.exact

pub returns-clause-refused : goal.returns-clause-refused
returns-clause-refused g c = end_refused c.args.walk.classes.now c.args.walk.bytes.now c.args.layout.now.shape c.args.at c.args.walk.end c.requires.order c.args.walk.within c.value_end.result
    c.value_end.ensures.exact
