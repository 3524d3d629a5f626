use Rattle.jfr_report.proofs.PageLaws.{text_leaves, text_counted}
use Rattle.jfr_report.proofs.pages.write_text.Goals as goal

pub returns-clause-texts : goal.returns-clause-texts
returns-clause-texts g c = text_leaves c.args.text.now (g.O.Sink.state c.args.out.now).written (g.O.Sink.state c.write.new.self).written c.write.result c.map_err.result c.map_err.ensures.cases
    c.write.ensures.contents

pub returns-clause-faults : goal.returns-clause-faults
returns-clause-faults g c = text_counted (g.O.Sink.state c.args.out.now).faults (g.O.Sink.state c.write.new.self).faults c.write.result c.map_err.result c.map_err.ensures.cases c.write.ensures.faults
