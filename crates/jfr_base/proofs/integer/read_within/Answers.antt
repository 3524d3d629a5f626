use Rattle.jfr_base.proofs.Found.{found_stands, none_stands}
use Rattle.jfr_base.proofs.integer.read_within.Goals as goal

pub returns-clause-ok : goal.returns-clause-ok
returns-clause-ok c = found_stands c.args.bytes.now c.args.at c.args.end c.var_within.result c.requires.order c.requires.within c.var_within.ensures.exact

pub returns-clause-refused : goal.returns-clause-refused
returns-clause-refused c = none_stands c.args.bytes.now c.args.at c.args.end c.var_within.result c.requires.within c.var_within.ensures.exact
