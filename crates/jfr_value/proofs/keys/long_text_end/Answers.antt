use Rattle.jfr_value.proofs.EndLaws.{text_seen}
use Rattle.jfr_value.proofs.keys.long_text_end.Goals as goal

pub returns-in-Key-clause-exact : goal.returns-in-Key-clause-exact
returns-in-Key-clause-exact g c = text_seen c.args.walk.bytes.now c.args.walk.end c.args.at _ c.in-Ok.ensures.exact

pub returns-in_default-clause-exact : goal.returns-in_default-clause-exact
returns-in_default-clause-exact g c = text_seen c.args.walk.bytes.now c.args.walk.end c.args.at _ c.in-Ok.ensures.exact

pub returns-in-Err-clause-exact : goal.returns-in-Err-clause-exact
returns-in-Err-clause-exact g c = text_seen c.args.walk.bytes.now c.args.walk.end c.args.at _ c.in-Err.ensures.exact
