use Rattle.jfr_verify.proofs.ClassLaws.{has_of}
use Rattle.jfr_verify.proofs.classes.has_classes.Goals as goal

pub returns : goal.returns
returns c = has_of c.classes.result.now c.classes-2.result.now c.args.a.now.classes c.args.b.now.classes c.has_each.result c.classes.ensures c.classes-2.ensures c.has_each.ensures
