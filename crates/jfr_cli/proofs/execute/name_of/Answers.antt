use Rattle.std.proofs.Common.{Some, ap}
use Rattle.jfr_cli.proofs.Orders.{named}
use Rattle.jfr_cli.proofs.execute.name_of.Goals as goal

pub returns-in-Some : goal.returns-in-Some
returns-in-Some c = rw c.in-Some.is (ap (λ z. Some z) (named c.as_str.result.now c.in-Some.name.now c.as_str.utf8 c.as_str.ensures))
