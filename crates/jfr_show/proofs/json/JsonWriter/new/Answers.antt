use Rattle.std.proofs.Common.{subst}
use Rattle.jfr_layout.specs.Classes.{Classes}
use Rattle.jfr_show.specs.Orders.{AreOrders}
use Rattle.jfr_show.proofs.json.JsonWriter.new.Goals as goal

pub invariant_of-result : goal.invariant_of-result
invariant_of-result c = (subst (λ (k : Classes). AreOrders k c.in_ok-orders_of.field-0.items) c.classes.ensures c.in_ok-orders_of.ensures.ok, c.in_ok-new.ensures.none c.args.chunk.now)
