use Rattle.std.proofs.Common.{◌≡◌, ℕ, length}
use Rattle.std.specs.Prelude.{slice_get, Some}
use Rattle.jfr_show.specs.declared.json.order.MemberOrder.{MemberOrder}
use Rattle.jfr_show.specs.Orders.{IsOrderAt}
use Rattle.jfr_show.proofs.json.order.orders_of.Given as goal

abbrev pub invariant-loop-class : goal.invariant-loop-class
invariant-loop-class l = record {
  count : length l.orders.items ≡ l.class-index;
  each : (place : ℕ) (o : MemberOrder) → slice_get l.orders.items place ≡ Some (Some o) → IsOrderAt l.classes place o;
}
