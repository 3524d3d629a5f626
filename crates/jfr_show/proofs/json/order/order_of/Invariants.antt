use Rattle.std.proofs.Common.{◌≡◌, ◌++◌, false}
use Rattle.std.specs.Prelude.{map}
use Rattle.serde_json.specs.View.{members_view}
use Rattle.jfr_show.specs.Orders.{lead_of, leads}
use Rattle.jfr_show.proofs.json.order.order_of.Given as goal

abbrev pub invariant-loop-name : goal.invariant-loop-name
invariant-loop-name l = map lead_of l.leads.items ++ leads l.later (members_view l.name-iterator) ≡ leads false (members_view l.initial.name-iterator)
