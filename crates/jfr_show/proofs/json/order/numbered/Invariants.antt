use Rattle.std.proofs.Common.{◌≡◌, drop}
use Rattle.serde_json.specs.Data.{no_members}
use Rattle.serde_json.specs.View.{members_view}
use Rattle.jfr_show.specs.Json.{members_with}
use Rattle.jfr_show.specs.Orders.{numbers}
use Rattle.jfr_show.proofs.json.order.numbered.Given as goal

abbrev pub invariant-loop-number : goal.invariant-loop-number
invariant-loop-number l = members_with (members_view l.members.entries) (drop l.number l.fields) (numbers l.number (drop l.number l.fields)) ≡ members_with no_members l.fields (numbers 0 l.fields)
