use Rattle.std.proofs.Common.{rules, ◌≡◌, ◌++◌, false, ap, sym, ◌∙◌, subst}
use Rattle.std.specs.Prelude.{map}
use Rattle.std.proofs.lemmas.List.{append-nil}
use Rattle.serde_json.specs.View.{members_view}
use Rattle.jfr_show.specs.Orders.{IsOrder, lead_of, leads}
use Rattle.jfr_show.proofs.OrderLaws.{order_is}
use Rattle.jfr_show.proofs.json.order.order_of.Goals as goal

pub returns : goal.returns
returns c =
    let made = map lead_of c.loop-name.leads.items in
    let whole : c.into_iter-name-iterator.result ≡ c.in_ok-members.members.entries = search rules in
    let all : made ≡ leads false (members_view c.in_ok-members.members.entries) =
    sym (append-nil made) ∙ (ap (λ z. made ++ leads c.loop-name.later (members_view z)) (sym c.in-None.ensures.steps.0) ∙ (c.loop-name.invariant ∙ ap (λ z. leads false (members_view z)) whole)) in
    record { ok = subst (IsOrder c.args.fields.now) (sym all) (order_is c.args.fields.now (members_view c.in_ok-members.members.entries) c.in_ok-members.ensures.ok) }
