use Rattle.std.proofs.Common.{◌≡◌, [], ◌∷◌, length, arith, ap, sym, ◌∙◌, subst, inl, inr, Some, IfSome}
use Rattle.std.specs.Prelude.{slice_get, Option}
use Rattle.std.proofs.lemmas.List.{length-append}
use Rattle.jfr_layout.specs.Classes.{Class}
use Rattle.jfr_show.specs.declared.json.order.MemberOrder.{MemberOrder}
use Rattle.jfr_show.specs.Orders.{IsOrder, leads_of}
use Rattle.jfr_show.proofs.ListingLaws.{item_of}
use Rattle.jfr_show.proofs.PlacedLaws.{found_in}
use Rattle.jfr_show.proofs.json.order.orders_of.Goals as goal

pub loop-class-preserved : goal.loop-class-preserved
loop-class-preserved c =
    let grown = c.in_ok-push.ensures.items in
    let classes = c.args.classes.now in
    let item = c.class-item.result in
    let at = item_of classes c.as_slice-class-items.result.now c.loop-class.class-index item c.as_slice-class-items.ensures (omega arith) c.class-item.is in
    record {
      count = ap length grown ∙ (let l = length-append c.loop-class.orders.items (c.in_ok-short_order.field-0 ∷ []) in let n = c.loop-class.invariant.count in omega arith);
      each = λ place o g d e. elim (found_in c.loop-class.orders.items c.in_ok-short_order.field-0 (Some o) place (ap (λ z. slice_get z place) (sym grown) ∙ g)) [
        | inl h ↦ c.loop-class.invariant.each place o h d e
        | inr h ↦
            let here : place ≡ c.loop-class.class-index = h.0 ∙ c.loop-class.invariant.count in
            let class : item ≡ d = (let z : Some item ≡ Some d = sym at ∙ (ap (slice_get classes) (sym here) ∙ e) in cc) in
            subst (λ (z : Class). IsOrder z.fields (leads_of o)) class (subst (λ (z : Option MemberOrder). IfSome z (λ o. IsOrder item.fields (leads_of o))) h.1 c.in_ok-short_order.ensures.ok)
      ];
    }

pub returns : goal.returns
returns c = record { ok = record { sound = c.len.ensures.sound; count = c.loop-class.invariant.count ∙ omega (arith, ap length c.as_slice-class-items.ensures); each = c.loop-class.invariant.each } }
