use Rattle.std.proofs.Common.{arith, subst, ◌∙◌}
use Rattle.std.proofs.lemmas.List.{take_all}
use Rattle.jfr_layout.specs.Names.{AreAllNumbered, AreNumbered}
use Rattle.jfr_layout.proofs.Lists.{item_at, take_next, zip_push}
use Rattle.jfr_layout.proofs.numbers.number_fields.Goals as goal

pub loop-class-preserved : goal.loop-class-preserved
loop-class-preserved c =
    let items = c.as_slice-class-items.result.now in
    let i = c.loop-class.class-index in
    let class = c.class-item.result in
    rw (take_next items i class (item_at items i class (omega arith) c.class-item.is), c.in_ok-push.ensures.items)
    (zip_push (λ c ns. AreNumbered c.fields ns.items) _ c.loop-class.numbers.items class c.in_ok-names.names c.loop-class.invariant c.in_ok-names.ensures.ok)

pub returns : goal.returns
returns c = record {
  ok = subst (λ z. AreAllNumbered z c.loop-class.numbers.items)
      (take_all c.loop-class.class-index c.as_slice-class-items.result.now (omega arith) ∙ c.as_slice-class-items.ensures) c.loop-class.invariant;
}
