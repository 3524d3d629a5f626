use Rattle.std.proofs.Common.{arith, sym, ◌∙◌, ap, ◌++◌, ◌∷◌, [], map, take}
use Rattle.std.proofs.lemmas.List.{take_all}
use Rattle.jfr_layout.specs.Classes.{Class, kind_of}
use Rattle.jfr_layout.proofs.Lists.{item_at, map_next}
use Rattle.jfr_layout.proofs.resolved.kinds_of.Goals as goal

pub loop-class-preserved : goal.loop-class-preserved
loop-class-preserved c =
    let items = c.as_slice-class-items.result.now in
    let i = c.loop-class.class-index in
    let class = c.class-item.result in
    c.in_ok-push.ensures.items
    ∙ (ap (λ ks. ks ++ c.of.result ∷ []) c.loop-class.invariant
    ∙ (ap (λ q. map (λ (d : Class). kind_of d.name) (take i items) ++ q ∷ []) c.of.ensures
    ∙ sym (map_next (λ (d : Class). kind_of d.name) items i class (item_at items i class (omega arith) c.class-item.is))))

pub returns : goal.returns
returns c = record {
  exact = c.loop-class.invariant
      ∙ ap (map (λ (d : Class). kind_of d.name)) (take_all c.loop-class.class-index c.as_slice-class-items.result.now (omega arith) ∙ c.as_slice-class-items.ensures);
}
