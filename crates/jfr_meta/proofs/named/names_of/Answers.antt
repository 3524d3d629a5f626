use Rattle.std.proofs.Common.{map, take, subst, arith}
use Rattle.std.specs.List.{AllZip, filter_map}
use Rattle.std.proofs.lemmas.List.{take_all}
use Rattle.jfr_meta.specs.Described.{IsNamedBy, class_of, heads}
use Rattle.jfr_meta.proofs.NamedLaws.{elements_next}
use Rattle.jfr_meta.proofs.named.names_of.Goals as goal

pub loop-element-preserved : goal.loop-element-preserved
loop-element-preserved c =
    let texts = c.args.strings.now in
    let l = c.loop-element in
    let hs = heads texts (map (λ e. e.now) c.args.elements.now) in
    elements_next texts hs c.args.elements.now l.element-index c.element-item.result c.add_names.new.names.items (omega arith) c.element-item.is
    (c.in_ok-add_names.ensures.ok hs (filter_map (class_of texts hs) (map (λ e. e.now) (take l.element-index c.args.elements.now))) c.in_ok-ids.ensures.ok l.invariant)

pub returns : goal.returns
unfolding Rattle.jfr_meta.specs.Described.classes_of
returns c =
    let texts = c.args.strings.now in
    let hs = heads texts (map (λ e. e.now) c.args.elements.now) in
    record {
      ok = subst (λ z. AllZip (IsNamedBy texts) (filter_map (class_of texts hs) (map (λ e. e.now) z)) c.loop-element.names.items)
          (take_all c.loop-element.element-index c.args.elements.now (omega arith)) c.loop-element.invariant;
    }
