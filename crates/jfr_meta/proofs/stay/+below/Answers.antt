use Rattle.std.proofs.Common.{◌≡◌, ◌≤◌, Some, length, slice_get, ap, sym, ◌∙◌, subst, arith}
use Rattle.std.specs.Prelude.{codes}
use Rattle.std.specs.List.{flat_map}
use Rattle.std.specs.Option.{option_to_list}
use Rattle.std.proofs.lemmas.List.{take_all}
use Rattle.std.proofs.lemmas.Option.{slice_get-get_or}
use Rattle.jfr_layout.specs.Classes.{class_index}
use Rattle.jfr_meta.specs.Described.{id_attribute}
use Rattle.jfr_worklist.specs.Marks.{those}
use Rattle.jfr_worklist.specs.Putting.{Puts}
use Rattle.jfr_meta.specs.Stays.{ids_below, ids_with}
use Rattle.jfr_meta.specs.Trees.{counts_of}
use Rattle.jfr_worklist.proofs.PuttingLaws.{puts_none, puts_size}
use Rattle.jfr_meta.proofs.PutsLaws.{below_each, each_next}
use Rattle.jfr_meta.proofs.WrittenLaws.{children_less, member_less}
use Rattle.jfr_meta.proofs.stay.+below.Goals as goal

pub put_below-put_each-requires : goal.put_below-put_each-requires
put_below-put_each-requires t c = (let e = ap counts_of c.children.ensures in let d = c.decreases in omega (arith, children_less c.args.element.now), c.requires.size)

pub put_below-returns : goal.put_below-returns
put_below-returns t c = record {
  puts = subst (λ z. Puts (those (class_index c.args.classes.now) z) c.args.list.now c.put_each.new.list)
      (ap (flat_map (ids_with c.args.strings.now)) c.children.ensures ∙ sym (below_each c.args.strings.now c.args.element.now)) c.put_each.ensures.puts;
}

pub put_each-loop-element-init : goal.put_each-loop-element-init
put_each-loop-element-init t c = (puts_none c.args.list.now, c.requires.size)

pub put_each-put_own-requires : goal.put_each-put_own-requires
put_each-put_own-requires t c = record { size = c.loop-element.invariant.1 }

pub put_each-put_below-requires : goal.put_each-put_below-requires
put_each-put_below-requires t c = (
  let d = c.decreases in
      let e = ap counts_of c.as_slice-element-items.ensures in
      omega (arith, member_less c.as_slice-element-items.result.now c.loop-element.element-index c.element-item.result c.element-item.result (omega arith) c.element-item.is),
  puts_size (those (class_index c.args.classes.now) (option_to_list (id_attribute c.args.strings.now c.element-item.result (codes "class")))) c.loop-element.list c.put_own.new.list
      c.put_own.ensures.puts ∙ c.loop-element.invariant.1,
)

pub put_each-loop-element-preserved : goal.put_each-loop-element-preserved
put_each-loop-element-preserved t c =
    let texts = c.args.strings.now in
    let k = c.args.classes.now in
    let items = c.as_slice-element-items.result.now in
    let i = c.loop-element.element-index in
    let x = c.element-item.result in
    let e : slice_get c.args.elements.now i ≡ Some x =
    ap (λ z. slice_get z i) (sym c.as_slice-element-items.ensures) ∙ (slice_get-get_or items i x (omega arith) ∙ ap (λ z. Some z) (sym c.element-item.is)) in
    let own = c.put_own.ensures.puts in
    let rest = c.put_below.ensures.puts in (
      each_next texts k c.args.elements.now i x c.args.list.now c.loop-element.list c.put_own.new.list c.put_below.new.list e c.loop-element.invariant.0 own rest,
      puts_size (those (class_index k) (ids_below texts x)) c.put_own.new.list c.put_below.new.list rest
          ∙ (puts_size (those (class_index k) (option_to_list (id_attribute texts x (codes "class")))) c.loop-element.list c.put_own.new.list own ∙ c.loop-element.invariant.1),
    )

pub put_each-returns : goal.put_each-returns
put_each-returns t c =
    let l : length c.args.elements.now ≤ c.loop-element.element-index = omega (arith, ap length c.as_slice-element-items.ensures) in
    record {
      puts = subst (λ z. Puts (those (class_index c.args.classes.now) (flat_map (ids_with c.args.strings.now) z)) c.args.list.now c.loop-element.list)
          (take_all c.loop-element.element-index c.args.elements.now l) c.loop-element.invariant.0;
    }
