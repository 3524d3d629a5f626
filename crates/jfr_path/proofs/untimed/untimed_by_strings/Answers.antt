use Rattle.std.proofs.Common.{ap, arith, map, ◌∙◌}
use Rattle.std.proofs.lemmas.List.{take_all}
use Rattle.jfr_path.proofs.UntimedLaws.{always_by_names, is_always_named}
use Rattle.jfr_path.proofs.untimed.untimed_by_strings.Goals as goal

pub returns : goal.returns
returns c =
    let g = c.args.filter.now in
    let p = c.args.chunk.now in
    let named = c.in_ok-classes.classes.items in
    let all = take_all c.loop-class.class-index c.deref-class-items.result.now (omega arith) ∙ c.deref-class-items.ensures.value in
    record { ok = c.loop-class.invariant.untimed ∙ (ap (map (is_always_named g p.body.strings)) all ∙ always_by_names g p.body.strings p.classes named c.in_ok-classes.ensures.ok) }
