use Rattle.std.proofs.Common.{ap, arith, map, ◌∙◌}
use Rattle.std.proofs.lemmas.List.{take_all}
use Rattle.jfr_path.specs.Strings.{is_named_allowed}
use Rattle.jfr_path.proofs.StringLaws.{classes_by_names}
use Rattle.jfr_path.proofs.allowed.allowed_by_strings.Goals as goal

pub returns : goal.returns
returns c =
    let g = c.args.filter.now in
    let p = c.args.chunk.now in
    let named = c.in_ok-classes.classes.items in
    let all = take_all c.loop-class.class-index c.deref-class-items.result.now (omega arith) ∙ c.deref-class-items.ensures.value in
    record { ok = c.loop-class.invariant.allowed ∙ (ap (map (is_named_allowed g p.body.strings)) all ∙ classes_by_names g p.body.strings p.classes named c.in_ok-classes.ensures.ok) }
