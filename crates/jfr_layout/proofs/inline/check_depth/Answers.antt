use Rattle.std.proofs.Common.{arith, ◌∙◌, false}
use Rattle.std.proofs.lemmas.Option.{slice_get-get_or}
use Rattle.jfr_layout.proofs.Depth.{shallow_next, shallow_tell}
use Rattle.jfr_layout.proofs.inline.check_depth.Goals as goal

pub returns-then-is_deep : goal.returns-then-is_deep
returns-then-is_deep c =
    let items = c.deref-is_deep-items.result.now in
    shallow_tell c.args.classes.now items c.loop-at.at _ (c.deref-is_deep-items.ensures.value ∙ c.in_ok-goes.ensures.exact) c.loop-at.invariant
    (slice_get-get_or items c.loop-at.at false (omega arith)) c.if-is_deep.true

pub loop-at-preserved : goal.loop-at-preserved
loop-at-preserved c =
    let items = c.deref-is_deep-items.result.now in
    shallow_next c.args.classes.now items c.loop-at.at _ (c.deref-is_deep-items.ensures.value ∙ c.in_ok-goes.ensures.exact) c.loop-at.invariant
    (slice_get-get_or items c.loop-at.at false (omega arith)) c.if-is_deep.false
