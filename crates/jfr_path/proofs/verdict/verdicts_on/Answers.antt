use Rattle.std.proofs.Common.{◌+◌, arith, sym, subst, ◌∙◌}
use Rattle.std.specs.Prelude.{take}
use Rattle.std.specs.List.{AllZip}
use Rattle.jfr_layout.proofs.Lists.{listed_at}
use Rattle.jfr_path.specs.Verdicts.{IsVerdict}
use Rattle.jfr_path.proofs.ListLaws.{zip_next}
use Rattle.jfr_path.proofs.verdict.verdicts_on.Goals as goal

pub loop-index-preserved : goal.loop-index-preserved
loop-index-preserved c =
    let k = c.args.chunk.now.classes in
    let same = c.as_slice-class-items.ensures ∙ c.classes.ensures in
    let there = listed_at same c.loop-index.index c.class-item.result (omega arith) c.class-item.is in
    subst (AllZip (IsVerdict c.args.filter.now) (take (c.loop-index.index + 1) k)) (sym c.in_ok-push.ensures.items)
    (zip_next (IsVerdict c.args.filter.now) k c.loop-index.verdicts.items c.loop-index.index c.class-item.result c.verdict_on.result there c.loop-index.invariant c.verdict_on.ensures)
