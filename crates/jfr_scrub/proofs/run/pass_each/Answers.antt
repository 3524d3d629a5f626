use Rattle.std.proofs.Common.{arith, sym, ◌∙◌}
use Rattle.jfr_scrub.proofs.GallopingLaws.{counts_small}
use Rattle.jfr_scrub.proofs.RunLaws.{at_run, passes_next, passes_none}
use Rattle.jfr_scrub.proofs.run.pass_each.Goals as goal

pub run-init : goal.run-init
run-init c = passes_none c.args.chunk.now c.args.kept.now c.args.cursor.now c.requires.cursor

pub overflow_add-cursor : goal.overflow_add-cursor
overflow_add-cursor c =
    let a = at_run _ _ _ c.run.invariant.cursor (sym c.is_in_run.ensures ∙ c.run-test.true) in
    let s = counts_small c.args.chunk.now c.requires.accepted in
    omega (arith, s.0, a.more)

pub overflow_add-cursor-in-run : goal.overflow_add-cursor-in-run
overflow_add-cursor-in-run c =
    let a = at_run _ _ _ c.run.invariant.cursor (sym c.is_in_run.ensures ∙ c.run-test.true) in
    let s = counts_small c.args.chunk.now c.requires.accepted in
    omega (arith, s.1, a.event)

pub run-smaller : goal.run-smaller
run-smaller c =
    let a = at_run _ _ _ c.run.invariant.cursor (sym c.is_in_run.ensures ∙ c.run-test.true) in
    omega (arith, a.more)

pub run-preserved : goal.run-preserved
run-preserved c = passes_next _ _ _ _ c.run.invariant (sym c.is_in_run.ensures ∙ c.run-test.true)
