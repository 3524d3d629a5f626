use Rattle.std.proofs.Common.{arith, sym, ◌∙◌}
use Rattle.std.proofs.lemmas.Result.{err_from_is_err_and}
use Rattle.jfr_base.specs.Formats.{integer}
use Rattle.jfr_value.proofs.EndLaws.{after_err, after_ok, items_step, no_more}
use Rattle.jfr_value.proofs.integers.each_integer_end.Goals as goal

pub returns-in_err-to-clause-exact : goal.returns-in_err-to-clause-exact
returns-in_err-to-clause-exact c =
    let p = err_from_is_err_and c.from_residual.result c.from_residual.ensures.1 in
    rw (p.1, p.2) (after_err _ _ _ _ _ (items_step c.args.count c.loop.counter integer c.args.bytes.now c.args.end c.loop.to c.loop-test.true)
    (sym c.integer_end.ensures.exact ∙ c.in_err-to.was) c.loop.invariant.same)

pub loop-preserved : goal.loop-preserved
loop-preserved c = record {
  from = omega (arith, c.in_ok-to.ensures.range, c.loop.invariant.from);
  upto = omega (arith, c.in_ok-to.ensures.range);
  same = after_ok _ _ _ _ _ (items_step c.args.count c.loop.counter integer c.args.bytes.now c.args.end c.loop.to c.loop-test.true)
      (sym c.integer_end.ensures.exact ∙ c.in_ok-to.was) c.loop.invariant.same;
}

pub returns-clause-exact : goal.returns-clause-exact
returns-clause-exact c = sym (no_more c.args.count c.loop.counter integer c.args.bytes.now c.args.end c.loop.to c.loop-test.false) ∙ c.loop.invariant.same
