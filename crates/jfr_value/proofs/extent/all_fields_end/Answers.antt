use Rattle.std.proofs.Common.{◌+◌, ap, arith, subst, sym, ◌∙◌}
use Rattle.std.proofs.lemmas.Result.{err_from_is_err_and}
use Rattle.jfr_base.specs.Formats.{run, end_or_flaw}
use Rattle.jfr_value.specs.Reading.{values_format}
use Rattle.jfr_value.proofs.EndLaws.{after_err, after_ok}
use Rattle.jfr_value.specs.declared.walk.TheConstants.{INNER_LEVELS}
use Rattle.jfr_value.proofs.FusedLaws.{fused_goes, fused_step, fused_there, fused_end, fused_taken}
use Rattle.jfr_value.proofs.TakingLaws.{TakesRemaining, no_value}
use Rattle.jfr_value.proofs.extent.all_fields_end.Goals as goal

pub loop-fused-init : goal.loop-fused-init
loop-fused-init g c = record {
  from = omega arith;
  upto = c.requires.order;
  same = ap (λ z. end_or_flaw (run (values_format (INNER_LEVELS + 1) c.args.walk.classes.now z) c.args.walk.bytes.now c.args.walk.end c.args.at)) c.requires.fused_fields.all;
  ready = c.requires.ready;
  remaining = subst (λ z. TakesRemaining (g.V.VisitKey.takes c.args.walk.with.now) c.args.at
      (run (values_format (INNER_LEVELS + 1) c.args.walk.classes.now c.args.class_layout.now.layouts.items) c.args.walk.bytes.now c.args.walk.end c.args.at)
      c.args.at (run (values_format (INNER_LEVELS + 1) c.args.walk.classes.now z) c.args.walk.bytes.now c.args.walk.end c.args.at) c.args.visitor.now c.args.visitor.now)
      (sym c.requires.fused_fields.all)
      (record { then_all = λ last t. t });
}

pub fused_end-requires-clause-fused : goal.fused_end-requires-clause-fused
fused_end-requires-clause-fused g c =
    let e = c.deref-fused-items.ensures.value in
    rw e (fused_there c.args.class_layout.now.layouts.items c.args.class_layout.now.fused_fields.items c.loop-fused.fused-index _ (rw e at c.loop-fused-test.true) c.requires.fused_fields.each)

pub returns-in_err-to : goal.returns-in_err-to
returns-in_err-to g c =
    let q = c.deref-fused-items.ensures.value in
    let p = err_from_is_err_and c.from_residual.result c.from_residual.ensures.1 in
    let e = after_err _ _ _ _ _ (fused_step c.args.class_layout.now.layouts.items c.args.class_layout.now.fused_fields.items c.args.walk.classes.now INNER_LEVELS c.args.walk.bytes.now c.args.walk.end
    c.loop-fused.fused-index c.loop-fused.to _ (rw q at c.loop-fused-test.true))
    (sym (rw q at c.fused_end.ensures.exact) ∙ c.in_err-to.was) c.loop-fused.invariant.same in
    record { exact = rw (p.1, p.2) e; range = rw (p.1) tt; visited = no_value _ _ _ e; ready = c.fused_end.ensures.ready }

pub loop-fused-preserved : goal.loop-fused-preserved
loop-fused-preserved g c =
    let q = c.deref-fused-items.ensures.value in
    let within = rw q at c.loop-fused-test.true in
    let ends = sym (rw q at c.fused_end.ensures.exact) ∙ c.in_ok-to.was in
    record {
      from = omega (arith, c.in_ok-to.ensures.range, c.loop-fused.invariant.from);
      upto = omega (arith, c.in_ok-to.ensures.range);
      same = after_ok _ _ _ _ _ (fused_step c.args.class_layout.now.layouts.items c.args.class_layout.now.fused_fields.items c.args.walk.classes.now INNER_LEVELS c.args.walk.bytes.now c.args.walk.end
          c.loop-fused.fused-index c.loop-fused.to _ within) ends c.loop-fused.invariant.same;
      ready = c.fused_end.ensures.ready;
      remaining = fused_goes c.args.class_layout.now.layouts.items c.args.class_layout.now.fused_fields.items c.args.walk.classes.now INNER_LEVELS c.args.walk.bytes.now c.args.walk.end
          (g.V.VisitKey.takes c.args.walk.with.now) c.args.walk.within c.args.at _ c.loop-fused.fused-index c.loop-fused.to c.in_ok-to.to _
          c.args.visitor.now c.loop-fused.visitor c.fused_end.new.visitor within c.loop-fused.invariant.upto c.loop-fused.invariant.remaining (sym ends) (rw q at c.fused_end.ensures.visited);
    }

pub returns-clause-exact : goal.returns-clause-exact
returns-clause-exact g c =
    sym (fused_end c.args.class_layout.now.layouts.items c.args.class_layout.now.fused_fields.items c.args.walk.classes.now INNER_LEVELS c.args.walk.bytes.now c.args.walk.end c.loop-fused.fused-index
    c.loop-fused.to (rw c.deref-fused-items.ensures.value at c.loop-fused-test.false)) ∙ c.loop-fused.invariant.same

pub returns-clause-visited : goal.returns-clause-visited
returns-clause-visited g c =
    fused_taken c.args.class_layout.now.layouts.items c.args.class_layout.now.fused_fields.items c.args.walk.classes.now INNER_LEVELS c.args.walk.bytes.now c.args.walk.end
    (g.V.VisitKey.takes c.args.walk.with.now) c.args.at _ c.loop-fused.fused-index c.loop-fused.to c.args.visitor.now c.loop-fused.visitor
    (rw c.deref-fused-items.ensures.value at c.loop-fused-test.false) c.loop-fused.invariant.remaining
