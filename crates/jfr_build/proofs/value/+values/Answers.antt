-- One step of each walk over words, and its end.
use Rattle.std.proofs.Common.{[], Err, ◌≡◌, ◌+◌, ◌-◌, ap, arith, get_or, rules, subst, sym, ◌∙◌}
use Rattle.std.proofs.lemmas.Result.{err_from_is_err_and}
use Rattle.std.specs.List.{AllByRecursion}
use Rattle.jfr_layout.specs.Classes.{IsFieldLayout, item_of}
use Rattle.jfr_layout.specs.declared.field_layout.FieldLayout.{FieldLayout}
use Rattle.jfr_value.specs.Values.{Value}
use Rattle.jfr_value.specs.Walks.{DepthBound}
use Rattle.jfr_value.proofs.EndLaws.{layouts_there}
use Rattle.jfr_value.proofs.LayoutEnds.{fields_there, depth_remains, depth_within}
use Rattle.jfr_value.proofs.LayoutLaws.{no_layout, layout_there}
use Rattle.jfr_build.specs.Taking.{Taker, class_taken, shape_taken, times_taken}
use Rattle.jfr_build.specs.Writing.{Writes, wrote, wrote_all}
use Rattle.jfr_build.proofs.WritingLaws.{after_wrote, array_after, each_wrote, fields_written, leaf_written, loop_bad, times_ended, times_wrote}
use Rattle.jfr_build.proofs.value.+values.Goals as goal

pub push_array-loop-init : goal.push_array-loop-init
push_array-loop-init t c =
    let e : c.in-Some.count - 0 ≡ c.in-Some.count = omega arith in
    ap (λ n. wrote_all c.push_var.new.self (times_taken n (shape_taken (class_taken (c.args.levels + 1) c.args.classes.now) (item_of c.args.layout.now.shape)) c.next_word.new.words)) e

pub push_array-returns-in_err-push_layout : goal.push_array-returns-in_err-push_layout
push_array-returns-in_err-push_layout t c =
    let f = shape_taken (class_taken (c.args.levels + 1) c.args.classes.now) in
    let s = item_of c.args.layout.now.shape in
    let p = err_from_is_err_and c.from_residual-in_err-push_layout.result c.from_residual-in_err-push_layout.ensures.1 in
    let all = array_after (class_taken (c.args.levels + 1) c.args.classes.now) c.args.layout.now.shape c.in_ok-word.word.now c.next_word.new.words c.args.words.now c.args.out.now c.push_var.new.self
    c.in-Some.count c.in_ok-word.ensures c.in_ok-push_var.ensures.ok c.requires.array c.in-Some.ensures in
    let bad = subst (λ (z : FieldLayout). Writes {A = Unit {0}} (wrote c.loop.out (f z.shape c.loop.words)) (Err c.in_err-push_layout.field-0.0) c.push_layout.new.out c.push_layout.new.words)
    c.item_layout-item.ensures c.in_err-push_layout.ensures.exact in
    record {
      exact = rw (p.1, p.2) (loop_bad (Unit {0}) _ _ _ _ c.in_err-push_layout.field-0.0 _ _ _ _ (times_wrote (f s) c.in-Some.count c.loop.counter c.loop.words c.loop.out c.loop-test.true)
          (c.loop.invariant ∙ all) bad);
    }

pub push_array-loop-preserved : goal.push_array-loop-preserved
push_array-loop-preserved t c =
    let f = shape_taken (class_taken (c.args.levels + 1) c.args.classes.now) in
    let q = ap (λ (z : FieldLayout). wrote c.loop.out (f z.shape c.loop.words)) c.item_layout-item.ensures in
    after_wrote _ _ _ _ _ _ (times_wrote (f (item_of c.args.layout.now.shape)) c.in-Some.count c.loop.counter c.loop.words c.loop.out c.loop-test.true)
    (sym q ∙ c.in_ok-push_layout.ensures.exact) c.loop.invariant

pub push_array-returns : goal.push_array-returns
push_array-returns t c =
    let f = shape_taken (class_taken (c.args.levels + 1) c.args.classes.now) in
    let all = array_after (class_taken (c.args.levels + 1) c.args.classes.now) c.args.layout.now.shape c.in_ok-word.word.now c.next_word.new.words c.args.words.now c.args.out.now c.push_var.new.self
    c.in-Some.count c.in_ok-word.ensures c.in_ok-push_var.ensures.ok c.requires.array c.in-Some.ensures in
    record { exact = sym (c.loop.invariant ∙ all) ∙ times_ended (f (item_of c.args.layout.now.shape)) c.in-Some.count c.loop.counter c.loop.words c.loop.out c.loop-test.false }

pub push_fields-loop-layout-preserved : goal.push_fields-loop-layout-preserved
push_fields-loop-layout-preserved t c =
    let f : FieldLayout → Taker Value = λ s. shape_taken (class_taken (c.args.levels + 1) c.args.classes.now) s.shape in
    let there = layout_there c.args.layouts.now c.loop-layout.layout-index c.loop-layout-test.true in
    after_wrote _ _ _ _ _ _ (each_wrote f c.args.layouts.now c.loop-layout.layout-index (get_or c.args.layouts.now c.loop-layout.layout-index no_layout) c.loop-layout.words c.loop-layout.out there)
    c.in_ok-push_layout.ensures.exact c.loop-layout.invariant

pub push_layout-push_fields-requires : goal.push_layout-push_fields-requires
push_layout-push_fields-requires t c =
    let left = depth_remains c.args.classes.now c.args.layout.now c.args.levels [] 0 0 c.requires.placed c.in-Fields.is c.requires.depth in
    let there = fields_there c.args.classes.now c.args.layout.now c.args.levels [] 0 0 c.requires.placed c.in-Fields.is in
    let layouts : AllByRecursion (IsFieldLayout c.args.classes.now) c.layouts-fields.result.now =
    layouts_there c.args.classes.now c.args.layout.now c.layouts-fields.result.now there.of_class c.layouts-fields.ensures.exact in
    let depth : AllByRecursion (λ s. DepthBound c.args.classes.now (c.args.levels - 1) s.shape) c.layouts-fields.result.now =
    depth_within c.args.classes.now c.args.layout.now c.args.levels c.layouts-fields.result.now c.requires.placed c.in-Fields.is c.requires.depth c.layouts-fields.ensures.exact in
    search (rules, layouts, depth, left)

pub push_layout-returns-in-Fields : goal.push_layout-returns-in-Fields
push_layout-returns-in-Fields t c =
    let e = fields_written c.args.classes.now c.args.layout.now c.args.levels c.args.words.now c.args.out.now c.requires.placed c.layouts-fields.result.now c.in-Fields.is c.requires.depth
    c.layouts-fields.ensures.exact in
    record { exact = subst (λ z. Writes z c.push_fields.result c.push_fields.new.out c.push_fields.new.words) e c.push_fields.ensures.exact }

pub push_layout-returns-in-Integer : goal.push_layout-returns-in-Integer
push_layout-returns-in-Integer t c =
    let e = leaf_written c.args.classes.now c.args.layout.now c.args.levels c.args.words.now c.args.out.now c.requires.placed c.in-Integer.is in
    record { exact = subst (λ z. Writes z c.push_base.result c.push_base.new.out c.push_base.new.words) e (c.push_base.ensures.exact c.args.layout.now.shape) }
