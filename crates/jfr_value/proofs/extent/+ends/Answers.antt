-- One step of each walk, at its end and where it is refused.
use Rattle.std.proofs.Common.{◌+◌, ◌-◌, ap, arith, get_or, rules, subst, sym, ◌∙◌}
use Rattle.std.proofs.lemmas.Result.{err_from_is_err_and}
use Rattle.std.specs.List.{AllByRecursion}
use Rattle.jfr_base.specs.Formats.{Format, run, end_or_flaw}
use Rattle.jfr_layout.specs.Classes.{IsFieldLayout, item_of}
use Rattle.jfr_layout.specs.declared.field_layout.FieldLayout.{FieldLayout}
use Rattle.jfr_value.specs.Values.{Value}
use Rattle.jfr_value.specs.Reading.{class_format, item_format, shape_format}
use Rattle.jfr_value.specs.Visits.{TakesRead}
use Rattle.jfr_value.specs.Walks.{DepthBound}
use Rattle.jfr_value.proofs.EndLaws.{after_err, after_ok, each_step, items_step, no_more, shape_items, layouts_there}
use Rattle.jfr_value.proofs.LayoutEnds.{fields_end, fields_go, fields_there, depth_remains, depth_within, text_ends, text_taken}
use Rattle.jfr_value.proofs.LayoutLaws.{no_layout, layout_there}
use Rattle.jfr_value.proofs.PlacedLaws.{item_placed, shape_placed}
use Rattle.jfr_value.proofs.TakingLaws.{each_goes, items_end, items_go, items_taken, no_value}
use Rattle.jfr_value.proofs.extent.+ends.Goals as goal

pub compound_end-fields_end-requires : goal.compound_end-fields_end-requires
compound_end-fields_end-requires g t c κs within =
    let remaining = depth_remains c.args.walk.now.classes.now c.args.layout.now c.args.levels c.args.walk.now.bytes.now c.args.walk.now.end c.args.at c.requires.placed c.in-Fields.is
    c.requires.depth in
    let there = fields_there c.args.walk.now.classes.now c.args.layout.now c.args.levels c.args.walk.now.bytes.now c.args.walk.now.end c.args.at c.requires.placed c.in-Fields.is in
    let layouts : AllByRecursion (IsFieldLayout c.args.walk.now.classes.now) c.layouts-fields.result.now =
    layouts_there c.args.walk.now.classes.now c.args.layout.now c.layouts-fields.result.now there.of_class c.layouts-fields.ensures.exact in
    let depth : AllByRecursion (λ s. DepthBound c.args.walk.now.classes.now (c.args.levels - 1) s.shape) c.layouts-fields.result.now =
    depth_within c.args.walk.now.classes.now c.args.layout.now c.args.levels c.layouts-fields.result.now c.requires.placed c.in-Fields.is c.requires.depth c.layouts-fields.ensures.exact in
    search (rules, layouts, depth, remaining)

pub layout_end-returns-in-Text-clause-exact : goal.layout_end-returns-in-Text-clause-exact
layout_end-returns-in-Text-clause-exact g t c =
    c.text_end.ensures.exact ∙ text_ends c.args.walk.now.classes.now c.args.layout.now c.args.levels c.args.walk.now.bytes.now c.args.walk.now.end c.args.at c.requires.placed c.in-Text.is

pub layout_end-returns-in-Text-clause-visited : goal.layout_end-returns-in-Text-clause-visited
layout_end-returns-in-Text-clause-visited g t c =
    text_taken c.args.walk.now.classes.now c.args.layout.now c.args.levels c.args.walk.now.bytes.now c.args.walk.now.end c.args.at c.requires.placed
    (g.V.VisitKey.takes c.args.walk.now.with.now) c.args.visitor.now c.text_end.new.visitor c.requires.order c.args.walk.now.within c.in-Text.is c.text_end.ensures.visited

pub compound_end-returns-in_err-to-in-Fields : goal.compound_end-returns-in_err-to-in-Fields
compound_end-returns-in_err-to-in-Fields g t c =
    let p = err_from_is_err_and c.from_residual.result c.from_residual.ensures.1 in
    let e = sym c.in_err-to-in-Fields.was ∙ (c.fields_end.ensures.exact ∙ fields_end c.args.walk.now.classes.now c.args.layout.now c.args.levels c.args.walk.now.bytes.now c.args.walk.now.end c.args.at
    c.requires.placed c.layouts-fields.result.now c.in-Fields.is c.requires.depth c.layouts-fields.ensures.exact) in
    record { exact = rw (p.1, p.2) e; range = rw (p.1) tt; visited = no_value _ _ _ e; ready = c.fields_end.ensures.ready }

pub compound_end-returns-in_ok-to-in-Fields-clause-exact : goal.compound_end-returns-in_ok-to-in-Fields-clause-exact
compound_end-returns-in_ok-to-in-Fields-clause-exact g t c =
    sym c.in_ok-to-in-Fields.was ∙ (c.fields_end.ensures.exact ∙ fields_end c.args.walk.now.classes.now c.args.layout.now c.args.levels c.args.walk.now.bytes.now c.args.walk.now.end c.args.at
    c.requires.placed c.layouts-fields.result.now c.in-Fields.is c.requires.depth c.layouts-fields.ensures.exact)

pub compound_end-returns-in_ok-to-in-Fields-clause-visited : goal.compound_end-returns-in_ok-to-in-Fields-clause-visited
compound_end-returns-in_ok-to-in-Fields-clause-visited g t c =
    fields_go c.args.walk.now.classes.now c.args.layout.now c.args.levels c.args.walk.now.bytes.now c.args.walk.now.end c.args.at c.requires.placed
    (g.V.VisitKey.takes c.args.walk.now.with.now) c.args.visitor.now c.fields_end.new.visitor c.requires.order c.args.walk.now.within c.layouts-fields.result.now c.in-Fields.is c.requires.depth
    c.layouts-fields.ensures.exact
    c.fields_end.ensures.visited

pub fields_end-returns-in_err-to : goal.fields_end-returns-in_err-to
fields_end-returns-in_err-to g t c =
    let p = err_from_is_err_and c.from_residual.result c.from_residual.ensures.1 in
    let e = after_err _ _ _ _ _ (each_step (λ s. shape_format (class_format (c.args.levels + 1) c.args.walk.now.classes.now) s.shape) c.args.layouts.now c.loop-layout.layout-index
    (get_or c.args.layouts.now c.loop-layout.layout-index no_layout) c.args.walk.now.bytes.now c.args.walk.now.end c.loop-layout.to
    (layout_there c.args.layouts.now c.loop-layout.layout-index c.loop-layout-test.true))
    (sym c.layout_end.ensures.exact ∙ c.in_err-to.was) c.loop-layout.invariant.same in
    record { exact = rw (p.1, p.2) e; range = rw (p.1) tt; visited = no_value _ _ _ e; ready = c.layout_end.ensures.ready }

pub fields_end-loop-layout-preserved : goal.fields_end-loop-layout-preserved
fields_end-loop-layout-preserved g t c =
    let f : FieldLayout → Format Value = λ s. shape_format (class_format (c.args.levels + 1) c.args.walk.now.classes.now) s.shape in
    let there = layout_there c.args.layouts.now c.loop-layout.layout-index c.loop-layout-test.true in
    let ends = sym c.layout_end.ensures.exact ∙ c.in_ok-to.was in
    record {
      from = omega (arith, c.in_ok-to.ensures.range, c.loop-layout.invariant.from);
      upto = omega (arith, c.in_ok-to.ensures.range);
      same = after_ok _ _ _ _ _ (each_step f c.args.layouts.now c.loop-layout.layout-index (get_or c.args.layouts.now c.loop-layout.layout-index no_layout) c.args.walk.now.bytes.now
          c.args.walk.now.end c.loop-layout.to there) ends c.loop-layout.invariant.same;
      ready = c.layout_end.ensures.ready;
      remaining = each_goes (g.V.VisitKey.takes c.args.walk.now.with.now) c.args.at _ c.args.walk.now.bytes.now c.args.walk.now.end c.args.walk.now.within c.args.visitor.now f c.args.layouts.now
          c.loop-layout.layout-index
          (get_or c.args.layouts.now c.loop-layout.layout-index no_layout)
          c.loop-layout.to c.in_ok-to.to c.loop-layout.visitor c.layout_end.new.visitor there c.loop-layout.invariant.upto
          (λ s. shape_placed c.args.walk.now.bytes.now c.args.walk.now.end c.args.walk.now.within (c.args.levels + 1) c.args.walk.now.classes.now s.shape) c.loop-layout.invariant.remaining ends
          c.layout_end.ensures.visited;
    }

pub array_end-returns-in_err-to : goal.array_end-returns-in_err-to
array_end-returns-in_err-to g t c =
    let inline = class_format (c.args.levels + 1) c.args.walk.now.classes.now in
    let p = err_from_is_err_and c.from_residual-in_err-to.result c.from_residual-in_err-to.ensures.1 in
    let s = ap (λ (z : FieldLayout). end_or_flaw (run (shape_format inline z.shape) c.args.walk.now.bytes.now c.args.walk.now.end c.loop.to)) (sym c.item_layout-item.ensures) in
    let e = after_err _ _ _ _ _ (items_step c.in_ok-count.count.value c.loop.counter (item_format inline (item_of c.args.layout.now.shape)) c.args.walk.now.bytes.now c.args.walk.now.end c.loop.to
    c.loop-test.true)
    (s ∙ (sym c.layout_end.ensures.exact ∙ c.in_err-to.was))
    (c.loop.invariant.same ∙ sym (shape_items inline c.args.layout.now.shape c.in_ok-count.count c.args.walk.now.bytes.now c.args.walk.now.end c.args.at c.requires.array
    c.in_ok-count.ensures.exact)) in
    record { exact = rw (p.1, p.2) e; range = rw (p.1) tt; visited = no_value _ _ _ e; ready = c.layout_end.ensures.ready }

pub array_end-loop-preserved : goal.array_end-loop-preserved
array_end-loop-preserved g t c =
    let inline = class_format (c.args.levels + 1) c.args.walk.now.classes.now in
    let f = item_format inline (item_of c.args.layout.now.shape) in
    let ends = ap (λ (z : FieldLayout). end_or_flaw (run (shape_format inline z.shape) c.args.walk.now.bytes.now c.args.walk.now.end c.loop.to)) (sym c.item_layout-item.ensures)
    ∙ (sym c.layout_end.ensures.exact ∙ c.in_ok-to.was) in
    let taken = subst (λ (z : FieldLayout). TakesRead (g.V.VisitKey.takes c.args.walk.now.with.now) c.loop.to
    (run (shape_format inline z.shape) c.args.walk.now.bytes.now c.args.walk.now.end c.loop.to)
    c.loop.visitor c.layout_end.new.visitor) c.item_layout-item.ensures c.layout_end.ensures.visited in
    record {
      from = omega (arith, c.in_ok-to.ensures.range, c.loop.invariant.from);
      upto = omega (arith, c.in_ok-to.ensures.range);
      same = after_ok _ _ _ _ _ (items_step c.in_ok-count.count.value c.loop.counter f c.args.walk.now.bytes.now c.args.walk.now.end c.loop.to c.loop-test.true) ends c.loop.invariant.same;
      ready = c.layout_end.ensures.ready;
      remaining = items_go (g.V.VisitKey.takes c.args.walk.now.with.now) c.in_ok-count.count.end _ c.args.walk.now.bytes.now c.args.walk.now.end c.args.walk.now.within c.args.visitor.now
          c.in_ok-count.count.value c.loop.counter f
          c.loop.to c.in_ok-to.to c.loop.visitor c.layout_end.new.visitor c.loop-test.true c.loop.invariant.upto
          (item_placed c.args.walk.now.bytes.now c.args.walk.now.end c.args.walk.now.within (c.args.levels + 1) c.args.walk.now.classes.now (item_of c.args.layout.now.shape))
          c.loop.invariant.remaining ends taken;
    }

pub array_end-returns-clause-exact : goal.array_end-returns-clause-exact
array_end-returns-clause-exact g t c =
    let inline = class_format (c.args.levels + 1) c.args.walk.now.classes.now in
    sym (no_more c.in_ok-count.count.value c.loop.counter (item_format inline (item_of c.args.layout.now.shape)) c.args.walk.now.bytes.now c.args.walk.now.end c.loop.to c.loop-test.false)
    ∙ (c.loop.invariant.same ∙ sym (shape_items inline c.args.layout.now.shape c.in_ok-count.count c.args.walk.now.bytes.now c.args.walk.now.end c.args.at c.requires.array
    c.in_ok-count.ensures.exact))

pub array_end-returns-clause-visited : goal.array_end-returns-clause-visited
array_end-returns-clause-visited g t c =
    let inline = class_format (c.args.levels + 1) c.args.walk.now.classes.now in
    items_taken (g.V.VisitKey.takes c.args.walk.now.with.now) c.args.walk.now.bytes.now c.args.walk.now.end c.args.at c.requires.order c.args.walk.now.within inline c.args.layout.now.shape
    c.in_ok-count.count c.args.visitor.now c.loop.visitor
    c.requires.array c.in_ok-count.ensures.exact
    (items_end (g.V.VisitKey.takes c.args.walk.now.with.now) c.in_ok-count.count.end _ c.args.walk.now.bytes.now c.args.walk.now.end c.args.walk.now.within c.args.visitor.now
    c.in_ok-count.count.value c.loop.counter
    (item_format inline (item_of c.args.layout.now.shape)) c.loop.to c.loop.visitor c.loop-test.false c.loop.invariant.remaining)
