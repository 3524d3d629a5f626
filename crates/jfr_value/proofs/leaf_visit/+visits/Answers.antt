-- The leaves of each part come one after another.
use Rattle.std.proofs.Common.{◌≡◌, ◌∷◌, [], ◌+◌, ◌-◌, ◌^◌, ◌<◌, ◌++◌, length, refl, sym, ◌∙◌, ap, subst, arith, drop, get_or, rules}
use Rattle.std.specs.List.{AllByRecursion}
use Rattle.std.specs.Prelude.{IsSome, Ok, Option, Some, replicate, slice_range}
use Rattle.std.proofs.lemmas.List.{drop_all, length-append}
use Rattle.jfr_base.specs.Formats.{end_or_flaw, int_at, integer, run, times}
use Rattle.jfr_layout.specs.Classes.{IsFieldLayout, item_of}
use Rattle.jfr_layout.specs.declared.form.Form.TheVariants as forms
use Rattle.jfr_layout.specs.declared.field_layout.FieldLayout.{FieldLayout}
use Rattle.jfr_value.specs.declared.leaf.Holder.{Holder}
use Rattle.jfr_value.specs.declared.leaf.LeafKind.TheVariants as leaf_kinds
use Rattle.jfr_value.specs.declared.single_visit.ValueStart.{ValueStart}
use Rattle.jfr_value.specs.Leaves.{LeafAt, leaf_of}
use Rattle.jfr_value.specs.Visits.{AreNumbers, AreToVisit, Visits, field_shapes, shapes_of_layouts}
use Rattle.jfr_value.specs.Walks.{IsLayoutIfKnown, DepthBound, fields_from}
use Rattle.jfr_value.proofs.FormLaws.{fields_kind, inline_there}
use Rattle.jfr_value.proofs.LayoutLaws.{layouts_at, no_layout}
use Rattle.jfr_value.proofs.LeafVisitLaws.{first_node, fused_to_visit, fused_visited, layout_next, shape_there, leaf_admitted, leaf_end, left_to_visit, next_to_visit, visits_end, visits_fields, visits_leaf, visits_next, visits_none, visits_then}
use Rattle.jfr_value.proofs.StackLaws.{inner_depth}
use Rattle.jfr_value.proofs.VisitLaws.{depth_within, inline_node, item_next, items_past}
use Rattle.jfr_value.proofs.WalkLaws.{array_found, array_taken, array_there, some_there}
use Rattle.jfr_value.specs.Reading.{values_format}
use Rattle.jfr_value.proofs.NumberLaws.{numbers_visited}
use Rattle.jfr_value.proofs.PreludeLaws.{prelude_visited, thread_to_visit, trace_to_visit}
use Rattle.jfr_value.proofs.FusedLaws.{left_by, left_none, next_fused, row_fused, row_shapes}
use Rattle.jfr_value.proofs.leaf_visit.+visits.Goals as goal

pub visit_array-known_integer-count-requires-clause-known : goal.visit_array-known_integer-count-requires-clause-known
visit_array-known_integer-count-requires-clause-known g t c =
    let walk = c.args.walk.now in
    let values = c.requires.values in
    some_there (int_at walk.bytes.now c.args.start.at walk.end)
    (array_there walk.classes.now walk.bytes.now c.args.start.at walk.end c.args.layout.now.shape values.other_shapes c.args.start.holder values.other_holders values.values values.row
    c.requires.array)

pub visit_array-visit_leaf-requires-clause-admits : goal.visit_array-visit_leaf-requires-clause-admits
visit_array-visit_leaf-requires-clause-admits g t c =
    let walk = c.args.walk.now in
    let layout = c.args.layout.now in
    let values = c.requires.values in
    let count = c.known_integer-count.result in
    subst (g.V.VisitLeaf.admits walk.with.now) (sym c.leaf_to-leaf.ensures)
    (leaf_admitted (g.V.VisitLeaf.admits walk.with.now) walk.classes.now walk.bytes.now walk.end c.args.start.holder layout.shape c.args.start.at count.end layout.shape.class
    (leaf_kinds.Count count.value) (replicate count.value c.args.start.holder ++ values.other_holders) (replicate count.value (item_of layout.shape) ++ values.other_shapes) values
    (array_taken walk.classes.now walk.bytes.now c.args.start.at walk.end layout.shape values.other_shapes c.args.start.holder values.other_holders values.values count values.row c.requires.array
    c.known_integer-count.ensures.exact))

pub visit_array-items-init : goal.visit_array-items-init
visit_array-items-init g t c = record {
  ready =
      let walk = c.args.walk.now in
      let leaf : LeafAt = record {
        kind = leaf_kinds.Count c.known_integer-count.result.value;
        class = c.args.layout.now.shape.class;
        holder = c.args.start.holder;
        at = c.args.start.at;
        spelled =
            slice_range walk.bytes.now c.args.start.at c.known_integer-count.result.end;
      } in
      subst (λ z. g.V.VisitLeaf.ready c.visit_leaf.new.self walk.with.now z)
      (leaf_end walk.bytes.now (leaf_of c.leaf_to-leaf.result) leaf c.known_integer-count.result.end c.leaf_to-leaf.ensures refl (let r = c.known_integer-count.ensures.range in omega (arith, r.0))
      (let r = c.known_integer-count.ensures.range in let w = walk.within in omega (arith, r.1))) c.visit_leaf.ensures.ready;
  visited =
      let walk = c.args.walk.now in
      let layout = c.args.layout.now in
      let count = c.known_integer-count.result in
      let takes = g.V.VisitLeaf.takes walk.with.now in
      let items = c.items_to_walk-items.result in
      let e : items ≡ items - 0 = omega arith in
      subst (λ n. Visits takes walk.classes.now walk.bytes.now walk.end (c.args.start.holder ∷ []) (layout.shape ∷ []) c.args.start.at c.args.visitor.now c.args.steps.now
      (replicate n c.args.start.holder) (replicate n (item_of layout.shape)) count.end c.visit_leaf.new.self c.tick.new.self) e
      (visits_leaf takes walk.classes.now walk.bytes.now walk.end c.args.start.holder (replicate items c.args.start.holder) layout.shape
      (replicate items (item_of layout.shape)) c.args.start.at count.end c.args.steps.now c.tick.new.self layout.shape.class (leaf_kinds.Count count.value) c.args.visitor.now c.visit_leaf.new.self
      (λ is us vs r. array_found walk.classes.now walk.bytes.now c.args.start.at walk.end layout.shape us c.args.start.holder is vs count layout.class_index items r c.requires.array
      c.known_integer-count.ensures.exact (λ o h. (c.requires.layout.of_class o h).class_index) c.items_to_walk-items.ensures)
      (subst (λ l. takes l c.args.visitor.now c.visit_leaf.new.self) c.leaf_to-leaf.ensures c.visit_leaf.ensures.takes) c.tick.ensures);
}

pub visit_array-visit_value-to-requires : goal.visit_array-visit_value-to-requires
visit_array-visit_value-to-requires g t c =
    let walk = c.args.walk.now in
    let layout = c.args.layout.now in
    let holder = c.args.start.holder in
    let items = c.items_to_walk-items.result in
    let admits = g.V.VisitLeaf.admits walk.with.now in
    let e = ap (λ (z : FieldLayout). z.shape) c.item_layout-item.ensures in
    let values : AreToVisit admits walk.classes.now walk.bytes.now walk.end (holder ∷ []) (c.item_layout-item.result.shape ∷ []) c.items.to =
    subst (λ s. AreToVisit admits walk.classes.now walk.bytes.now walk.end (holder ∷ []) (s ∷ []) c.items.to) (sym e)
    (next_to_visit (g.V.VisitLeaf.takes walk.with.now) walk.classes.now walk.bytes.now walk.end admits (holder ∷ []) (replicate (items - c.items.counter) holder)
    (replicate (items - (c.items.counter + 1)) holder) (layout.shape ∷ []) (replicate (items - c.items.counter) (item_of layout.shape))
    (replicate (items - (c.items.counter + 1)) (item_of layout.shape)) holder (item_of layout.shape) c.args.start.at c.items.to c.args.steps.now c.items.steps c.args.visitor.now c.items.visitor
    (item_next items c.items.counter holder c.items-test.true) (item_next items c.items.counter (item_of layout.shape) c.items-test.true) c.items.invariant.visited c.requires.values) in
    search (rules, values)

pub visit_array-items-preserved : goal.visit_array-items-preserved
visit_array-items-preserved g t c = record {
  ready = c.visit_value-to.ensures.ready;
  visited =
      let walk = c.args.walk.now in
      let layout = c.args.layout.now in
      let holder = c.args.start.holder in
      let items = c.items_to_walk-items.result in
      let takes = g.V.VisitLeaf.takes walk.with.now in
      let e = ap (λ (z : FieldLayout). z.shape) c.item_layout-item.ensures in
      visits_next takes walk.classes.now walk.bytes.now walk.end (holder ∷ []) (replicate (items - c.items.counter) holder) (replicate (items - (c.items.counter + 1)) holder) (layout.shape ∷ [])
      (replicate (items - c.items.counter) (item_of layout.shape)) (replicate (items - (c.items.counter + 1)) (item_of layout.shape)) holder
      (item_of layout.shape) c.args.start.at c.items.to c.visit_value-to.result c.args.steps.now c.items.steps c.visit_value-to.new.steps c.args.visitor.now c.items.visitor
      c.visit_value-to.new.visitor
      (item_next items c.items.counter holder c.items-test.true) (item_next items c.items.counter (item_of layout.shape) c.items-test.true) c.items.invariant.visited
      (subst (λ s. Visits takes walk.classes.now walk.bytes.now walk.end (holder ∷ []) (s ∷ []) c.items.to c.items.visitor c.items.steps []
      [] c.visit_value-to.result c.visit_value-to.new.visitor c.visit_value-to.new.steps) e c.visit_value-to.ensures.visited);
}

pub visit_array-returns-clause-visited : goal.visit_array-returns-clause-visited
visit_array-returns-clause-visited g t c =
    let walk = c.args.walk.now in
    let layout = c.args.layout.now in
    let holder = c.args.start.holder in
    let items = c.items_to_walk-items.result in
    visits_end (g.V.VisitLeaf.takes walk.with.now) walk.classes.now walk.bytes.now walk.end (holder ∷ []) (replicate (items - c.items.counter) holder) (layout.shape ∷ [])
    (replicate (items - c.items.counter) (item_of layout.shape)) c.args.start.at c.items.to c.args.steps.now c.items.steps c.args.visitor.now c.items.visitor
    (items_past items c.items.counter holder c.items-test.false) (items_past items c.items.counter (item_of layout.shape) c.items-test.false) c.items.invariant.visited

pub visit_value-overflow_sub-inner : goal.visit_value-overflow_sub-inner
visit_value-overflow_sub-inner g t c =
    let walk = c.args.walk.now in
    let layout = c.args.layout.now in
    let f = first_node (g.V.VisitLeaf.admits walk.with.now) walk.classes.now walk.bytes.now walk.end c.args.start.holder layout.shape c.args.start.at c.requires.values in
    let m = inline_there layout c.requires.layout.form forms.Fields c.in-Fields.is tt in
    let d = inline_node walk.classes.now walk.bytes.now c.args.start.at f.to walk.end layout.shape f.within walk.within f.value layout.class_index layout.kind layout.form f.node m.array m.constant
    c.requires.layout in
    (inner_depth walk.classes.now c.args.start.levels layout.shape d.class c.requires.depth m.constant d.found (sym d.kind_is ∙ fields_kind layout.kind m.form)).0

pub visit_value-visit_fields-requires : goal.visit_value-visit_fields-requires
visit_value-visit_fields-requires g t c =
    let walk = c.args.walk.now in
    let layout = c.args.layout.now in
    let admits = g.V.VisitLeaf.admits walk.with.now in
    let takes = g.V.VisitLeaf.takes walk.with.now in
    let f = first_node admits walk.classes.now walk.bytes.now walk.end c.args.start.holder layout.shape c.args.start.at c.requires.values in
    let m = inline_there layout c.requires.layout.form forms.Fields c.in-Fields.is tt in
    let d = inline_node walk.classes.now walk.bytes.now c.args.start.at f.to walk.end layout.shape f.within walk.within f.value layout.class_index layout.kind layout.form f.node m.array m.constant
    c.requires.layout in
    let e = fields_kind layout.kind m.form in
    let shapes = field_shapes walk.classes.now layout.class_index in
    let within : layout.class_index < length walk.classes.now = d.within in
    let depth : AllByRecursion (DepthBound walk.classes.now (c.args.start.levels - 1)) shapes = depth_within walk.classes.now walk.bytes.now c.args.start.at f.to walk.end layout.shape f.within
    walk.within layout.class_index layout.kind c.args.start.levels d e m.constant c.requires.depth in
    let values : AreToVisit admits walk.classes.now walk.bytes.now walk.end (fields_from layout.shape.class 0 shapes) shapes c.args.start.at =
    left_to_visit takes walk.classes.now walk.bytes.now walk.end admits (c.args.start.holder ∷ []) (fields_from layout.shape.class 0 shapes)
    (layout.shape ∷ []) shapes c.args.start.at c.args.start.at c.args.steps.now c.args.steps.now c.args.visitor.now c.args.visitor.now
    (visits_fields takes walk.classes.now walk.bytes.now walk.end c.args.start.holder layout.shape d.class layout.class_index c.args.start.at c.args.steps.now c.args.visitor.now m.array m.constant
    d.found d.there (sym d.kind_is ∙ e)) c.requires.values in
    search (rules, within, depth, values)

pub visit_value-returns-in-Fields-clause-visited : goal.visit_value-returns-in-Fields-clause-visited
visit_value-returns-in-Fields-clause-visited g t c =
    let walk = c.args.walk.now in
    let layout = c.args.layout.now in
    let takes = g.V.VisitLeaf.takes walk.with.now in
    let f = first_node (g.V.VisitLeaf.admits walk.with.now) walk.classes.now walk.bytes.now walk.end c.args.start.holder layout.shape c.args.start.at c.requires.values in
    let m = inline_there layout c.requires.layout.form forms.Fields c.in-Fields.is tt in
    let d = inline_node walk.classes.now walk.bytes.now c.args.start.at f.to walk.end layout.shape f.within walk.within f.value layout.class_index layout.kind layout.form f.node m.array m.constant
    c.requires.layout in
    let shapes = field_shapes walk.classes.now layout.class_index in
    visits_then takes walk.classes.now walk.bytes.now walk.end (c.args.start.holder ∷ []) (fields_from layout.shape.class 0 shapes) [] (layout.shape ∷ []) shapes
    [] c.args.start.at c.args.start.at c.visit_fields.result c.args.steps.now c.args.steps.now c.visit_fields.new.steps c.args.visitor.now c.args.visitor.now c.visit_fields.new.visitor
    (visits_fields takes walk.classes.now walk.bytes.now walk.end c.args.start.holder layout.shape d.class layout.class_index c.args.start.at c.args.steps.now c.args.visitor.now m.array m.constant
    d.found d.there (sym d.kind_is ∙ fields_kind layout.kind m.form))
    c.visit_fields.ensures.visited

pub visit_each-loop-field-init : goal.visit_each-loop-field-init
visit_each-loop-field-init g t c = record {
  ready = c.requires.ready;
  visited =
      let walk = c.args.walk.now in
      let shapes = shapes_of_layouts c.args.next.layouts.now in
      let e : c.args.next.number ≡ c.args.next.number + 0 = omega arith in
      subst (λ n. Visits (g.V.VisitLeaf.takes walk.with.now) walk.classes.now walk.bytes.now walk.end
      (fields_from c.args.next.class c.args.next.number shapes) shapes c.args.next.at c.args.visitor.now c.args.steps.now
      (fields_from c.args.next.class n shapes) shapes c.args.next.at c.args.visitor.now c.args.steps.now) e
      (visits_none (g.V.VisitLeaf.takes walk.with.now) walk.classes.now walk.bytes.now walk.end (fields_from c.args.next.class c.args.next.number shapes) shapes c.args.next.at c.args.steps.now
      c.args.visitor.now);
}

pub visit_each-visit_value-to-requires : goal.visit_each-visit_value-to-requires
visit_each-visit_value-to-requires g t c =
    let walk = c.args.walk.now in
    let next = c.args.next in
    let number = c.loop-field.field in
    let shapes = shapes_of_layouts next.layouts.now in
    let layout = get_or next.layouts.now number no_layout in
    let admits = g.V.VisitLeaf.admits walk.with.now in
    let holder : Option Holder = Some (record { class = next.class; field = next.number + number }) in
    let n = layout_next next.layouts.now next.class next.number number c.loop-field-test.true in
    let known : IsLayoutIfKnown walk.classes.now layout =
    (let s = layouts_at walk.classes.now next.layouts.now number c.requires.layouts c.loop-field-test.true in record { form = s.form; of_class = λ o h. s }) in
    let depth : DepthBound walk.classes.now next.levels layout.shape = shape_there (DepthBound walk.classes.now next.levels) next.layouts.now number c.requires.depth c.loop-field-test.true in
    let values : AreToVisit admits walk.classes.now walk.bytes.now walk.end (holder ∷ []) (layout.shape ∷ []) c.loop-field.to =
    next_to_visit (g.V.VisitLeaf.takes walk.with.now) walk.classes.now walk.bytes.now walk.end admits (fields_from next.class next.number shapes)
    (fields_from next.class (next.number + number) (shapes_of_layouts (drop number next.layouts.now)))
    (fields_from next.class (next.number + (number + 1)) (shapes_of_layouts (drop (number + 1) next.layouts.now))) shapes (shapes_of_layouts (drop number next.layouts.now))
    (shapes_of_layouts (drop (number + 1) next.layouts.now)) holder layout.shape next.at c.loop-field.to c.args.steps.now c.loop-field.steps c.args.visitor.now c.loop-field.visitor
    n.1 n.0 c.loop-field.invariant.visited c.requires.values in
    search (rules, values, known, depth)

pub visit_each-loop-field-preserved : goal.visit_each-loop-field-preserved
visit_each-loop-field-preserved g t c = record {
  ready = c.visit_value-to.ensures.ready;
  visited =
      let walk = c.args.walk.now in
      let next = c.args.next in
      let number = c.loop-field.field in
      let shapes = shapes_of_layouts next.layouts.now in
      let layout = get_or next.layouts.now number no_layout in
      let n = layout_next next.layouts.now next.class next.number number c.loop-field-test.true in
      visits_next (g.V.VisitLeaf.takes walk.with.now) walk.classes.now walk.bytes.now walk.end (fields_from next.class next.number shapes)
      (fields_from next.class (next.number + number) (shapes_of_layouts (drop number next.layouts.now)))
      (fields_from next.class (next.number + (number + 1)) (shapes_of_layouts (drop (number + 1) next.layouts.now))) shapes (shapes_of_layouts (drop number next.layouts.now))
      (shapes_of_layouts (drop (number + 1) next.layouts.now)) (Some (record { class = next.class; field = next.number + number })) layout.shape next.at c.loop-field.to c.visit_value-to.result
      c.args.steps.now c.loop-field.steps c.visit_value-to.new.steps c.args.visitor.now c.loop-field.visitor c.visit_value-to.new.visitor
      n.1 n.0 c.loop-field.invariant.visited
      (subst (λ (z : ValueStart). Visits (g.V.VisitLeaf.takes walk.with.now) walk.classes.now walk.bytes.now walk.end (z.holder ∷ []) (layout.shape ∷ []) z.at c.loop-field.visitor c.loop-field.steps
      [] [] c.visit_value-to.result c.visit_value-to.new.visitor c.visit_value-to.new.steps) c.value-start.ensures c.visit_value-to.ensures.visited);
}

pub visit_each-returns-clause-visited : goal.visit_each-returns-clause-visited
visit_each-returns-clause-visited g t c =
    let walk = c.args.walk.now in
    let next = c.args.next in
    let number = c.loop-field.field in
    let shapes = shapes_of_layouts next.layouts.now in
    let e : shapes_of_layouts (drop number next.layouts.now) ≡ [] = ap shapes_of_layouts (drop_all number next.layouts.now c.loop-field-test.false) in
    visits_end (g.V.VisitLeaf.takes walk.with.now) walk.classes.now walk.bytes.now walk.end (fields_from next.class next.number shapes)
    (fields_from next.class (next.number + number) (shapes_of_layouts (drop number next.layouts.now))) shapes
    (shapes_of_layouts (drop number next.layouts.now)) next.at c.loop-field.to c.args.steps.now c.loop-field.steps c.args.visitor.now c.loop-field.visitor
    (ap (fields_from next.class (next.number + number)) e) e c.loop-field.invariant.visited

pub visit_fused-returns-in-Some-clause-visited : goal.visit_fused-returns-in-Some-clause-visited
visit_fused-returns-in-Some-clause-visited g t c =
    let walk = c.args.walk.now in
    let next = c.args.next in
    let numbers : AreNumbers next.layouts.now = c.numbers_end.ensures.numbers next.layouts.now c.requires.fused (subst IsSome (sym c.in-Some.is) refl) in
    let ends : Ok c.in-Some.to ≡ end_or_flaw (run (values_format (0 + 1) walk.classes.now next.layouts.now) walk.bytes.now walk.end next.at) =
    rw c.in-Some.is at c.numbers_end.ensures.exact walk.classes.now 0 next.layouts.now c.requires.layouts c.requires.fused in
    subst (λ n. Visits (g.V.VisitLeaf.takes walk.with.now) walk.classes.now walk.bytes.now walk.end (fields_from next.class next.number (shapes_of_layouts next.layouts.now))
    (shapes_of_layouts next.layouts.now) next.at c.args.visitor.now c.args.steps.now [] [] c.in-Some.to c.args.visitor.now n) (sym c.take.ensures)
    (numbers_visited (g.V.VisitLeaf.takes walk.with.now) (g.V.VisitLeaf.admits walk.with.now) (λ visitor at. g.V.VisitLeaf.ready visitor walk.with.now at) walk.classes.now 0 walk.bytes.now walk.end
    (c.passes_numbers.ensures.same walk.with.now) (c.passes_numbers.ensures.ready walk.with.now) next.layouts.now next.class next.number next.at c.in-Some.to c.args.steps.now c.args.visitor.now
    c.requires.layouts numbers ends c.requires.values c.requires.ready)

pub visit_prelude-visit_key-threads-requires-clause-values : goal.visit_prelude-visit_key-threads-requires-clause-values
visit_prelude-visit_key-threads-requires-clause-values g t c =
    let walk = c.args.walk.now in
    let next = c.args.next in
    let takes = g.V.VisitLeaf.takes walk.with.now in
    let admits = g.V.VisitLeaf.admits walk.with.now in
    let ends : Ok c.in-Ok.times ≡ end_or_flaw (run (times 2 integer) walk.bytes.now walk.end next.at) = sym c.in-Ok.is ∙ c.integers_end.ensures.exact in
    subst (λ (z : ValueStart). AreToVisit admits walk.classes.now walk.bytes.now walk.end (z.holder ∷ []) ((get_or next.layouts.now 2 no_layout).shape ∷ []) z.at) (sym c.value-thread.ensures)
    (thread_to_visit walk.classes.now next.layouts.now _ _ c.requires.prelude.2 takes admits walk.bytes.now walk.end next.class next.number next.at c.args.steps.now c.args.visitor.now
    (λ visitor at. g.V.VisitLeaf.ready visitor walk.with.now at) (c.passes_numbers.ensures.same walk.with.now)
    (c.passes_numbers.ensures.ready walk.with.now) c.requires.ready c.requires.values c.requires.layouts c.in-Ok.times ends)

pub visit_prelude-visit_key-requires-clause-values : goal.visit_prelude-visit_key-requires-clause-values
visit_prelude-visit_key-requires-clause-values g t c =
    let walk = c.args.walk.now in
    let next = c.args.next in
    let takes = g.V.VisitLeaf.takes walk.with.now in
    let admits = g.V.VisitLeaf.admits walk.with.now in
    let ends : Ok c.in-Ok.times ≡ end_or_flaw (run (times 2 integer) walk.bytes.now walk.end next.at) = sym c.in-Ok.is ∙ c.integers_end.ensures.exact in
    let first : Visits takes walk.classes.now walk.bytes.now walk.end (Some (record { class = next.class; field = next.number + 2 }) ∷ [])
    ((get_or next.layouts.now 2 no_layout).shape ∷ []) c.in-Ok.times c.args.visitor.now (c.args.steps.now + 2) []
    [] c.visit_key-threads.result c.visit_key-threads.new.visitor c.visit_key-threads.new.steps =
    subst (λ n. Visits takes walk.classes.now walk.bytes.now walk.end (Some (record { class = next.class; field = next.number + 2 }) ∷ [])
    ((get_or next.layouts.now 2 no_layout).shape ∷ []) c.in-Ok.times c.args.visitor.now n [] [] c.visit_key-threads.result c.visit_key-threads.new.visitor c.visit_key-threads.new.steps)
    c.take.ensures
    (subst (λ (z : ValueStart). Visits takes walk.classes.now walk.bytes.now walk.end (z.holder ∷ []) ((get_or next.layouts.now 2 no_layout).shape ∷ []) z.at c.args.visitor.now c.take.new.self []
    [] c.visit_key-threads.result c.visit_key-threads.new.visitor c.visit_key-threads.new.steps) c.value-thread.ensures c.visit_key-threads.ensures.visited) in
    subst (λ (z : ValueStart). AreToVisit admits walk.classes.now walk.bytes.now walk.end (z.holder ∷ []) ((get_or next.layouts.now 3 no_layout).shape ∷ []) z.at) (sym c.value-trace.ensures)
    (trace_to_visit walk.classes.now next.layouts.now _ _ c.requires.prelude.2 takes admits walk.bytes.now walk.end next.class next.number next.at c.args.steps.now c.args.visitor.now
    (λ visitor at. g.V.VisitLeaf.ready visitor walk.with.now at) (c.passes_numbers.ensures.same walk.with.now)
    (c.passes_numbers.ensures.ready walk.with.now) c.requires.ready c.requires.values c.requires.layouts c.in-Ok.times ends c.visit_key-threads.result c.visit_key-threads.new.steps
    c.visit_key-threads.new.visitor first)

pub visit_prelude-returns-in-Ok-clause-visited : goal.visit_prelude-returns-in-Ok-clause-visited
visit_prelude-returns-in-Ok-clause-visited g t c =
    let walk = c.args.walk.now in
    let next = c.args.next in
    let takes = g.V.VisitLeaf.takes walk.with.now in
    let admits = g.V.VisitLeaf.admits walk.with.now in
    let ends : Ok c.in-Ok.times ≡ end_or_flaw (run (times 2 integer) walk.bytes.now walk.end next.at) = sym c.in-Ok.is ∙ c.integers_end.ensures.exact in
    let first : Visits takes walk.classes.now walk.bytes.now walk.end (Some (record { class = next.class; field = next.number + 2 }) ∷ [])
    ((get_or next.layouts.now 2 no_layout).shape ∷ []) c.in-Ok.times c.args.visitor.now (c.args.steps.now + 2) []
    [] c.visit_key-threads.result c.visit_key-threads.new.visitor c.visit_key-threads.new.steps =
    subst (λ n. Visits takes walk.classes.now walk.bytes.now walk.end (Some (record { class = next.class; field = next.number + 2 }) ∷ [])
    ((get_or next.layouts.now 2 no_layout).shape ∷ []) c.in-Ok.times c.args.visitor.now n [] [] c.visit_key-threads.result c.visit_key-threads.new.visitor c.visit_key-threads.new.steps)
    c.take.ensures
    (subst (λ (z : ValueStart). Visits takes walk.classes.now walk.bytes.now walk.end (z.holder ∷ []) ((get_or next.layouts.now 2 no_layout).shape ∷ []) z.at c.args.visitor.now c.take.new.self []
    [] c.visit_key-threads.result c.visit_key-threads.new.visitor c.visit_key-threads.new.steps) c.value-thread.ensures c.visit_key-threads.ensures.visited) in
    prelude_visited walk.classes.now next.layouts.now _ _ c.requires.prelude.2 takes admits walk.bytes.now walk.end next.class next.number next.at c.args.steps.now c.args.visitor.now
    (λ visitor at. g.V.VisitLeaf.ready visitor walk.with.now at) (c.passes_numbers.ensures.same walk.with.now)
    (c.passes_numbers.ensures.ready walk.with.now) c.requires.ready c.requires.values c.requires.layouts c.in-Ok.times ends c.visit_key-threads.result c.visit_key-threads.new.steps
    c.visit_key-threads.new.visitor first c.visit_key.result c.visit_key.new.steps c.visit_key.new.visitor
    (subst (λ (z : ValueStart). Visits takes walk.classes.now walk.bytes.now walk.end (z.holder ∷ [])
    ((get_or next.layouts.now 3 no_layout).shape ∷ []) z.at c.visit_key-threads.new.visitor c.visit_key-threads.new.steps [] [] c.visit_key.result c.visit_key.new.visitor c.visit_key.new.steps)
    c.value-trace.ensures c.visit_key.ensures.visited)

pub visit_fields-loop-fused-init : goal.visit_fields-loop-fused-init
visit_fields-loop-fused-init g t c = record {
  ready = c.requires.ready;
  counted =
      let row = c.class_layout-class_layout.result.now in
      let f = row_fused c.args.walk.now.classes.now c.args.class.index row c.requires.placed c.class_layout-class_layout.ensures in
      (let e = ap length f.all in omega arith);
  visited =
      let walk = c.args.walk.now in
      let row = c.class_layout-class_layout.result.now in
      let f = row_fused walk.classes.now c.args.class.index row c.requires.placed c.class_layout-class_layout.ensures in
      let shapes = field_shapes walk.classes.now c.args.class.index in
      let e : shapes ≡ shapes_of_layouts (left_by row.layouts.items row.fused_fields.items 0) =
      row_shapes walk.classes.now c.args.class.index row c.requires.placed c.class_layout-class_layout.ensures ∙ ap shapes_of_layouts (sym f.all) in
      subst (λ z. Visits (g.V.VisitLeaf.takes walk.with.now) walk.classes.now walk.bytes.now walk.end (fields_from c.args.class.id 0 shapes) shapes c.args.start.at c.args.visitor.now c.args.steps.now
      (fields_from c.args.class.id 0 z) z c.args.start.at c.args.visitor.now c.args.steps.now) e
      (visits_none (g.V.VisitLeaf.takes walk.with.now) walk.classes.now walk.bytes.now walk.end (fields_from c.args.class.id 0 shapes) shapes c.args.start.at c.args.steps.now c.args.visitor.now);
}

pub visit_fields-fused_layouts-requires : goal.visit_fields-fused_layouts-requires
visit_fields-fused_layouts-requires g t c =
    (next_fused c.args.walk.now.classes.now c.args.class.index c.class_layout-class_layout.result.now c.deref-fused-items.result.now c.loop-fused.fused-index _ _
    (DepthBound c.args.walk.now.classes.now c.args.start.levels) c.requires.placed c.class_layout-class_layout.ensures c.requires.depth c.deref-fused-items.ensures.value c.loop-fused-test.true
    refl).fused

pub visit_fields-overflow_add-number : goal.visit_fields-overflow_add-number
visit_fields-overflow_add-number g t c =
    let row = c.class_layout-class_layout.result.now in
    let passed = c.fused_layouts.result.now in
    let n = next_fused c.args.walk.now.classes.now c.args.class.index c.class_layout-class_layout.result.now c.deref-fused-items.result.now c.loop-fused.fused-index _ passed
    (DepthBound c.args.walk.now.classes.now c.args.start.levels) c.requires.placed c.class_layout-class_layout.ensures c.requires.depth c.deref-fused-items.ensures.value c.loop-fused-test.true
    c.fused_layouts.ensures.exact in
    let x = c.loop-fused.invariant.counted in
    let y = ap length n.left in
    let z = length-append passed (left_by row.layouts.items row.fused_fields.items (c.loop-fused.fused-index + 1)) in
    omega (arith, n.count, c.fused_layouts.ensures.few)

pub visit_fields-visit_fused-to-requires : goal.visit_fields-visit_fused-to-requires
visit_fields-visit_fused-to-requires g t c =
    let walk = c.args.walk.now in
    let row = c.class_layout-class_layout.result.now in
    let passed = c.fused_layouts.result.now in
    let admits = g.V.VisitLeaf.admits walk.with.now in
    let class = c.args.class.id in
    let shapes = field_shapes walk.classes.now c.args.class.index in
    let left = left_by row.layouts.items row.fused_fields.items c.loop-fused.fused-index in
    let rest = left_by row.layouts.items row.fused_fields.items (c.loop-fused.fused-index + 1) in
    let n = next_fused c.args.walk.now.classes.now c.args.class.index c.class_layout-class_layout.result.now c.deref-fused-items.result.now c.loop-fused.fused-index _ passed
    (DepthBound c.args.walk.now.classes.now c.args.start.levels) c.requires.placed c.class_layout-class_layout.ensures c.requires.depth c.deref-fused-items.ensures.value c.loop-fused-test.true
    c.fused_layouts.ensures.exact in
    let each : AllByRecursion (IsFieldLayout walk.classes.now) passed = n.each in
    let few : c.loop-fused.number + length passed < 2 ^ 64 =
    (let x = c.loop-fused.invariant.counted in let y = ap length n.left in let z = length-append passed rest in omega (arith, c.fused_layouts.ensures.few)) in
    let passes = n.passes in
    let depth : AllByRecursion (DepthBound walk.classes.now c.args.start.levels) (shapes_of_layouts passed) = n.shapes in
    let values : AreToVisit admits walk.classes.now walk.bytes.now walk.end (fields_from class c.loop-fused.number (shapes_of_layouts passed)) (shapes_of_layouts passed) c.loop-fused.to =
    fused_to_visit walk.classes.now walk.bytes.now walk.end class c.loop-fused.number left passed rest _ n.left n.count admits c.loop-fused.to
    (left_to_visit (g.V.VisitLeaf.takes walk.with.now) walk.classes.now walk.bytes.now walk.end admits (fields_from class 0 shapes)
    (fields_from class c.loop-fused.number (shapes_of_layouts left)) shapes (shapes_of_layouts left) c.args.start.at c.loop-fused.to c.args.steps.now c.loop-fused.steps c.args.visitor.now
    c.loop-fused.visitor c.loop-fused.invariant.visited c.requires.values) in
    search (rules, each, few, passes, depth, values)

pub visit_fields-loop-fused-preserved : goal.visit_fields-loop-fused-preserved
visit_fields-loop-fused-preserved g t c =
    let walk = c.args.walk.now in
    let row = c.class_layout-class_layout.result.now in
    let passed = c.fused_layouts.result.now in
    let class = c.args.class.id in
    let shapes = field_shapes walk.classes.now c.args.class.index in
    let left = left_by row.layouts.items row.fused_fields.items c.loop-fused.fused-index in
    let rest = left_by row.layouts.items row.fused_fields.items (c.loop-fused.fused-index + 1) in
    let n = next_fused c.args.walk.now.classes.now c.args.class.index c.class_layout-class_layout.result.now c.deref-fused-items.result.now c.loop-fused.fused-index _ passed
    (DepthBound c.args.walk.now.classes.now c.args.start.levels) c.requires.placed c.class_layout-class_layout.ensures c.requires.depth c.deref-fused-items.ensures.value c.loop-fused-test.true
    c.fused_layouts.ensures.exact in
    record {
      ready = c.visit_fused-to.ensures.ready;
      counted = (let x = c.loop-fused.invariant.counted in let y = ap length n.left in let z = length-append passed rest in omega (arith, n.count));
      visited = fused_visited walk.classes.now walk.bytes.now walk.end class c.loop-fused.number left passed rest _ n.left n.count (g.V.VisitLeaf.takes walk.with.now)
          (fields_from class 0 shapes) shapes c.args.start.at c.loop-fused.to c.visit_fused-to.result c.args.steps.now c.loop-fused.steps c.visit_fused-to.new.steps c.args.visitor.now
          c.loop-fused.visitor c.visit_fused-to.new.visitor c.loop-fused.invariant.visited c.visit_fused-to.ensures.visited;
    }

pub visit_fields-returns-clause-visited : goal.visit_fields-returns-clause-visited
visit_fields-returns-clause-visited g t c =
    let walk = c.args.walk.now in
    let class = c.args.class.id in
    let row = c.class_layout-class_layout.result.now in
    let shapes = field_shapes walk.classes.now c.args.class.index in
    let left = left_by row.layouts.items row.fused_fields.items c.loop-fused.fused-index in
    let e : shapes_of_layouts left ≡ [] = ap shapes_of_layouts
    (left_none row.layouts.items row.fused_fields.items walk.classes.now 0 walk.bytes.now walk.end c.loop-fused.fused-index (rw c.deref-fused-items.ensures.value at c.loop-fused-test.false)) in
    visits_end (g.V.VisitLeaf.takes walk.with.now) walk.classes.now walk.bytes.now walk.end (fields_from class 0 shapes) (fields_from class c.loop-fused.number (shapes_of_layouts left)) shapes
    (shapes_of_layouts left) c.args.start.at c.loop-fused.to c.args.steps.now c.loop-fused.steps c.args.visitor.now c.loop-fused.visitor
    (ap (fields_from class c.loop-fused.number) e) e c.loop-fused.invariant.visited
