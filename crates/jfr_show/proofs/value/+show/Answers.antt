-- How each part of a value is shown.
use Rattle.std.proofs.Common.{rules, ◌≡◌, ℕ, suc, ◌+◌, ◌-◌, ◌≤◌, ◌<◌, ◌++◌, [], length, false, IsSome, IfSome, OnOk, slice_get, ap, arith, sym, ◌∙◌, subst, get_or, Some}
use Rattle.std.specs.Prelude.{drop}
use Rattle.std.specs.List.{AllByRecursion}
use Rattle.std.specs.Option.{option_map}
use Rattle.std.specs.Str.{chars}
use Rattle.jfr_layout.specs.declared.form.Form.TheVariants as forms
use Rattle.jfr_layout.specs.declared.shape.Shape.{Shape}
use Rattle.jfr_layout.specs.declared.field_layout.FieldLayout.{FieldLayout}
use Rattle.jfr_layout.specs.Classes.{Class, AreFieldLayouts, Sound, find_class, item_of}
use Rattle.jfr_value.specs.Nodes.{EndsAt, IsNode, AreValues, node_at, node_of}
use Rattle.jfr_value.specs.Values.{Values}
use Rattle.jfr_value.specs.Visits.{field_shapes}
use Rattle.jfr_value.specs.Walks.{IsLayoutIfKnown, DepthBound}
use Rattle.jfr_value.proofs.VisitLaws.{field_next, item_next, items_past, fields_past, bound_of_first}
use Rattle.jfr_value.proofs.LayoutLaws.{few_fields, field_of, no_layout}
use Rattle.jfr_value.proofs.DepthLaws.{sound_inline}
use Rattle.jfr_pool.specs.Entries.{in_force}
use Rattle.jfr_show.specs.declared.depth.Depth.{Depth}
use Rattle.jfr_show.specs.Depths.{deepest}
use Rattle.jfr_show.specs.Shown.{node_shown, referred, shown, shown_all}
use Rattle.jfr_show.specs.Texts.{indent}
use Rattle.jfr_show.proofs.LayoutForms.{composite_depth, integer_stands, key_stands, text_stands, array_stands, is_composite, is_array, item_known}
use Rattle.jfr_show.proofs.ShownLaws.{integer_shown, raw_shown, reference_shown, key_shown, string_shown, composite_shown, array_shown}
use Rattle.jfr_show.proofs.ReferLaws.{by_answer, no_entry, entry_found, refer_missing, refer_name, refer_value, node_is}
use Rattle.jfr_show.proofs.LineLaws.{onto_items, onto_fields, item_line, field_line, no_items, no_fields, fields_from, items_close, fields_close}
use Rattle.jfr_show.proofs.LeftLaws.{left_there, left_goes, left_ends}
use Rattle.jfr_show.proofs.value.+show.Goals as goal

pub show_fields-show_value-requires : goal.show_fields-show_value-requires
show_fields-show_value-requires t c =
    let same : c.classes-classes.result.now ≡ c.args.view.now.chunk.now.classes = c.classes-classes.ensures in
    let there : slice_get c.args.view.now.chunk.now.classes c.args.class_index ≡ Some c.class_at-info.result.now = ap (λ z. slice_get z c.args.class_index) (sym same) ∙ c.class_at-info.ensures in
    let layouts : IfSome (slice_get c.args.view.now.chunk.now.classes c.args.class_index) (λ d. AreFieldLayouts c.args.view.now.chunk.now.classes d.fields c.layouts-layout-items.result.now) =
    subst (λ z. IfSome (slice_get z c.args.class_index) (λ d. AreFieldLayouts z d.fields c.layouts-layout-items.result.now)) same c.layouts-layout-items.ensures.exact in
    let layout = get_or c.layouts-layout-items.result.now c.loop-layout.layout-index no_layout in
    let f = field_of c.args.view.now.chunk.now.classes c.args.class_index c.loop-layout.layout-index c.layouts-layout-items.result.now c.requires.placed layouts c.loop-layout-test.true in
    let x = field_next c.args.view.now.chunk.now.classes c.args.class_index c.loop-layout.layout-index f.field layout.shape f.there f.shape in
    let references : c.of_fields-inner.result.reach.references ≡ c.args.view.now.depth.reach.references = ap (λ (z : Depth). z.reach.references) c.of_fields-inner.ensures in
    let composites : c.of_fields-inner.result.reach.composites ≡ c.args.view.now.depth.reach.composites - 1 = ap (λ (z : Depth). z.reach.composites) c.of_fields-inner.ensures in
    let deeper : c.of_fields-inner.result.level ≡ c.args.view.now.depth.level + 1 = ap (λ (z : Depth). z.level) c.of_fields-inner.ensures in
    let r = c.requires.valid in
    let h = left_there c.args.view.now.chunk.now.classes c.args.view.now.chunk.now.bytes r.0 _ _ layout.shape _ _ c.loop-layout.to c.loop-layout.out
    (c.loop-layout.invariant.left r.0 r.1 c.class_at-info.result.now r.2 there) x in
    let holds : (to : ℕ) × EndsAt c.args.view.now.chunk.now.classes c.args.view.now.chunk.now.bytes layout.shape c.loop-layout.to to = (h.place, (h.value, h.node)) in
    let known : IsLayoutIfKnown c.args.view.now.chunk.now.classes layout = (let s = f.of_class in record { form = s.form; of_class = λ o h. s }) in
    let depth : DepthBound c.args.view.now.chunk.now.classes c.of_fields-inner.result.reach.composites layout.shape = subst (λ z. DepthBound c.args.view.now.chunk.now.classes z layout.shape)
    (sym composites) (bound_of_first (DepthBound c.args.view.now.chunk.now.classes (c.args.view.now.depth.reach.composites - 1))
    (field_shapes c.args.view.now.chunk.now.classes c.args.class_index) c.loop-layout.layout-index layout.shape _ c.requires.depth x) in
    let cached = c.loop-layout.invariant.cached in
    search (rules, cached, holds, known, depth, references, composites, deeper)

pub show_fields-loop-layout-preserved : goal.show_fields-loop-layout-preserved
show_fields-loop-layout-preserved t c =
    let deep = c.of_fields-inner.ensures in
    let deeper : c.of_fields-inner.result.level ≡ c.args.view.now.depth.level + 1 = ap (λ (z : Depth). z.level) c.of_fields-inner.ensures in
    let same : c.classes-classes.result.now ≡ c.args.view.now.chunk.now.classes = c.classes-classes.ensures in
    let there : slice_get c.args.view.now.chunk.now.classes c.args.class_index ≡ Some c.class_at-info.result.now = ap (λ z. slice_get z c.args.class_index) (sym same) ∙ c.class_at-info.ensures in
    let layouts : IfSome (slice_get c.args.view.now.chunk.now.classes c.args.class_index) (λ d. AreFieldLayouts c.args.view.now.chunk.now.classes d.fields c.layouts-layout-items.result.now) =
    subst (λ z. IfSome (slice_get z c.args.class_index) (λ d. AreFieldLayouts z d.fields c.layouts-layout-items.result.now)) same c.layouts-layout-items.ensures.exact in
    let layout = get_or c.layouts-layout-items.result.now c.loop-layout.layout-index no_layout in
    let f = field_of c.args.view.now.chunk.now.classes c.args.class_index c.loop-layout.layout-index c.layouts-layout-items.result.now c.requires.placed layouts c.loop-layout-test.true in
    let x = field_next c.args.view.now.chunk.now.classes c.args.class_index c.loop-layout.layout-index f.field layout.shape f.there f.shape in
    record {
      cached = c.in_ok-to.ensures.cached;
      number = ap (λ z. z + 1) c.loop-layout.invariant.number;
      left = λ to vs class r q.
          let own : c.class_at-info.result.now ≡ class = (let z : Some c.class_at-info.result.now ≡ Some class = sym there ∙ q in cc) in
          let got : slice_get class.fields c.loop-layout.layout-index ≡ Some c.at.result.now =
          ap (λ z. slice_get class.fields z) (sym c.loop-layout.invariant.number) ∙ (ap (λ (z : Class). slice_get z.fields c.loop-layout.number) (sym own) ∙ c.at.ensures) in
          let rest = fields_from class.fields c.loop-layout.layout-index c.at.result.now got in
          left_goes c.args.view.now.chunk.now.classes c.args.view.now.chunk.now.bytes to _
          (onto_fields c.args.view.now.chunk.now.classes (referred c.args.view.now.chunk.now c.args.view.now.depth.reach.references) (c.args.view.now.depth.level + 1)
          (drop c.loop-layout.layout-index class.fields))
          (onto_fields c.args.view.now.chunk.now.classes (referred c.args.view.now.chunk.now c.args.view.now.depth.reach.references) (c.args.view.now.depth.level + 1)
          (drop (c.loop-layout.layout-index + 1) class.fields)) layout.shape _ _ c.loop-layout.to c.loop-layout.out c.in_ok-to.to c.push_ascii-in-loop-layout-2.new.self
          (c.loop-layout.invariant.left to vs class r q) x
          (λ p v n. let h = c.in_ok-to.ensures.ok p v n in (
            h.0,
            λ ws. field_line c.args.view.now.chunk.now.classes (referred c.args.view.now.chunk.now c.args.view.now.depth.reach.references) (c.args.view.now.depth.level + 1) _ _ c.at.result.now
                (chars c.as_str-in-loop-layout.result.now) c.loop-layout.out c.push_indent.new.self c.push_str-in-loop-layout.new.self c.push_ascii-in-loop-layout.new.self c.show_value.new.out
                c.push_ascii-in-loop-layout-2.new.self v ws
                rest c.as_str-in-loop-layout.ensures (c.in_ok-push_indent.ensures.ok ∙ ap (λ z. c.loop-layout.out ++ indent z) deeper) c.in_ok-push_str-2.ensures.ok c.in_ok-push_ascii-2.ensures.ok
                (h.1 ∙ ap (λ (z : Depth). c.push_ascii-in-loop-layout.new.self ++ shown c.args.view.now.chunk.now.classes (referred c.args.view.now.chunk.now z.reach.references) z.level v) deep)
                c.in_ok-push_ascii-3.ensures.ok,
          ));
    }

pub show_fields-returns : goal.show_fields-returns
show_fields-returns t c =
    let same : c.classes-classes.result.now ≡ c.args.view.now.chunk.now.classes = c.classes-classes.ensures in
    let there : slice_get c.args.view.now.chunk.now.classes c.args.class_index ≡ Some c.class_at-info.result.now = ap (λ z. slice_get z c.args.class_index) (sym same) ∙ c.class_at-info.ensures in
    let layouts : IfSome (slice_get c.args.view.now.chunk.now.classes c.args.class_index) (λ d. AreFieldLayouts c.args.view.now.chunk.now.classes d.fields c.layouts-layout-items.result.now) =
    subst (λ z. IfSome (slice_get z c.args.class_index) (λ d. AreFieldLayouts z d.fields c.layouts-layout-items.result.now)) same c.layouts-layout-items.ensures.exact in
    record {
      cached = c.loop-layout.invariant.cached;
      ok = λ to vs class r q.
          let own : c.class_at-info.result.now ≡ class = (let z : Some c.class_at-info.result.now ≡ Some class = sym there ∙ q in cc) in
          let past = fields_past c.args.view.now.chunk.now.classes c.args.class_index c.loop-layout.layout-index c.requires.placed
          (few_fields c.args.view.now.chunk.now.classes c.args.class_index c.loop-layout.layout-index c.layouts-layout-items.result.now c.requires.placed layouts c.loop-layout-test.false) in
          let e = left_ends c.args.view.now.chunk.now.classes c.args.view.now.chunk.now.bytes to _
          (onto_fields c.args.view.now.chunk.now.classes (referred c.args.view.now.chunk.now c.args.view.now.depth.reach.references) (c.args.view.now.depth.level + 1)
          (drop c.loop-layout.layout-index class.fields)) _ c.loop-layout.to c.loop-layout.out (c.loop-layout.invariant.left to vs class r q) past
          (no_fields c.args.view.now.chunk.now.classes (referred c.args.view.now.chunk.now c.args.view.now.depth.reach.references) (c.args.view.now.depth.level + 1)
          (drop c.loop-layout.layout-index class.fields) c.loop-layout.out) in
          let name : c.push_str.new.self ≡ c.args.out.now ++ class.name =
          c.in_ok-push_str.ensures.ok ∙ (ap (λ z. c.args.out.now ++ z) c.as_str.ensures ∙ ap (λ (z : Class). c.args.out.now ++ z.name) own) in (
            e.0,
            fields_close c.args.view.now.depth.level class
                (shown_all c.args.view.now.chunk.now.classes (referred c.args.view.now.chunk.now c.args.view.now.depth.reach.references) (c.args.view.now.depth.level + 1) vs) c.args.out.now
                c.push_str.new.self c.push_ascii.new.self c.loop-layout.out c.push_indent-2.new.self c.push_ascii-2.new.self name c.in_ok-push_ascii.ensures.ok e.1 c.in_ok-push_indent-2.ensures.ok
                c.in_ok-push_ascii-4.ensures.ok,
          );
    }

pub show_items-integer_at-count-requires-clause-holds : goal.show_items-integer_at-count-requires-clause-holds
show_items-integer_at-count-requires-clause-holds t c =
    let r = c.requires.holds in
    array_stands c.args.view.now.chunk.now.classes c.args.view.now.chunk.now.bytes c.args.at r.0 c.args.layout.now c.requires.layout r.1.0 r.1.1 c.requires.array

pub show_items-show_value-requires : goal.show_items-show_value-requires
show_items-show_value-requires t c =
    let flat : c.item_layout-item.result.shape ≡ item_of c.args.layout.now.shape = ap (λ (z : FieldLayout). z.shape) c.item_layout-item.ensures in
    let next = item_next c.integer_at-count.result.value c.items.counter (item_of c.args.layout.now.shape) c.items-test.true in
    let references : c.of_items-inner.result.reach.references ≡ c.args.view.now.depth.reach.references = ap (λ (z : Depth). z.reach.references) c.of_items-inner.ensures in
    let composites : c.of_items-inner.result.reach.composites ≡ c.args.view.now.depth.reach.composites = ap (λ (z : Depth). z.reach.composites) c.of_items-inner.ensures in
    let deeper : c.of_items-inner.result.level ≡ c.args.view.now.depth.level + 1 = ap (λ (z : Depth). z.level) c.of_items-inner.ensures in
    let r = c.requires.holds in
    let f = is_array c.args.view.now.chunk.now.classes c.args.view.now.chunk.now.bytes c.args.at r.0 c.args.layout.now c.requires.layout r.1.0 r.1.1 c.requires.array c.integer_at-count.result
    c.integer_at-count.ensures in
    let h = left_there c.args.view.now.chunk.now.classes c.args.view.now.chunk.now.bytes r.0 _ _ (item_of c.args.layout.now.shape) _ _ c.items.to c.items.out
    (c.items.invariant.left r.0 f.parts f.row) next in
    let holds : (to : ℕ) × EndsAt c.args.view.now.chunk.now.classes c.args.view.now.chunk.now.bytes c.item_layout-item.result.shape c.items.to to =
    (h.place, subst (λ (z : Shape). EndsAt c.args.view.now.chunk.now.classes c.args.view.now.chunk.now.bytes z c.items.to h.place) (sym flat) (h.value, h.node)) in
    let known : IsLayoutIfKnown c.args.view.now.chunk.now.classes c.item_layout-item.result =
    item_known c.args.view.now.chunk.now.classes c.args.layout.now c.item_layout-item.result c.requires.layout c.item_layout-item.ensures in
    let depth : DepthBound c.args.view.now.chunk.now.classes c.of_items-inner.result.reach.composites c.item_layout-item.result.shape = subst
    (λ z. DepthBound c.args.view.now.chunk.now.classes z c.item_layout-item.result.shape) (sym composites)
    (subst (λ (z : Shape). DepthBound c.args.view.now.chunk.now.classes c.args.view.now.depth.reach.composites z) (sym flat) c.requires.depth) in
    let single : c.item_layout-item.result.shape.array ≡ false = ap (λ (z : Shape). z.array) flat in
    let cached = c.items.invariant.cached in
    search (rules, cached, holds, known, depth, single, references, composites, deeper)

pub show_items-items-preserved : goal.show_items-items-preserved
show_items-items-preserved t c =
    let flat : c.item_layout-item.result.shape ≡ item_of c.args.layout.now.shape = ap (λ (z : FieldLayout). z.shape) c.item_layout-item.ensures in
    let next = item_next c.integer_at-count.result.value c.items.counter (item_of c.args.layout.now.shape) c.items-test.true in
    let deeper : c.of_items-inner.result.level ≡ c.args.view.now.depth.level + 1 = ap (λ (z : Depth). z.level) c.of_items-inner.ensures in
    record {
      cached = c.in_ok-to.ensures.cached;
      left = λ to vs r.
          left_goes c.args.view.now.chunk.now.classes c.args.view.now.chunk.now.bytes to _
          (onto_items c.args.view.now.chunk.now.classes (referred c.args.view.now.chunk.now c.args.view.now.depth.reach.references) (c.args.view.now.depth.level + 1))
          (onto_items c.args.view.now.chunk.now.classes (referred c.args.view.now.chunk.now c.args.view.now.depth.reach.references) (c.args.view.now.depth.level + 1))
          (item_of c.args.layout.now.shape) _ _ c.items.to c.items.out c.in_ok-to.to c.push_ascii-in-items.new.self
          (c.items.invariant.left to vs r) next
          (λ p v n. let h = c.in_ok-to.ensures.ok p v (subst (λ (z : Shape). IsNode c.args.view.now.chunk.now.classes c.args.view.now.chunk.now.bytes (node_at z c.items.to p) v) (sym flat) n) in (
            h.0,
            λ ws. item_line c.args.view.now.chunk.now.classes (referred c.args.view.now.chunk.now c.args.view.now.depth.reach.references)
                (c.args.view.now.depth.level + 1) c.items.out c.push_indent.new.self c.show_value.new.out c.push_ascii-in-items.new.self v ws
                (c.in_ok-push_indent.ensures.ok ∙ ap (λ z. c.items.out ++ indent z) deeper)
                (h.1 ∙ ap (λ (z : Depth). c.push_indent.new.self ++ shown c.args.view.now.chunk.now.classes (referred c.args.view.now.chunk.now z.reach.references) z.level v) c.of_items-inner.ensures)
                c.in_ok-push_ascii-2.ensures.ok,
          ));
    }

pub show_items-returns : goal.show_items-returns
show_items-returns t c =
    record {
      cached = c.items.invariant.cached;
      ok = λ to v i.
          let f = is_array c.args.view.now.chunk.now.classes c.args.view.now.chunk.now.bytes c.args.at to c.args.layout.now c.requires.layout v i c.requires.array c.integer_at-count.result
          c.integer_at-count.ensures in
          let e = left_ends c.args.view.now.chunk.now.classes c.args.view.now.chunk.now.bytes to _
          (onto_items c.args.view.now.chunk.now.classes (referred c.args.view.now.chunk.now c.args.view.now.depth.reach.references) (c.args.view.now.depth.level + 1)) _ c.items.to c.items.out
          (c.items.invariant.left to f.parts f.row) (items_past c.integer_at-count.result.value c.items.counter (item_of c.args.layout.now.shape) c.items-test.false)
          (no_items c.args.view.now.chunk.now.classes (referred c.args.view.now.chunk.now c.args.view.now.depth.reach.references) (c.args.view.now.depth.level + 1) c.items.out) in (
            e.0,
            items_close c.args.view.now.depth.level (shown_all c.args.view.now.chunk.now.classes (referred c.args.view.now.chunk.now c.args.view.now.depth.reach.references)
                (c.args.view.now.depth.level + 1) f.parts) c.args.out.now c.push_ascii.new.self c.items.out c.push_indent-2.new.self c.push_ascii-2.new.self c.in_ok-push_ascii.ensures.ok e.1
                c.in_ok-push_indent-2.ensures.ok c.in_ok-push_ascii-3.ensures.ok
                ∙ ap (λ z. c.args.out.now ++ z) (sym (array_shown c.args.view.now.chunk.now.classes (referred c.args.view.now.chunk.now c.args.view.now.depth.reach.references)
                c.args.view.now.depth.level c.args.layout.now.shape f.head f.parts v f.value c.requires.array)),
          );
    }

pub show_node-show_value-requires : goal.show_node-show_value-requires
show_node-show_value-requires t c =
    let v = c.requires.value in
    let n : IsNode c.args.view.now.chunk.now.classes c.args.view.now.chunk.now.bytes (node_of c.args.node.now) v.0 =
    subst (λ z. IsNode c.args.view.now.chunk.now.classes z (node_of c.args.node.now) v.0) c.requires.of_chunk v.1 in
    let there : IsNode c.args.view.now.chunk.now.classes c.args.view.now.chunk.now.bytes (node_at c.layout_of-layout.result.shape c.args.node.now.at c.args.node.now.end) v.0 = subst
    (λ (z : Shape). IsNode c.args.view.now.chunk.now.classes c.args.view.now.chunk.now.bytes (node_at z c.args.node.now.at c.args.node.now.end) v.0) (sym c.layout_of-layout.ensures.shape) n in
    let holds : (to : ℕ) × EndsAt c.args.view.now.chunk.now.classes c.args.view.now.chunk.now.bytes c.layout_of-layout.result.shape c.args.node.now.at to = (c.args.node.now.end, (v.0, there)) in
    let known : IsLayoutIfKnown c.args.view.now.chunk.now.classes c.layout_of-layout.result = subst (λ z. IsLayoutIfKnown z c.layout_of-layout.result) c.classes.ensures
    (record {
      form = c.layout_of-layout.ensures.form;
      of_class = λ o h. c.layout_of-layout.ensures.known
          (subst (λ (z : Shape). IsSome (find_class c.classes.result.now z.class)) c.layout_of-layout.ensures.shape h);
    }) in
    let all : DepthBound c.args.view.now.chunk.now.classes 33 c.layout_of-layout.result.shape =
    λ o d q m. sound_inline c.args.view.now.chunk.now.classes c.layout_of-layout.result.shape.class d (subst Sound c.classes.ensures c.layout_of-layout.ensures.sound) q in
    let depth : DepthBound c.args.view.now.chunk.now.classes c.args.view.now.depth.reach.composites c.layout_of-layout.result.shape =
    subst (λ z. DepthBound c.args.view.now.chunk.now.classes z c.layout_of-layout.result.shape) (sym c.requires.composites) all in
    let level : deepest c.args.view.now.depth c.layout_of-layout.result.shape.array ≤ 1000 =
    subst (λ (z : Shape). deepest c.args.view.now.depth z.array ≤ 1000) (sym c.layout_of-layout.ensures.shape) c.requires.level in
    let composites = c.requires.composites in
    let cached = c.requires.cached in
    search (rules, cached, holds, known, depth, level, composites)

pub show_node-returns : goal.show_node-returns
show_node-returns t c =
    let v = c.requires.value in
    let n : IsNode c.args.view.now.chunk.now.classes c.args.view.now.chunk.now.bytes (node_of c.args.node.now) v.0 =
    subst (λ z. IsNode c.args.view.now.chunk.now.classes z (node_of c.args.node.now) v.0) c.requires.of_chunk v.1 in
    let there : IsNode c.args.view.now.chunk.now.classes c.args.view.now.chunk.now.bytes (node_at c.layout_of-layout.result.shape c.args.node.now.at c.args.node.now.end) v.0 = subst
    (λ (z : Shape). IsNode c.args.view.now.chunk.now.classes c.args.view.now.chunk.now.bytes (node_at z c.args.node.now.at c.args.node.now.end) v.0) (sym c.layout_of-layout.ensures.shape) n in
    let h = c.in_ok-_end.ensures.ok c.args.node.now.end v.0 there in
    record {
      cached = c.in_ok-_end.ensures.cached;
      ok = h.1 ∙ ap (λ z. c.args.out.now ++ z)
          (sym (node_is c.args.view.now.chunk.now (subst Sound c.classes.ensures c.layout_of-layout.ensures.sound)
          (referred c.args.view.now.chunk.now c.args.view.now.depth.reach.references) c.args.view.now.depth.level (node_of c.args.node.now) v.0 n));
    }

pub show_constant-returns-in_default : goal.show_constant-returns-in_default
show_constant-returns-in_default t c =
    let e = no_entry (in_force c.args.view.now.chunk.now.entries (c.args.class, c.args.key)) (ap (option_map node_of) (sym c.in_default.is) ∙ c.constant.ensures.exact) in
    record {
      cached = c.requires.cached;
      ok = subst (λ z. OnOk c.show_missing.result (c.show_missing.new.out ≡ c.args.out.now ++ z))
          (sym (refer_missing c.args.view.now.chunk.now c.args.view.now.depth.reach.references c.args.view.now.depth.level (c.args.class, c.args.key) e)) c.show_missing.ensures.ok;
    }

pub show_constant-returns-then-view-eq0 : goal.show_constant-returns-then-view-eq0
show_constant-returns-then-view-eq0 t c =
    let e = entry_found (in_force c.args.view.now.chunk.now.entries (c.args.class, c.args.key)) (node_of c.in-Some.node) (ap (option_map node_of) (sym c.in-Some.is) ∙ c.constant.ensures.exact) in
    record {
      cached = c.requires.cached;
      ok = subst (λ z. OnOk c.show_name.result (c.show_name.new.out ≡ c.args.out.now ++ z))
          (sym (refer_name c.args.view.now.chunk.now c.args.view.now.depth.reach.references c.args.view.now.depth.level (c.args.class, c.args.key) e.entry c.if-view-eq0.true e.there))
          c.show_name.ensures.ok;
    }

pub show_constant-returns : goal.show_constant-returns
show_constant-returns t c =
    let e = entry_found (in_force c.args.view.now.chunk.now.entries (c.args.class, c.args.key)) (node_of c.in-Some.node) (ap (option_map node_of) (sym c.in-Some.is) ∙ c.constant.ensures.exact) in
    let deep : suc (c.args.view.now.depth.reach.references - 1) ≡ c.args.view.now.depth.reach.references = (let z = c.if-view-eq0.false in omega arith) in
    let text = ap (λ (z : Depth). node_shown c.args.view.now.chunk.now (referred c.args.view.now.chunk.now z.reach.references) z.level (node_of c.in-Some.node)) c.of_constant-depth.ensures
    ∙ (ap (node_shown c.args.view.now.chunk.now (referred c.args.view.now.chunk.now (c.args.view.now.depth.reach.references - 1)) c.args.view.now.depth.level) e.node
    ∙ (sym (refer_value c.args.view.now.chunk.now (c.args.view.now.depth.reach.references - 1) c.args.view.now.depth.level (c.args.class, c.args.key) e.entry e.there)
    ∙ ap (λ z. referred c.args.view.now.chunk.now z c.args.view.now.depth.level (c.args.class, c.args.key)) deep)) in
    record { cached = c.show_node.ensures.cached; ok = subst (λ z. OnOk c.show_node.result (c.show_node.new.out ≡ c.args.out.now ++ z)) text c.show_node.ensures.ok }

pub show_value-integer_at-number-requires-clause-holds : goal.show_value-integer_at-number-requires-clause-holds
show_value-integer_at-number-requires-clause-holds t c =
    let r = c.requires.holds in
    integer_stands c.args.view.now.chunk.now.classes c.args.view.now.chunk.now.bytes c.args.at r.0 c.args.layout.now c.requires.layout r.1.0 r.1.1 c.in-Integer.is

pub show_value-integer_at-key-requires-clause-holds : goal.show_value-integer_at-key-requires-clause-holds
show_value-integer_at-key-requires-clause-holds t c =
    let r = c.requires.holds in
    key_stands c.args.view.now.chunk.now.classes c.args.view.now.chunk.now.bytes c.args.at r.0 c.args.layout.now c.requires.layout r.1.0 r.1.1 c.in-Key.is

pub show_value-string_at-string-requires-clause-holds : goal.show_value-string_at-string-requires-clause-holds
show_value-string_at-string-requires-clause-holds t c =
    let r = c.requires.holds in
    text_stands c.args.view.now.chunk.now.classes c.args.view.now.chunk.now.bytes c.args.at r.0 c.args.layout.now c.requires.layout r.1.0 r.1.1 c.in-Text.is

pub show_value-show_fields-requires : goal.show_value-show_fields-requires
show_value-show_fields-requires t c =
    let r = c.requires.holds in
    let f = is_composite c.args.view.now.chunk.now.classes c.args.view.now.chunk.now.bytes c.args.at r.0 c.args.layout.now c.requires.layout r.1.0 r.1.1 c.in-Fields.is in
    let x = composite_depth c.args.view.now.chunk.now.classes c.args.view.now.chunk.now.bytes c.args.at r.0 c.args.layout.now c.requires.layout r.1.0 r.1.1 c.in-Fields.is
    c.args.view.now.depth.reach.composites c.requires.depth in
    let inner : 1 ≤ c.args.view.now.depth.reach.composites = x.0 in
    let depth : AllByRecursion (DepthBound c.args.view.now.chunk.now.classes (c.args.view.now.depth.reach.composites - 1))
    (field_shapes c.args.view.now.chunk.now.classes c.args.layout.now.class_index) = x.1 in
    let within : c.args.layout.now.class_index < length c.args.view.now.chunk.now.classes = f.placed in
    let valid : (to : ℕ) × (vs : Values) × AreValues c.args.view.now.chunk.now.classes c.args.view.now.chunk.now.bytes c.args.at to
    (field_shapes c.args.view.now.chunk.now.classes c.args.layout.now.class_index) vs = (r.0, f.parts, f.row) in
    let flat = f.array in
    let cached = c.requires.cached in
    search (rules, cached, depth, within, valid, inner, flat)

pub show_value-returns-in_ok-show_integer-in-Integer : goal.show_value-returns-in_ok-show_integer-in-Integer
show_value-returns-in_ok-show_integer-in-Integer t c =
    record {
      cached = c.requires.cached;
      ok = λ to v i. integer_shown c.args.view.now.chunk.now.classes
          (referred c.args.view.now.chunk.now c.args.view.now.depth.reach.references) c.args.view.now.depth.level c.args.view.now.chunk.now.bytes c.args.at to c.args.layout.now c.requires.layout v i
          c.args.out.now c.show_integer.new.out c.in-Integer.is c.integer_at-number.result c.integer_at-number.ensures c.in_ok-show_integer-in-Integer.ensures.ok;
    }

pub show_value-returns-in_ok-show_raw-in-Raw : goal.show_value-returns-in_ok-show_raw-in-Raw
show_value-returns-in_ok-show_raw-in-Raw t c =
    let count : c.from-size.result ≡ c.in-Raw.count = omega arith in
    record {
      cached = c.requires.cached;
      ok = λ to v i. raw_shown c.args.view.now.chunk.now.classes (referred c.args.view.now.chunk.now c.args.view.now.depth.reach.references)
          c.args.view.now.depth.level c.args.view.now.chunk.now.bytes c.args.at to c.args.layout.now c.requires.layout v i c.args.out.now c.show_raw.new.out c.from-size.result
          (c.in-Raw.is ∙ ap (λ z. forms.Raw z) (sym count)) c.bytes_at-bytes.result.now c.bytes_at-bytes.ensures.exact c.in_ok-show_raw-in-Raw.ensures.ok;
    }

pub show_value-returns-in_ok-show_reference-in-Key : goal.show_value-returns-in_ok-show_reference-in-Key
show_value-returns-in_ok-show_reference-in-Key t c =
    record {
      cached = c.in_ok-show_reference-in-Key.ensures.cached;
      ok = λ to v i. reference_shown c.args.view.now.chunk.now.classes
          (referred c.args.view.now.chunk.now c.args.view.now.depth.reach.references) c.args.view.now.depth.level c.args.view.now.chunk.now.bytes c.args.at to c.args.layout.now c.requires.layout v i
          c.args.out.now c.show_reference.new.out c.in-Key.is c.integer_at-key.result c.integer_at-key.ensures c.in_ok-show_reference-in-Key.ensures.ok;
    }

pub show_value-returns-in_ok-show_reference-in-Key-kind : goal.show_value-returns-in_ok-show_reference-in-Key-kind
show_value-returns-in_ok-show_reference-in-Key-kind t c =
    record {
      cached = c.in_ok-show_reference-in-Key-kind.ensures.cached;
      ok = λ to v i. key_shown c.args.view.now.chunk.now.classes
          (referred c.args.view.now.chunk.now c.args.view.now.depth.reach.references) c.args.view.now.depth.level c.args.view.now.chunk.now.bytes c.args.at to c.args.layout.now c.requires.layout v i
          c.args.out.now c.show_reference-in-Key-kind.new.out c.in-Text.is c.string_at-string.result c.string_at-string.ensures c.in-Key-kind.is c.in_ok-show_reference-in-Key-kind.ensures.ok;
    }

pub show_value-returns-in_ok-show_string-in_default : goal.show_value-returns-in_ok-show_string-in_default
show_value-returns-in_ok-show_string-in_default t c =
    record {
      cached = c.requires.cached;
      ok = λ to v i. string_shown c.args.view.now.chunk.now.classes
          (referred c.args.view.now.chunk.now c.args.view.now.depth.reach.references) c.args.view.now.depth.level c.args.view.now.chunk.now.bytes c.args.at to c.args.layout.now c.requires.layout v i
          c.args.out.now c.show_string.new.out c.in-Text.is c.string_at-string.result c.string_at-string.ensures c.in_default.not-Key c.in_ok-show_string-in_default.ensures.ok;
    }

pub show_value-returns-in-Fields : goal.show_value-returns-in-Fields
show_value-returns-in-Fields t c =
    record {
      cached = c.show_fields.ensures.cached;
      ok = by_answer c.show_fields.result c.show_fields.ensures.ok (λ end h to v i.
          let f = is_composite c.args.view.now.chunk.now.classes c.args.view.now.chunk.now.bytes c.args.at to c.args.layout.now c.requires.layout v i c.in-Fields.is in
          let e = h to f.parts f.class f.row f.there in (
            e.0,
            e.1 ∙ ap (λ z. c.args.out.now ++ z)
                (sym (composite_shown c.args.view.now.chunk.now.classes (referred c.args.view.now.chunk.now c.args.view.now.depth.reach.references) c.args.view.now.depth.level c.args.layout.now.shape
                [] f.parts v f.class f.value f.array f.found)),
          ));
    }
