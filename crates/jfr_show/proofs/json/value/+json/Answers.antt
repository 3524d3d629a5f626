-- What is added for each part of a value.
use Rattle.std.proofs.Common.{rules, ◌≡◌, ℕ, suc, ◌+◌, ◌-◌, ◌≤◌, ◌<◌, [], ◌++◌, length, true, false, IsSome, IfSome, OnOk, slice_get, string_bytes, ap, arith, sym, ◌∙◌, subst, get_or, Some}
use Rattle.std.specs.Prelude.{map, drop}
use Rattle.std.specs.List.{AllByRecursion}
use Rattle.std.specs.Option.{option_map}
use Rattle.std.proofs.lemmas.List.{drop_all}
use Rattle.serde_json.specs.Written.{compact_text}
use Rattle.jfr_layout.specs.declared.form.Form.TheVariants as forms
use Rattle.jfr_layout.specs.declared.shape.Shape.{Shape}
use Rattle.jfr_layout.specs.declared.field_layout.FieldLayout.{FieldLayout}
use Rattle.jfr_layout.specs.Classes.{Class, AreFieldLayouts, Sound, find_class, item_of}
use Rattle.jfr_value.specs.Nodes.{EndsAt, IsNode, AreValues, node_at, node_of}
use Rattle.jfr_value.specs.Values.{Values}
use Rattle.jfr_value.specs.Visits.{field_shapes}
use Rattle.jfr_value.specs.Walks.{IsLayoutIfKnown, DepthBound}
use Rattle.jfr_value.proofs.VisitLaws.{field_next, item_next, items_past, bound_of_first}
use Rattle.jfr_value.proofs.LayoutLaws.{field_of, no_layout}
use Rattle.jfr_value.proofs.DepthLaws.{sound_inline}
use Rattle.jfr_pool.specs.Entries.{in_force}
use Rattle.jfr_show.specs.declared.depth.Reach.{Reach}
use Rattle.jfr_show.specs.Json.{json_of, json_of_all, node_json, referred_json}
use Rattle.jfr_show.specs.Orders.{AreOffsets, IsOrder, laid_out, lead_of, starts}
use Rattle.jfr_show.proofs.LayoutForms.{composite_depth, integer_stands, key_stands, text_stands, array_stands, is_composite, is_array, item_known}
use Rattle.jfr_show.proofs.JsonLaws.{onto_items, one_item, items_between, integer_made, raw_made, reference_made, key_made, string_made, composite_json, array_json, missing_is, name_is, constant_is, node_json_is}
use Rattle.jfr_show.proofs.ReferLaws.{by_answer, no_entry, entry_found}
use Rattle.jfr_show.proofs.LeftLaws.{left_there, left_goes, left_closes}
use Rattle.jfr_show.proofs.PlacedLaws.{ordered, got, got_is, drop_get, below_layouts, below_fields, placed, count_starts, count_json, shapes_count, leads_from, lay_one, lay_all}
use Rattle.jfr_show.proofs.json.value.+json.Goals as goal

pub push_items-integer_at-count-requires-clause-holds : goal.push_items-integer_at-count-requires-clause-holds
push_items-integer_at-count-requires-clause-holds t c =
    let r = c.requires.holds in
    array_stands c.args.source.now.chunk.now.classes c.args.source.now.chunk.now.bytes c.args.at r.0 c.args.layout.now c.requires.layout r.1.0 r.1.1 c.requires.array

pub push_items-push_value-requires : goal.push_items-push_value-requires
push_items-push_value-requires t c =
    let flat : c.item_layout-item.result.shape ≡ item_of c.args.layout.now.shape = ap (λ (z : FieldLayout). z.shape) c.item_layout-item.ensures in
    let next = item_next c.integer_at-count.result.value c.items.counter (item_of c.args.layout.now.shape) c.items-test.true in
    let r = c.requires.holds in
    let f = is_array c.args.source.now.chunk.now.classes c.args.source.now.chunk.now.bytes c.args.at r.0 c.args.layout.now c.requires.layout r.1.0 r.1.1 c.requires.array c.integer_at-count.result
    c.integer_at-count.ensures in
    let h = left_there c.args.source.now.chunk.now.classes c.args.source.now.chunk.now.bytes r.0 _ _ (item_of c.args.layout.now.shape) _ _ c.items.to (string_bytes c.items.out)
    (c.items.invariant.left r.0 f.parts f.row) next in
    let holds : (to : ℕ) × EndsAt c.args.source.now.chunk.now.classes c.args.source.now.chunk.now.bytes c.item_layout-item.result.shape c.items.to to =
    (h.place, subst (λ (z : Shape). EndsAt c.args.source.now.chunk.now.classes c.args.source.now.chunk.now.bytes z c.items.to h.place) (sym flat) (h.value, h.node)) in
    let known : IsLayoutIfKnown c.args.source.now.chunk.now.classes c.item_layout-item.result =
    item_known c.args.source.now.chunk.now.classes c.args.layout.now c.item_layout-item.result c.requires.layout c.item_layout-item.ensures in
    let depth : DepthBound c.args.source.now.chunk.now.classes c.args.source.now.reach.composites c.item_layout-item.result.shape =
    subst (λ (z : Shape). DepthBound c.args.source.now.chunk.now.classes c.args.source.now.reach.composites z) (sym flat) c.requires.depth in
    let single : c.item_layout-item.result.shape.array ≡ false = ap (λ (z : Shape). z.array) flat in
    let cached = c.items.invariant.cached in
    search (rules, cached, holds, known, depth, single)

pub push_items-items-preserved : goal.push_items-items-preserved
push_items-items-preserved t c =
    let flat : c.item_layout-item.result.shape ≡ item_of c.args.layout.now.shape = ap (λ (z : FieldLayout). z.shape) c.item_layout-item.ensures in
    let next = item_next c.integer_at-count.result.value c.items.counter (item_of c.args.layout.now.shape) c.items-test.true in
    record {
      cached = c.in_ok-to.ensures.cached;
      left = λ to vs r.
          left_goes c.args.source.now.chunk.now.classes c.args.source.now.chunk.now.bytes to _
          (onto_items c.args.source.now.chunk.now.classes (referred_json c.args.source.now.chunk.now c.args.source.now.reach.references) c.items.later)
          (onto_items c.args.source.now.chunk.now.classes (referred_json c.args.source.now.chunk.now c.args.source.now.reach.references) true) (item_of c.args.layout.now.shape) _ _ c.items.to
          (string_bytes c.items.out) c.in_ok-to.to (string_bytes c.push_value.new.out)
          (c.items.invariant.left to vs r) next
          (λ p v n. let h = c.in_ok-to.ensures.ok p v (subst (λ (z : Shape). IsNode c.args.source.now.chunk.now.classes c.args.source.now.chunk.now.bytes (node_at z c.items.to p) v) (sym flat) n) in (
            h.0,
            λ ws. one_item c.args.source.now.chunk.now.classes (referred_json c.args.source.now.chunk.now c.args.source.now.reach.references) c.items.later (string_bytes c.items.out)
                (string_bytes c.push_comma.new.out) (string_bytes c.push_value.new.out) v ws c.in_ok-push_comma.ensures.ok h.1,
          ));
    }

pub push_items-returns : goal.push_items-returns
push_items-returns t c =
    record {
      cached = c.items.invariant.cached;
      ok = λ to v i.
          let f = is_array c.args.source.now.chunk.now.classes c.args.source.now.chunk.now.bytes c.args.at to c.args.layout.now c.requires.layout v i c.requires.array c.integer_at-count.result
          c.integer_at-count.ensures in
          let e = left_closes c.args.source.now.chunk.now.classes c.args.source.now.chunk.now.bytes to _
          (onto_items c.args.source.now.chunk.now.classes (referred_json c.args.source.now.chunk.now c.args.source.now.reach.references) c.items.later) _ c.items.to (string_bytes c.items.out)
          (c.items.invariant.left to f.parts f.row) (items_past c.integer_at-count.result.value c.items.counter (item_of c.args.layout.now.shape) c.items-test.false) in (
            e.0,
            items_between c.args.source.now.chunk.now.classes (referred_json c.args.source.now.chunk.now c.args.source.now.reach.references) f.parts (string_bytes c.args.out.now)
                (string_bytes c.push_str.new.self) (string_bytes c.items.out) (string_bytes c.push_str-2.new.self) c.in_ok-push_str.ensures.bytes e.1 c.in_ok-push_str-2.ensures.bytes
                ∙ ap (λ z. string_bytes c.args.out.now ++ compact_text z)
                (sym (array_json c.args.source.now.chunk.now.classes (referred_json c.args.source.now.chunk.now c.args.source.now.reach.references) c.args.layout.now.shape f.head f.parts v f.value
                c.requires.array)),
          );
    }

pub push_node-push_value-requires : goal.push_node-push_value-requires
push_node-push_value-requires t c =
    let v = c.requires.value in
    let n : IsNode c.args.source.now.chunk.now.classes c.args.source.now.chunk.now.bytes (node_of c.args.node.now) v.0 =
    subst (λ z. IsNode c.args.source.now.chunk.now.classes z (node_of c.args.node.now) v.0) c.requires.of_chunk v.1 in
    let there : IsNode c.args.source.now.chunk.now.classes c.args.source.now.chunk.now.bytes (node_at c.layout_of-layout.result.shape c.args.node.now.at c.args.node.now.end) v.0 = subst
    (λ (z : Shape). IsNode c.args.source.now.chunk.now.classes c.args.source.now.chunk.now.bytes (node_at z c.args.node.now.at c.args.node.now.end) v.0) (sym c.layout_of-layout.ensures.shape) n in
    let holds : (to : ℕ) × EndsAt c.args.source.now.chunk.now.classes c.args.source.now.chunk.now.bytes c.layout_of-layout.result.shape c.args.node.now.at to = (c.args.node.now.end, (v.0, there)) in
    let known : IsLayoutIfKnown c.args.source.now.chunk.now.classes c.layout_of-layout.result = subst (λ z. IsLayoutIfKnown z c.layout_of-layout.result) c.classes.ensures
    (record {
      form = c.layout_of-layout.ensures.form;
      of_class = λ o h. c.layout_of-layout.ensures.known
          (subst (λ (z : Shape). IsSome (find_class c.classes.result.now z.class)) c.layout_of-layout.ensures.shape h);
    }) in
    let all : DepthBound c.args.source.now.chunk.now.classes 33 c.layout_of-layout.result.shape =
    λ o d q m. sound_inline c.args.source.now.chunk.now.classes c.layout_of-layout.result.shape.class d (subst Sound c.classes.ensures c.layout_of-layout.ensures.sound) q in
    let depth : DepthBound c.args.source.now.chunk.now.classes c.args.source.now.reach.composites c.layout_of-layout.result.shape =
    subst (λ z. DepthBound c.args.source.now.chunk.now.classes z c.layout_of-layout.result.shape) (sym c.requires.composites) all in
    let composites = c.requires.composites in
    let cached = c.requires.cached in
    let source = c.requires.source in
    search (rules, cached, source, holds, known, depth, composites)

pub push_node-returns : goal.push_node-returns
push_node-returns t c =
    let v = c.requires.value in
    let n : IsNode c.args.source.now.chunk.now.classes c.args.source.now.chunk.now.bytes (node_of c.args.node.now) v.0 =
    subst (λ z. IsNode c.args.source.now.chunk.now.classes z (node_of c.args.node.now) v.0) c.requires.of_chunk v.1 in
    let there : IsNode c.args.source.now.chunk.now.classes c.args.source.now.chunk.now.bytes (node_at c.layout_of-layout.result.shape c.args.node.now.at c.args.node.now.end) v.0 = subst
    (λ (z : Shape). IsNode c.args.source.now.chunk.now.classes c.args.source.now.chunk.now.bytes (node_at z c.args.node.now.at c.args.node.now.end) v.0) (sym c.layout_of-layout.ensures.shape) n in
    let h = c.in_ok-_end.ensures.ok c.args.node.now.end v.0 there in
    record {
      cached = c.in_ok-_end.ensures.cached;
      ok = h.1 ∙ ap (λ z. string_bytes c.args.out.now ++ compact_text z)
          (sym (node_json_is c.args.source.now.chunk.now c.requires.source.sound (referred_json c.args.source.now.chunk.now c.args.source.now.reach.references) (node_of c.args.node.now) v.0 n));
    }

pub push_constant-returns-in_default : goal.push_constant-returns-in_default
push_constant-returns-in_default t c =
    let e = no_entry (in_force c.args.source.now.chunk.now.entries (c.args.class, c.args.key)) (ap (option_map node_of) (sym c.in_default.is) ∙ c.constant.ensures.exact) in
    record {
      cached = c.requires.cached;
      ok = subst (λ z. OnOk c.push_missing.result (string_bytes c.push_missing.new.out ≡ string_bytes c.args.out.now ++ compact_text z))
          (sym (missing_is c.args.source.now.chunk.now c.args.source.now.reach.references (c.args.class, c.args.key) e)) c.push_missing.ensures.ok;
    }

pub push_constant-returns-then-source-eq0 : goal.push_constant-returns-then-source-eq0
push_constant-returns-then-source-eq0 t c =
    let e = entry_found (in_force c.args.source.now.chunk.now.entries (c.args.class, c.args.key)) (node_of c.in-Some.node) (ap (option_map node_of) (sym c.in-Some.is) ∙ c.constant.ensures.exact) in
    record {
      cached = c.requires.cached;
      ok = subst (λ z. OnOk c.push_name.result (string_bytes c.push_name.new.out ≡ string_bytes c.args.out.now ++ compact_text z))
          (sym (name_is c.args.source.now.chunk.now c.args.source.now.reach.references (c.args.class, c.args.key) e.entry c.if-source-eq0.true e.there)) c.push_name.ensures.ok;
    }

pub push_constant-returns : goal.push_constant-returns
push_constant-returns t c =
    let e = entry_found (in_force c.args.source.now.chunk.now.entries (c.args.class, c.args.key)) (node_of c.in-Some.node) (ap (option_map node_of) (sym c.in-Some.is) ∙ c.constant.ensures.exact) in
    let deep : suc (c.args.source.now.reach.references - 1) ≡ c.args.source.now.reach.references = (let z = c.if-source-eq0.false in omega arith) in
    let same = ap (λ (z : Reach). node_json c.args.source.now.chunk.now (referred_json c.args.source.now.chunk.now z.references) (node_of c.in-Some.node)) c.of_constant-reach.ensures
    ∙ (ap (node_json c.args.source.now.chunk.now (referred_json c.args.source.now.chunk.now (c.args.source.now.reach.references - 1))) e.node
    ∙ (sym (constant_is c.args.source.now.chunk.now (c.args.source.now.reach.references - 1) (c.args.class, c.args.key) e.entry e.there)
    ∙ ap (λ z. referred_json c.args.source.now.chunk.now z (c.args.class, c.args.key)) deep)) in
    record {
      cached = c.push_node.ensures.cached;
      ok = subst (λ z. OnOk c.push_node.result (string_bytes c.push_node.new.out ≡ string_bytes c.args.out.now ++ compact_text z)) same
          c.push_node.ensures.ok;
    }

pub push_value-integer_at-number-requires-clause-holds : goal.push_value-integer_at-number-requires-clause-holds
push_value-integer_at-number-requires-clause-holds t c =
    let r = c.requires.holds in
    integer_stands c.args.source.now.chunk.now.classes c.args.source.now.chunk.now.bytes c.args.at r.0 c.args.layout.now c.requires.layout r.1.0 r.1.1 c.in-Integer.is

pub push_value-integer_at-key-requires-clause-holds : goal.push_value-integer_at-key-requires-clause-holds
push_value-integer_at-key-requires-clause-holds t c =
    let r = c.requires.holds in
    key_stands c.args.source.now.chunk.now.classes c.args.source.now.chunk.now.bytes c.args.at r.0 c.args.layout.now c.requires.layout r.1.0 r.1.1 c.in-Key.is

pub push_value-string_at-string-requires-clause-holds : goal.push_value-string_at-string-requires-clause-holds
push_value-string_at-string-requires-clause-holds t c =
    let r = c.requires.holds in
    text_stands c.args.source.now.chunk.now.classes c.args.source.now.chunk.now.bytes c.args.at r.0 c.args.layout.now c.requires.layout r.1.0 r.1.1 c.in-Text.is

pub push_value-push_fields-requires : goal.push_value-push_fields-requires
push_value-push_fields-requires t c =
    let r = c.requires.holds in
    let f = is_composite c.args.source.now.chunk.now.classes c.args.source.now.chunk.now.bytes c.args.at r.0 c.args.layout.now c.requires.layout r.1.0 r.1.1 c.in-Fields.is in
    let x = composite_depth c.args.source.now.chunk.now.classes c.args.source.now.chunk.now.bytes c.args.at r.0 c.args.layout.now c.requires.layout r.1.0 r.1.1 c.in-Fields.is
    c.args.source.now.reach.composites c.requires.depth in
    let inner : 1 ≤ c.args.source.now.reach.composites = x.0 in
    let depth : AllByRecursion (DepthBound c.args.source.now.chunk.now.classes (c.args.source.now.reach.composites - 1))
    (field_shapes c.args.source.now.chunk.now.classes c.args.layout.now.class_index) = x.1 in
    let within : c.args.layout.now.class_index < length c.args.source.now.chunk.now.classes = f.placed in
    let valid : (to : ℕ) × (vs : Values) × AreValues c.args.source.now.chunk.now.classes c.args.source.now.chunk.now.bytes c.args.at to
    (field_shapes c.args.source.now.chunk.now.classes c.args.layout.now.class_index) vs = (r.0, f.parts, f.row) in
    let flat = f.array in
    let cached = c.requires.cached in
    search (rules, cached, depth, within, valid, inner, flat)

pub push_value-returns-in_ok-push_integer-in-Integer : goal.push_value-returns-in_ok-push_integer-in-Integer
push_value-returns-in_ok-push_integer-in-Integer t c =
    record {
      cached = c.requires.cached;
      ok = λ to v i. integer_made c.args.source.now.chunk.now.classes
          (referred_json c.args.source.now.chunk.now c.args.source.now.reach.references) c.args.source.now.chunk.now.bytes c.args.at to c.args.layout.now c.requires.layout v i
          (string_bytes c.args.out.now) (string_bytes c.push_integer.new.out) c.in-Integer.is c.integer_at-number.result c.integer_at-number.ensures c.in_ok-push_integer-in-Integer.ensures.ok;
    }

pub push_value-returns-in_ok-push_raw-in-Raw : goal.push_value-returns-in_ok-push_raw-in-Raw
push_value-returns-in_ok-push_raw-in-Raw t c =
    let count : c.from-size.result ≡ c.in-Raw.count = omega arith in
    record {
      cached = c.requires.cached;
      ok = λ to v i. raw_made c.args.source.now.chunk.now.classes
          (referred_json c.args.source.now.chunk.now c.args.source.now.reach.references) c.args.source.now.chunk.now.bytes c.args.at to c.args.layout.now c.requires.layout v i
          (string_bytes c.args.out.now) (string_bytes c.push_raw.new.out) c.from-size.result (c.in-Raw.is ∙ ap (λ z. forms.Raw z) (sym count)) c.bytes_at-bytes.result.now
          c.bytes_at-bytes.ensures.exact
          c.in_ok-push_raw-in-Raw.ensures.ok;
    }

pub push_value-returns-in_ok-push_reference-in-Key : goal.push_value-returns-in_ok-push_reference-in-Key
push_value-returns-in_ok-push_reference-in-Key t c =
    record {
      cached = c.in_ok-push_reference-in-Key.ensures.cached;
      ok = λ to v i. reference_made c.args.source.now.chunk.now.classes
          (referred_json c.args.source.now.chunk.now c.args.source.now.reach.references) c.args.source.now.chunk.now.bytes c.args.at to c.args.layout.now c.requires.layout v i
          (string_bytes c.args.out.now) (string_bytes c.push_reference.new.out) c.in-Key.is c.integer_at-key.result c.integer_at-key.ensures c.in_ok-push_reference-in-Key.ensures.ok;
    }

pub push_value-returns-in_ok-push_reference-in-Key-kind : goal.push_value-returns-in_ok-push_reference-in-Key-kind
push_value-returns-in_ok-push_reference-in-Key-kind t c =
    record {
      cached = c.in_ok-push_reference-in-Key-kind.ensures.cached;
      ok = λ to v i. key_made c.args.source.now.chunk.now.classes
          (referred_json c.args.source.now.chunk.now c.args.source.now.reach.references) c.args.source.now.chunk.now.bytes c.args.at to c.args.layout.now c.requires.layout v i
          (string_bytes c.args.out.now) (string_bytes c.push_reference-in-Key-kind.new.out) c.in-Text.is c.string_at-string.result c.string_at-string.ensures c.in-Key-kind.is
          c.in_ok-push_reference-in-Key-kind.ensures.ok;
    }

pub push_value-returns-in_ok-push_text-in_default : goal.push_value-returns-in_ok-push_text-in_default
push_value-returns-in_ok-push_text-in_default t c =
    record {
      cached = c.requires.cached;
      ok = λ to v i. string_made c.args.source.now.chunk.now.classes
          (referred_json c.args.source.now.chunk.now c.args.source.now.reach.references) c.args.source.now.chunk.now.bytes c.args.at to c.args.layout.now c.requires.layout v i
          (string_bytes c.args.out.now) (string_bytes c.push_text.new.out) c.in-Text.is c.string_at-string.result c.string_at-string.ensures c.in_default.not-Key
          c.in_ok-push_text-in_default.ensures.ok;
    }

pub push_value-returns-in-Fields : goal.push_value-returns-in-Fields
push_value-returns-in-Fields t c =
    record {
      cached = c.push_fields.ensures.cached;
      ok = by_answer c.push_fields.result c.push_fields.ensures.ok (λ end h to v i.
          let f = is_composite c.args.source.now.chunk.now.classes c.args.source.now.chunk.now.bytes c.args.at to c.args.layout.now c.requires.layout v i c.in-Fields.is in
          let e = h to f.parts f.class f.row f.there in (
            e.0,
            e.1 ∙ ap (λ z. string_bytes c.args.out.now ++ compact_text z)
                (sym (composite_json c.args.source.now.chunk.now.classes (referred_json c.args.source.now.chunk.now c.args.source.now.reach.references) c.args.layout.now.shape
                [] f.parts v f.class f.value f.array f.found)),
          ));
    }

pub push_fields-push_object-requires : goal.push_fields-push_object-requires
push_fields-push_object-requires t c =
    let e : c.in_ok-offsets.offsets.class_index ≡ c.args.class_index = c.in_ok-offsets.ensures.class in
    let r = c.requires.valid in
    let h = c.in_ok-offsets.ensures.ok r.0 r.1 r.2 in
    let placed : c.in_ok-offsets.offsets.class_index < length c.args.source.now.chunk.now.classes = subst (λ z. z < length c.args.source.now.chunk.now.classes) (sym e) c.requires.placed in
    let depth : AllByRecursion (DepthBound c.args.source.now.chunk.now.classes (c.args.source.now.reach.composites - 1))
    (field_shapes c.args.source.now.chunk.now.classes c.in_ok-offsets.offsets.class_index) = subst
    (λ z. AllByRecursion (DepthBound c.args.source.now.chunk.now.classes (c.args.source.now.reach.composites - 1)) (field_shapes c.args.source.now.chunk.now.classes z)) (sym e) c.requires.depth in
    let valid : (at : ℕ) × (to : ℕ) × (vs : Values) × AreValues c.args.source.now.chunk.now.classes c.args.source.now.chunk.now.bytes at to
    (field_shapes c.args.source.now.chunk.now.classes c.in_ok-offsets.offsets.class_index) vs × AreOffsets c.in_ok-offsets.offsets at to vs = (
      c.args.at,
      r.0,
      r.1,
      subst (λ z. AreValues c.args.source.now.chunk.now.classes c.args.source.now.chunk.now.bytes c.args.at r.0 (field_shapes c.args.source.now.chunk.now.classes z) r.1)
          (sym e) r.2,
      h,
    ) in
    let cached = c.requires.cached in
    search (rules, cached, placed, depth, valid)

pub push_fields-returns : goal.push_fields-returns
push_fields-returns t c =
    let e : c.in_ok-offsets.offsets.class_index ≡ c.args.class_index = c.in_ok-offsets.ensures.class in
    record {
      cached = c.push_object.ensures.cached;
      ok = by_answer c.push_object.result c.push_object.ensures.ok (λ end h to vs class r q.
          h c.args.at to vs class (subst (λ z. AreValues c.args.source.now.chunk.now.classes c.args.source.now.chunk.now.bytes c.args.at to (field_shapes c.args.source.now.chunk.now.classes z) vs)
          (sym e) r) (c.in_ok-offsets.ensures.ok to vs r) (subst (λ z. slice_get c.args.source.now.chunk.now.classes z ≡ Some class) (sym e) q));
    }

pub push_members-offset_bounds-layouts-lead : goal.push_members-offset_bounds-layouts-lead
push_members-offset_bounds-layouts-lead t c =
    let layouts : IfSome (slice_get c.args.source.now.chunk.now.classes c.args.offsets.now.class_index)
    (λ d. AreFieldLayouts c.args.source.now.chunk.now.classes d.fields c.layouts-layouts.result.now) =
    subst (λ z. IfSome (slice_get z c.args.offsets.now.class_index) (λ d. AreFieldLayouts z d.fields c.layouts-layouts.result.now)) c.classes.ensures c.layouts-layouts.ensures.exact in
    let o = ordered c.args.source.now.chunk.now.classes c.args.offsets.now.class_index c.args.order.now c.deref-lead-items.result.now c.requires.order c.requires.placed
    c.deref-lead-items.ensures.value in
    let g = got c.deref-lead-items.result.now c.loop-lead.lead-index c.lead-item.result c.lead-item.result c.loop-lead-test.true c.lead-item.is in
    let below : c.lead-item.result.field < length c.layouts-layouts.result.now = below_layouts c.args.source.now.chunk.now.classes c.args.offsets.now.class_index c.deref-lead-items.result.now
    c.loop-lead.lead-index c.lead-item.result c.layouts-layouts.result.now o c.requires.placed layouts g in
    search (rules, below)

pub push_members-bounds-layouts-lead : goal.push_members-bounds-layouts-lead
push_members-bounds-layouts-lead t c =
    let layouts : IfSome (slice_get c.args.source.now.chunk.now.classes c.args.offsets.now.class_index)
    (λ d. AreFieldLayouts c.args.source.now.chunk.now.classes d.fields c.layouts-layouts.result.now) =
    subst (λ z. IfSome (slice_get z c.args.offsets.now.class_index) (λ d. AreFieldLayouts z d.fields c.layouts-layouts.result.now)) c.classes.ensures c.layouts-layouts.ensures.exact in
    let o = ordered c.args.source.now.chunk.now.classes c.args.offsets.now.class_index c.args.order.now c.deref-lead-items.result.now c.requires.order c.requires.placed
    c.deref-lead-items.ensures.value in
    let g = got c.deref-lead-items.result.now c.loop-lead.lead-index c.lead-item.result c.lead-item.result c.loop-lead-test.true c.lead-item.is in
    let below : c.lead-item.result.field < length c.layouts-layouts.result.now = below_layouts c.args.source.now.chunk.now.classes c.args.offsets.now.class_index c.deref-lead-items.result.now
    c.loop-lead.lead-index c.lead-item.result c.layouts-layouts.result.now o c.requires.placed layouts g in
    search (rules, below)

pub push_members-index-requires : goal.push_members-index-requires
push_members-index-requires t c =
    let layouts : IfSome (slice_get c.args.source.now.chunk.now.classes c.args.offsets.now.class_index)
    (λ d. AreFieldLayouts c.args.source.now.chunk.now.classes d.fields c.layouts-layouts.result.now) =
    subst (λ z. IfSome (slice_get z c.args.offsets.now.class_index) (λ d. AreFieldLayouts z d.fields c.layouts-layouts.result.now)) c.classes.ensures c.layouts-layouts.ensures.exact in
    let o = ordered c.args.source.now.chunk.now.classes c.args.offsets.now.class_index c.args.order.now c.deref-lead-items.result.now c.requires.order c.requires.placed
    c.deref-lead-items.ensures.value in
    let g = got c.deref-lead-items.result.now c.loop-lead.lead-index c.lead-item.result c.lead-item.result c.loop-lead-test.true c.lead-item.is in
    let below : c.lead-item.result.field < length c.layouts-layouts.result.now = below_layouts c.args.source.now.chunk.now.classes c.args.offsets.now.class_index c.deref-lead-items.result.now
    c.loop-lead.lead-index c.lead-item.result c.layouts-layouts.result.now o c.requires.placed layouts g in
    let r = c.requires.valid in
    let h = r.4 in
    let count : length c.args.offsets.now.starts.items ≡ length o.class.fields =
    ap length h.1 ∙ (count_starts r.0 r.2 ∙ (ap length r.3.of_shapes ∙ shapes_count c.args.source.now.chunk.now.classes c.args.offsets.now.class_index o.class o.there)) in
    let within : c.lead-item.result.field < length c.args.offsets.now.starts.items =
    omega (arith, count, below_fields c.args.source.now.chunk.now.classes c.args.offsets.now.class_index c.deref-lead-items.result.now c.loop-lead.lead-index c.lead-item.result o g) in
    search (rules, within)

pub push_members-push_value-requires : goal.push_members-push_value-requires
push_members-push_value-requires t c =
    let layouts : IfSome (slice_get c.args.source.now.chunk.now.classes c.args.offsets.now.class_index)
    (λ d. AreFieldLayouts c.args.source.now.chunk.now.classes d.fields c.layouts-layouts.result.now) =
    subst (λ z. IfSome (slice_get z c.args.offsets.now.class_index) (λ d. AreFieldLayouts z d.fields c.layouts-layouts.result.now)) c.classes.ensures c.layouts-layouts.ensures.exact in
    let o = ordered c.args.source.now.chunk.now.classes c.args.offsets.now.class_index c.args.order.now c.deref-lead-items.result.now c.requires.order c.requires.placed
    c.deref-lead-items.ensures.value in
    let g = got c.deref-lead-items.result.now c.loop-lead.lead-index c.lead-item.result c.lead-item.result c.loop-lead-test.true c.lead-item.is in
    let below : c.lead-item.result.field < length c.layouts-layouts.result.now = below_layouts c.args.source.now.chunk.now.classes c.args.offsets.now.class_index c.deref-lead-items.result.now
    c.loop-lead.lead-index c.lead-item.result c.layouts-layouts.result.now o c.requires.placed layouts g in
    let layout = get_or c.layouts-layouts.result.now c.lead-item.result.field no_layout in
    let f = field_of c.args.source.now.chunk.now.classes c.args.offsets.now.class_index c.lead-item.result.field c.layouts-layouts.result.now c.requires.placed layouts below in
    let x = field_next c.args.source.now.chunk.now.classes c.args.offsets.now.class_index c.lead-item.result.field f.field layout.shape f.there f.shape in
    let references : c.of_fields-inner.result.references ≡ c.args.source.now.reach.references = ap (λ (z : Reach). z.references) c.of_fields-inner.ensures in
    let composites : c.of_fields-inner.result.composites ≡ c.args.source.now.reach.composites - 1 = ap (λ (z : Reach). z.composites) c.of_fields-inner.ensures in
    let r = c.requires.valid in
    let h = r.4 in
    let p = placed c.args.source.now.chunk.now.classes c.args.source.now.chunk.now.bytes r.0 r.1 (field_shapes c.args.source.now.chunk.now.classes c.args.offsets.now.class_index) r.2
    c.lead-item.result.field layout.shape r.3 (drop_get (field_shapes c.args.source.now.chunk.now.classes c.args.offsets.now.class_index) c.lead-item.result.field layout.shape _ x) in
    let begun : c.index.result.now ≡ p.place = got_is (starts r.0 r.2) c.lead-item.result.field c.index.result.now p.place c.index.result.now p.begins
    (c.index.ensures ∙ ap (λ z. get_or z c.lead-item.result.field c.index.result.now) h.1) in
    let holds : (to : ℕ) × EndsAt c.args.source.now.chunk.now.classes c.args.source.now.chunk.now.bytes layout.shape c.index.result.now to =
    (p.end, subst (λ z. EndsAt c.args.source.now.chunk.now.classes c.args.source.now.chunk.now.bytes layout.shape z p.end) (sym begun) (p.value, p.node)) in
    let known : IsLayoutIfKnown c.args.source.now.chunk.now.classes layout = (let s = f.of_class in record { form = s.form; of_class = λ o h. s }) in
    let depth : DepthBound c.args.source.now.chunk.now.classes c.of_fields-inner.result.composites layout.shape = subst (λ z. DepthBound c.args.source.now.chunk.now.classes z layout.shape)
    (sym composites) (bound_of_first (DepthBound c.args.source.now.chunk.now.classes (c.args.source.now.reach.composites - 1))
    (field_shapes c.args.source.now.chunk.now.classes c.args.offsets.now.class_index) c.lead-item.result.field layout.shape _ c.requires.depth x) in
    let cached = c.loop-lead.invariant.cached in
    search (rules, cached, holds, known, depth, references, composites)

pub push_members-loop-lead-preserved : goal.push_members-loop-lead-preserved
push_members-loop-lead-preserved t c =
    let layouts : IfSome (slice_get c.args.source.now.chunk.now.classes c.args.offsets.now.class_index)
    (λ d. AreFieldLayouts c.args.source.now.chunk.now.classes d.fields c.layouts-layouts.result.now) =
    subst (λ z. IfSome (slice_get z c.args.offsets.now.class_index) (λ d. AreFieldLayouts z d.fields c.layouts-layouts.result.now)) c.classes.ensures c.layouts-layouts.ensures.exact in
    let o = ordered c.args.source.now.chunk.now.classes c.args.offsets.now.class_index c.args.order.now c.deref-lead-items.result.now c.requires.order c.requires.placed
    c.deref-lead-items.ensures.value in
    let g = got c.deref-lead-items.result.now c.loop-lead.lead-index c.lead-item.result c.lead-item.result c.loop-lead-test.true c.lead-item.is in
    let below : c.lead-item.result.field < length c.layouts-layouts.result.now = below_layouts c.args.source.now.chunk.now.classes c.args.offsets.now.class_index c.deref-lead-items.result.now
    c.loop-lead.lead-index c.lead-item.result c.layouts-layouts.result.now o c.requires.placed layouts g in
    let layout = get_or c.layouts-layouts.result.now c.lead-item.result.field no_layout in
    let f = field_of c.args.source.now.chunk.now.classes c.args.offsets.now.class_index c.lead-item.result.field c.layouts-layouts.result.now c.requires.placed layouts below in
    let x = field_next c.args.source.now.chunk.now.classes c.args.offsets.now.class_index c.lead-item.result.field f.field layout.shape f.there f.shape in
    record {
      cached = c.in_ok-_end.ensures.cached;
      laid = λ at to vs r h.
          (let p = placed c.args.source.now.chunk.now.classes c.args.source.now.chunk.now.bytes at to
          (field_shapes c.args.source.now.chunk.now.classes c.args.offsets.now.class_index) vs c.lead-item.result.field layout.shape r
          (drop_get (field_shapes c.args.source.now.chunk.now.classes c.args.offsets.now.class_index) c.lead-item.result.field layout.shape _ x) in
          let begun : c.index.result.now ≡ p.place = got_is (starts at vs) c.lead-item.result.field c.index.result.now p.place c.index.result.now p.begins
          (c.index.ensures ∙ ap (λ z. get_or z c.lead-item.result.field c.index.result.now) h.1) in
          let node : IsNode c.args.source.now.chunk.now.classes c.args.source.now.chunk.now.bytes (node_at layout.shape c.index.result.now p.end) p.value =
          subst (λ z. IsNode c.args.source.now.chunk.now.classes c.args.source.now.chunk.now.bytes (node_at layout.shape z p.end) p.value) (sym begun) p.node in
          let value = (c.in_ok-_end.ensures.ok p.end p.value node).1 ∙ ap
          (λ (z : Reach). string_bytes c.push_str-in-loop-lead.new.self ++ compact_text
          (json_of c.args.source.now.chunk.now.classes (referred_json c.args.source.now.chunk.now z.references) p.value)) c.of_fields-inner.ensures in
          sym (lay_one (lead_of c.lead-item.result) (map lead_of (drop (c.loop-lead.lead-index + 1) c.deref-lead-items.result.now))
          (map lead_of (drop c.loop-lead.lead-index c.deref-lead-items.result.now))
          (json_of_all c.args.source.now.chunk.now.classes (referred_json c.args.source.now.chunk.now c.args.source.now.reach.references) vs)
          (json_of c.args.source.now.chunk.now.classes (referred_json c.args.source.now.chunk.now c.args.source.now.reach.references) p.value) (string_bytes c.loop-lead.out)
          (string_bytes c.push_str-in-loop-lead.new.self) (string_bytes c.push_value.new.out)
          (leads_from c.deref-lead-items.result.now c.loop-lead.lead-index c.lead-item.result g) (c.in_ok-push_str-2.ensures.bytes ∙ ap (λ z. string_bytes c.loop-lead.out ++ z) c.as_str.ensures.value)
          (p.json (referred_json c.args.source.now.chunk.now c.args.source.now.reach.references)) value)
          ∙ c.loop-lead.invariant.laid at to vs r h);
    }

pub push_members-returns : goal.push_members-returns
push_members-returns t c =
    let o = ordered c.args.source.now.chunk.now.classes c.args.offsets.now.class_index c.args.order.now c.deref-lead-items.result.now c.requires.order c.requires.placed
    c.deref-lead-items.ensures.value in
    record {
      cached = c.loop-lead.invariant.cached;
      ok = λ at to vs class r h q.
          let same : o.class ≡ class = (let z : Some o.class ≡ Some class = sym o.there ∙ q in cc) in
          let order = subst (λ (z : Class). IsOrder z.fields (map lead_of c.deref-lead-items.result.now)) same o.order in
          let count = count_json c.args.source.now.chunk.now.classes (referred_json c.args.source.now.chunk.now c.args.source.now.reach.references) vs
          ∙ (ap length r.of_shapes ∙ shapes_count c.args.source.now.chunk.now.classes c.args.offsets.now.class_index class q) in
          let none : drop c.loop-lead.lead-index c.deref-lead-items.result.now ≡ [] = drop_all c.loop-lead.lead-index c.deref-lead-items.result.now (omega arith) in (
            h.0,
            lay_all class.fields (map lead_of c.deref-lead-items.result.now)
                (json_of_all c.args.source.now.chunk.now.classes (referred_json c.args.source.now.chunk.now c.args.source.now.reach.references) vs) (string_bytes c.args.out.now)
                (string_bytes c.push_str.new.self) (string_bytes c.loop-lead.out) (string_bytes c.push_str-2.new.self) order count c.in_ok-push_str.ensures.bytes
                (sym (ap (λ z. string_bytes c.loop-lead.out ++ laid_out (map lead_of z)
                (json_of_all c.args.source.now.chunk.now.classes (referred_json c.args.source.now.chunk.now c.args.source.now.reach.references) vs)) none) ∙ c.loop-lead.invariant.laid at to vs r h)
                c.in_ok-push_str-3.ensures.bytes,
          );
    }
