use Rattle.std.proofs.Common.{ap, arith, refl, subst, get_or}
use Rattle.std.specs.Prelude.{slice_get, IfSome}
use Rattle.jfr_layout.specs.Classes.{AreFieldLayouts}
use Rattle.jfr_value.proofs.LayoutLaws.{few_fields, field_of, no_layout}
use Rattle.jfr_value.proofs.VisitLaws.{field_next, fields_past}
use Rattle.jfr_show.proofs.LeftLaws.{left_there, left_goes, left_ends}
use Rattle.jfr_show.proofs.PlacedLaws.{onto_starts, no_starts, one_start}
use Rattle.jfr_show.proofs.json.offsets.field_offsets.Goals as goal

pub loop-layout-init : goal.loop-layout-init
loop-layout-init c = λ to vs r. record { others = vs; row = r; rest = ap (λ z. onto_starts c.args.chunk.now.classes c.args.chunk.now.bytes c.args.at z vs) c.in_ok-starts.ensures.items }

pub end_at-end-requires-clause-layout : goal.end_at-end-requires-clause-layout
end_at-end-requires-clause-layout c =
    let k = c.args.chunk.now.classes in
    let layouts : IfSome (slice_get k c.args.class_index) (λ d. AreFieldLayouts k d.fields c.layouts-layouts.result.now) =
    subst (λ z. IfSome (slice_get z c.args.class_index) (λ d. AreFieldLayouts z d.fields c.layouts-layouts.result.now)) c.classes.ensures c.layouts-layouts.ensures.exact in
    (field_of k c.args.class_index c.loop-layout.layout-index c.layouts-layouts.result.now c.requires.placed layouts c.loop-layout-test.true).of_class

pub end_at-end-requires-clause-within : goal.end_at-end-requires-clause-within
end_at-end-requires-clause-within c =
    let k = c.args.chunk.now.classes in
    let b = c.args.chunk.now.bytes in
    let layouts : IfSome (slice_get k c.args.class_index) (λ d. AreFieldLayouts k d.fields c.layouts-layouts.result.now) =
    subst (λ z. IfSome (slice_get z c.args.class_index) (λ d. AreFieldLayouts z d.fields c.layouts-layouts.result.now)) c.classes.ensures c.layouts-layouts.ensures.exact in
    let layout = get_or c.layouts-layouts.result.now c.loop-layout.layout-index no_layout in
    let f = field_of k c.args.class_index c.loop-layout.layout-index c.layouts-layouts.result.now c.requires.placed layouts c.loop-layout-test.true in
    let r = c.requires.valid in
    let h = left_there k b r.0 _ _ layout.shape _ _ c.loop-layout.end c.loop-layout.starts.items (c.loop-layout.invariant r.0 r.1 r.2)
    (field_next k c.args.class_index c.loop-layout.layout-index f.field layout.shape f.there f.shape) in
    (let o = h.node.order in let w = h.node.within in omega arith)

pub end_at-end-requires-clause-holds : goal.end_at-end-requires-clause-holds
end_at-end-requires-clause-holds c =
    let k = c.args.chunk.now.classes in
    let b = c.args.chunk.now.bytes in
    let layouts : IfSome (slice_get k c.args.class_index) (λ d. AreFieldLayouts k d.fields c.layouts-layouts.result.now) =
    subst (λ z. IfSome (slice_get z c.args.class_index) (λ d. AreFieldLayouts z d.fields c.layouts-layouts.result.now)) c.classes.ensures c.layouts-layouts.ensures.exact in
    let layout = get_or c.layouts-layouts.result.now c.loop-layout.layout-index no_layout in
    let f = field_of k c.args.class_index c.loop-layout.layout-index c.layouts-layouts.result.now c.requires.placed layouts c.loop-layout-test.true in
    let r = c.requires.valid in
    let h = left_there k b r.0 _ _ layout.shape _ _ c.loop-layout.end c.loop-layout.starts.items (c.loop-layout.invariant r.0 r.1 r.2)
    (field_next k c.args.class_index c.loop-layout.layout-index f.field layout.shape f.there f.shape) in
    (h.place, (h.value, h.node))

pub loop-layout-preserved : goal.loop-layout-preserved
loop-layout-preserved c =
    let k = c.args.chunk.now.classes in
    let b = c.args.chunk.now.bytes in
    let layouts : IfSome (slice_get k c.args.class_index) (λ d. AreFieldLayouts k d.fields c.layouts-layouts.result.now) =
    subst (λ z. IfSome (slice_get z c.args.class_index) (λ d. AreFieldLayouts z d.fields c.layouts-layouts.result.now)) c.classes.ensures c.layouts-layouts.ensures.exact in
    let layout = get_or c.layouts-layouts.result.now c.loop-layout.layout-index no_layout in
    let f = field_of k c.args.class_index c.loop-layout.layout-index c.layouts-layouts.result.now c.requires.placed layouts c.loop-layout-test.true in
    let x = field_next k c.args.class_index c.loop-layout.layout-index f.field layout.shape f.there f.shape in
    λ to vs r. left_goes k b to _ (onto_starts k b c.loop-layout.end) (onto_starts k b c.end_at-end.result) layout.shape _ _ c.loop-layout.end c.loop-layout.starts.items c.end_at-end.result
    c.push.new.self.items (c.loop-layout.invariant to vs r) x
    (λ p v n. let e = c.end_at-end.ensures p
    (v, n) in (e, λ ws. one_start k b layout.shape c.loop-layout.end p c.end_at-end.result c.loop-layout.starts.items c.push.new.self.items v ws n e c.in_ok-push.ensures.items))

pub returns : goal.returns
returns c =
    let k = c.args.chunk.now.classes in
    let b = c.args.chunk.now.bytes in
    let layouts : IfSome (slice_get k c.args.class_index) (λ d. AreFieldLayouts k d.fields c.layouts-layouts.result.now) =
    subst (λ z. IfSome (slice_get z c.args.class_index) (λ d. AreFieldLayouts z d.fields c.layouts-layouts.result.now)) c.classes.ensures c.layouts-layouts.ensures.exact in
    let past = fields_past k c.args.class_index c.loop-layout.layout-index c.requires.placed
    (few_fields k c.args.class_index c.loop-layout.layout-index c.layouts-layouts.result.now c.requires.placed layouts c.loop-layout-test.false) in
    record {
      class = refl;
      ok = λ to vs r. left_ends k b to _ (onto_starts k b c.loop-layout.end) _ c.loop-layout.end c.loop-layout.starts.items (c.loop-layout.invariant to vs r) past
          (no_starts k b c.loop-layout.end c.loop-layout.starts.items);
    }
