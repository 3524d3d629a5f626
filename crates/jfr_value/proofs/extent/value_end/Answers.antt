use Rattle.std.proofs.Common.{◌∙◌}
use Rattle.std.specs.Prelude.{slice_get}
use Rattle.jfr_value.specs.Reading.{value_format}
use Rattle.jfr_value.specs.Values.{IsLayoutOrKey}
use Rattle.jfr_value.specs.Walks.{DepthBound}
use Rattle.jfr_value.proofs.DepthLaws.{sound_inline}
use Rattle.jfr_value.proofs.EndLaws.{layouts_there}
use Rattle.jfr_value.proofs.FusedLaws.{row_fused, row_layouts}
use Rattle.jfr_value.proofs.LayoutLaws.{layout_within}
use Rattle.jfr_value.proofs.LayoutEnds.{fields_end, fields_go, depth_within}
use Rattle.jfr_value.proofs.extent.value_end.Goals as goal

pub all_fields_end-requires-clause-depth : goal.all_fields_end-requires-clause-depth
all_fields_end-requires-clause-depth g c =
    let p : IsLayoutOrKey c.args.walk.classes.now c.args.layout.now = record { form = c.requires.layout.form; of_class = λ o. c.requires.layout } in
    let r : DepthBound c.args.walk.classes.now 33 c.args.layout.now.shape = λ o d q m. sound_inline c.args.walk.classes.now c.args.layout.now.shape.class d c.requires.sound q in
    let layouts = row_layouts c.args.walk.classes.now (slice_get c.args.walk.classes.now c.args.layout.now.class_index) c.class_layout-class_layout.result.now c.class_layout-class_layout.ensures in
    depth_within c.args.walk.classes.now c.args.layout.now 33 c.class_layout-class_layout.result.now.layouts.items p c.in-Fields.is r layouts

pub all_fields_end-requires-clause-layouts : goal.all_fields_end-requires-clause-layouts
all_fields_end-requires-clause-layouts g c =
    layouts_there c.args.walk.classes.now c.args.layout.now c.class_layout-class_layout.result.now.layouts.items c.requires.layout
    (row_layouts c.args.walk.classes.now (slice_get c.args.walk.classes.now c.args.layout.now.class_index) c.class_layout-class_layout.result.now c.class_layout-class_layout.ensures)

pub all_fields_end-requires-clause-fused_fields : goal.all_fields_end-requires-clause-fused_fields
all_fields_end-requires-clause-fused_fields g c = row_fused c.args.walk.classes.now c.args.layout.now.class_index c.class_layout-class_layout.result.now
    (layout_within c.args.walk.classes.now c.args.layout.now c.requires.layout) c.class_layout-class_layout.ensures

pub returns-in-Fields-clause-exact : goal.returns-in-Fields-clause-exact
unfolding value_format
returns-in-Fields-clause-exact g c =
    let p : IsLayoutOrKey c.args.walk.classes.now c.args.layout.now = record { form = c.requires.layout.form; of_class = λ o. c.requires.layout } in
    let r : DepthBound c.args.walk.classes.now 33 c.args.layout.now.shape = λ o d q m. sound_inline c.args.walk.classes.now c.args.layout.now.shape.class d c.requires.sound q in
    let layouts = row_layouts c.args.walk.classes.now (slice_get c.args.walk.classes.now c.args.layout.now.class_index) c.class_layout-class_layout.result.now c.class_layout-class_layout.ensures in
    c.all_fields_end.ensures.exact ∙ fields_end c.args.walk.classes.now c.args.layout.now 33 c.args.walk.bytes.now c.args.walk.end c.args.at p c.class_layout-class_layout.result.now.layouts.items
    c.in-Fields.is r layouts

pub returns-in-Fields-clause-visited : goal.returns-in-Fields-clause-visited
unfolding value_format
returns-in-Fields-clause-visited g c =
    let p : IsLayoutOrKey c.args.walk.classes.now c.args.layout.now = record { form = c.requires.layout.form; of_class = λ o. c.requires.layout } in
    let r : DepthBound c.args.walk.classes.now 33 c.args.layout.now.shape = λ o d q m. sound_inline c.args.walk.classes.now c.args.layout.now.shape.class d c.requires.sound q in
    let layouts = row_layouts c.args.walk.classes.now (slice_get c.args.walk.classes.now c.args.layout.now.class_index) c.class_layout-class_layout.result.now c.class_layout-class_layout.ensures in
    fields_go c.args.walk.classes.now c.args.layout.now 33 c.args.walk.bytes.now c.args.walk.end c.args.at p
    (g.V.VisitKey.takes c.args.walk.with.now) c.args.visitor.now c.all_fields_end.new.visitor c.requires.order c.args.walk.within c.class_layout-class_layout.result.now.layouts.items
    c.in-Fields.is r layouts
    c.all_fields_end.ensures.visited
