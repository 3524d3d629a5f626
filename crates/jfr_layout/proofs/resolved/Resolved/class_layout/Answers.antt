use Rattle.std.proofs.Common.{arith}
use Rattle.jfr_layout.proofs.FieldLayouts.{class_layout_at, class_layouts_within}
use Rattle.jfr_layout.proofs.resolved.Resolved.class_layout.Goals as goal

pub index-requires : goal.index-requires
index-requires c = omega (
  arith,
  c.self.inside.class_layouts.ok.0,
  class_layouts_within c.self.inside.list c.self.inside.class_layouts.items c.args.index c.self.invariant.class_layout_each (rw (← c.self.view_is) at c.requires),
)

pub returns : goal.returns
returns c = rw (← c.self.view_is) (class_layout_at c.self.inside.list c.self.inside.class_layouts.items c.args.index c.index.result.now
    c.self.invariant.class_layout_each (rw (← c.self.view_is) at c.requires) c.index.ensures)
