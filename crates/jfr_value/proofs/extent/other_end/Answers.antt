use Rattle.jfr_value.proofs.DepthLaws.{sound_inline}
use Rattle.jfr_value.proofs.EndLaws.{hollow_count}
use Rattle.jfr_value.proofs.LayoutLaws.{layout_within}
use Rattle.jfr_value.proofs.TakingLaws.{hollow_taken}
use Rattle.jfr_value.specs.Reading.{value_format}
use Rattle.jfr_value.proofs.extent.other_end.Goals as goal
use Rattle.std.proofs.Common.{◌∙◌}

pub is_hollow_array-requires : goal.is_hollow_array-requires
is_hollow_array-requires g c = layout_within c.args.walk.classes.now c.args.layout.now c.requires.layout

pub returns-then-is_hollow_array : goal.returns-then-is_hollow_array
returns-then-is_hollow_array g c = record {
  exact = c.integer_end.ensures.exact ∙ hollow_count c.args.walk.classes.now c.args.layout.now c.is_hollow_array.result c.args.walk.bytes.now c.args.walk.end c.args.at c.requires.layout
      c.is_hollow_array.ensures c.if-is_hollow_array.true;
  visited = hollow_taken (g.V.VisitKey.takes c.args.walk.with.now) c.args.walk.classes.now c.args.walk.bytes.now c.args.walk.end c.args.at c.requires.order c.args.walk.within c.args.visitor.now
      c.args.layout.now c.is_hollow_array.result
      c.requires.layout c.is_hollow_array.ensures c.if-is_hollow_array.true;
  ready = c.requires.ready;
}

pub layout_end-requires-clause-placed : goal.layout_end-requires-clause-placed
layout_end-requires-clause-placed g c = record { form = c.requires.layout.form; of_class = λ o. c.requires.layout }

pub layout_end-requires-clause-depth : goal.layout_end-requires-clause-depth
layout_end-requires-clause-depth g c = λ o d q m. sound_inline c.args.walk.classes.now c.args.layout.now.shape.class d c.requires.sound q

pub returns : goal.returns
unfolding value_format
returns g c = record {
  exact = c.layout_end.ensures.exact;
  visited = c.layout_end.ensures.visited;
  ready = c.layout_end.ensures.ready;
}
