use Rattle.std.proofs.Common.{◌≡◌, ◌+◌, ◌*◌, ◌≤◌, ◌-◌, drop, if◌then◌else◌}
use Rattle.jfr_base.specs.Formats.{for_each, run, times, end_or_flaw}
use Rattle.jfr_layout.specs.Classes.{item_of}
use Rattle.jfr_value.specs.Reading.{class_format, item_format, shape_format}
use Rattle.jfr_value.proofs.TakingLaws.{TakesRemaining}
use Rattle.jfr_value.proofs.extent.+ends.Given as goal

abbrev pub decreases-layout_end : goal.decreases-layout_end
decreases-layout_end g l = 7 * l.levels + (if l.layout.now.shape.array then 4 else 1)

abbrev pub decreases-compound_end : goal.decreases-compound_end
decreases-compound_end g l = 7 * l.levels + (if l.layout.now.shape.array then 3 else 0)

abbrev pub decreases-array_end : goal.decreases-array_end
decreases-array_end g l = 7 * l.levels + 2

abbrev pub decreases-fields_end : goal.decreases-fields_end
decreases-fields_end g l = 7 * l.levels + 5

abbrev pub invariant-fields_end-loop-layout : goal.invariant-fields_end-loop-layout
invariant-fields_end-loop-layout g l = record {
  from : l.at ≤ l.to;
  upto : l.to ≤ l.walk.end;
  same : end_or_flaw (run (for_each (drop l.layout-index l.layouts) (λ s. shape_format (class_format (l.levels + 1) l.walk.classes.now) s.shape)) l.walk.bytes.now l.walk.end l.to)
      ≡ end_or_flaw (run (for_each l.layouts (λ s. shape_format (class_format (l.levels + 1) l.walk.classes.now) s.shape)) l.walk.bytes.now l.walk.end l.at);
  ready : g.V.VisitKey.ready l.visitor l.walk.with.now;
  remaining : TakesRemaining (g.V.VisitKey.takes l.walk.with.now) l.at
      (run (for_each l.layouts (λ s. shape_format (class_format (l.levels + 1) l.walk.classes.now) s.shape)) l.walk.bytes.now l.walk.end l.at)
      l.to (run (for_each (drop l.layout-index l.layouts) (λ s. shape_format (class_format (l.levels + 1) l.walk.classes.now) s.shape)) l.walk.bytes.now l.walk.end l.to) l.initial.visitor l.visitor;
}

abbrev pub invariant-array_end-loop : goal.invariant-array_end-loop
invariant-array_end-loop g l = record {
  from : l.at ≤ l.to;
  upto : l.to ≤ l.walk.end;
  same : end_or_flaw (run (times (l.end - l.counter) (item_format (class_format (l.levels + 1) l.walk.classes.now) (item_of l.layout.shape))) l.walk.bytes.now l.walk.end l.to)
      ≡ end_or_flaw (run (times l.end (item_format (class_format (l.levels + 1) l.walk.classes.now) (item_of l.layout.shape))) l.walk.bytes.now l.walk.end l.initial.to);
  ready : g.V.VisitKey.ready l.visitor l.walk.with.now;
  remaining : TakesRemaining (g.V.VisitKey.takes l.walk.with.now) l.initial.to
      (run (times l.end (item_format (class_format (l.levels + 1) l.walk.classes.now) (item_of l.layout.shape))) l.walk.bytes.now l.walk.end l.initial.to)
      l.to (run (times (l.end - l.counter) (item_format (class_format (l.levels + 1) l.walk.classes.now) (item_of l.layout.shape))) l.walk.bytes.now l.walk.end l.to) l.initial.visitor l.visitor;
}
