use Rattle.std.proofs.Common.{◌≡◌, ◌+◌, ◌≤◌}
use Rattle.jfr_base.specs.Formats.{run, end_or_flaw}
use Rattle.jfr_value.specs.Reading.{values_format}
use Rattle.jfr_value.specs.declared.walk.TheConstants.{INNER_LEVELS}
use Rattle.jfr_value.proofs.FusedLaws.{left_by}
use Rattle.jfr_value.proofs.TakingLaws.{TakesRemaining}
use Rattle.jfr_value.proofs.extent.all_fields_end.Given as goal

abbrev pub invariant-loop-fused : goal.invariant-loop-fused
invariant-loop-fused g l = record {
  from : l.at ≤ l.to;
  upto : l.to ≤ l.walk.end;
  same : end_or_flaw (run (values_format (INNER_LEVELS + 1) l.walk.classes.now (left_by l.class_layout.layouts.items l.class_layout.fused_fields.items l.fused-index)) l.walk.bytes.now l.walk.end l.to) ≡ end_or_flaw (run (values_format (INNER_LEVELS + 1) l.walk.classes.now l.class_layout.layouts.items) l.walk.bytes.now l.walk.end l.at);
  ready : g.V.VisitKey.ready l.visitor l.walk.with.now;
  remaining : TakesRemaining (g.V.VisitKey.takes l.walk.with.now) l.at (run (values_format (INNER_LEVELS + 1) l.walk.classes.now l.class_layout.layouts.items) l.walk.bytes.now l.walk.end l.at)
      l.to (run (values_format (INNER_LEVELS + 1) l.walk.classes.now (left_by l.class_layout.layouts.items l.class_layout.fused_fields.items l.fused-index)) l.walk.bytes.now l.walk.end l.to)
      l.initial.visitor l.visitor;
}
