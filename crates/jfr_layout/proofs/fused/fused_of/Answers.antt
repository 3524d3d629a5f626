use Rattle.std.proofs.Common.{sym, subst}
use Rattle.std.specs.Prelude.{◌+◌}
use Rattle.jfr_layout.proofs.FusedLaws.{PassedTo, passed_more}
use Rattle.jfr_layout.proofs.fused.fused_of.Goals as goal

pub fused_fields-preserved : goal.fused_fields-preserved
fused_fields-preserved c = subst (PassedTo c.args.layouts.now (c.fused_fields.first + c.fused_from-fused.result.fields)) (sym c.in_ok-push.ensures.items)
    (passed_more c.args.layouts.now c.fused_fields.first c.fused_fields.fused_fields.items c.fused_from-fused.result c.fused_fields.invariant c.fused_from-fused.ensures)
