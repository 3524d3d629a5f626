use Rattle.std.proofs.Common.{refl, arith, length-append}
use Rattle.jfr_layout.proofs.Events.{indices_none, indices_push}
use Rattle.jfr_layout.proofs.event.event_indices.Goals as goal

pub loop-id-init : goal.loop-id-init
loop-id-init c = rw c.in_ok-indices.ensures.items (record { exact = indices_none c.args.resolved.now; count = refl })

pub loop-id-preserved : goal.loop-id-preserved
loop-id-preserved c = rw c.in_ok-push.ensures.items (record {
  exact = indices_push c.args.resolved.now c.loop-id.id c.loop-id.indices.items c.event_index.result c.loop-id.invariant.exact c.loop-id.invariant.count c.event_index.ensures;
  count = simp length-append (omega (arith, c.loop-id.invariant.count));
})
