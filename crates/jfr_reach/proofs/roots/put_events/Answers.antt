use Rattle.std.proofs.Common.{Some, ap, arith, false, refl, sym, true, ◌∙◌}
use Rattle.std.specs.Prelude.{slice_get}
use Rattle.std.proofs.lemmas.Option.{slice_get-get_or}
use Rattle.jfr_reach.proofs.EventWalk.{events_next}
use Rattle.jfr_reach.proofs.roots.put_events.Goals as goal

pub loop-number-preserved-then-not-keep : goal.loop-number-preserved-then-not-keep
loop-number-preserved-then-not-keep g c =
    let l = c.loop-number in
    let there = ap (λ z. slice_get z l.number) (sym c.as_slice-keep-items.ensures) ∙ (slice_get-get_or c.as_slice-keep-items.result.now l.number false (omega arith) ∙ ap Some c.if-not-keep.true) in
    events_next c.args.chunk.now c.args.kept.now c.args.list.now.flags.items c.args.list.now.order.items c.args.steps.now l.list.flags.items l.list.flags.items l.list.order.items l.list.order.items
    l.number l.steps l.steps false there l.invariant refl refl (omega arith)

pub loop-number-preserved : goal.loop-number-preserved
loop-number-preserved g c =
    let l = c.loop-number in
    let there = ap (λ z. slice_get z l.number) (sym c.as_slice-keep-items.ensures) ∙ (slice_get-get_or c.as_slice-keep-items.result.now l.number false (omega arith) ∙ ap Some c.if-not-keep.false) in
    events_next c.args.chunk.now c.args.kept.now c.args.list.now.flags.items c.args.list.now.order.items c.args.steps.now l.list.flags.items c.put_event.new.list.flags.items l.list.order.items
    c.put_event.new.list.order.items
    l.number l.steps c.put_event.new.steps true there l.invariant c.put_event.ensures.puts.marks c.put_event.ensures.puts.order c.put_event.ensures.cost
