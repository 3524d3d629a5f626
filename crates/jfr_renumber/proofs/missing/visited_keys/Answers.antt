use Rattle.std.specs.Prelude.{Contains}
use Rattle.std.proofs.Common.{arith, subst, sym}
use Rattle.jfr_renumber.proofs.MissingLaws.{event_next, events_listed}
use Rattle.jfr_renumber.proofs.missing.visited_keys.Goals as goal

pub loop-number-preserved : goal.loop-number-preserved
loop-number-preserved c = event_next c.args.chunk.now c.args.kept.now c.loop-number.number c.loop-number.list c.list_event.new.list
    (omega (arith, c.loop-number-test.true)) c.loop-number.invariant c.list_event.ensures

pub loop-number-init : goal.loop-number-init
loop-number-init c = λ f. record { all = λ t i. subst (λ z. Contains z t) (sym c.new.ensures.items) i; only = λ t i. subst (λ z. Contains z t) c.new.ensures.items i }

pub returns : goal.returns
returns c = events_listed c.args.chunk.now c.args.kept.now c.loop-number.number c.loop-number.list (omega (arith, c.loop-number-test.false, c.len-number-end.ensures)) c.loop-number.invariant
    c.if-list.false
