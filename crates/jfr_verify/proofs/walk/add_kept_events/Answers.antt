use Rattle.std.proofs.Common.{ap}
use Rattle.jfr_verify.specs.declared.lines.Lines.{Lines}
use Rattle.jfr_verify.proofs.KeptWalkLaws.{in_kept_next}
use Rattle.jfr_verify.proofs.walk.add_kept_events.Goals as goal

pub loop-number-preserved : goal.loop-number-preserved
loop-number-preserved c =
    let old : Lines = c.loop-number.lines in
    let new : Lines = c.add_kept_event.new.lines in
    in_kept_next c.args.chunk.now c.args.kept.now c.loop-number.number c.loop-number.rank c.add_kept_event.new.rank old.flags.items new.flags.items old.items.items new.items.items
    c.loop-number.invariant
    (λ e k. (let a = c.add_kept_event.ensures.adds e k in (a.marks, a.lines, c.add_kept_event.ensures.next e k)))
    (λ k. (let a = c.add_kept_event.ensures.none k in (ap (λ (z : Lines). z.flags.items) a, ap (λ (z : Lines). z.items.items) a, c.add_kept_event.ensures.same k)))
