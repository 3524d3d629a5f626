use Rattle.std.specs.Prelude.{◌+◌, length, Some}
use Rattle.std.proofs.Common.{ap, arith, sym, ◌∙◌}
use Rattle.jfr_base.proofs.Shorts.{one_byte, two_bytes}
use Rattle.jfr_frame.proofs.framed.usual_type.Goals as goal

pub returns-then-first-lt128-clause-exact : goal.returns-then-first-lt128-clause-exact
returns-then-first-lt128-clause-exact c =
    one_byte c.args.chunk.now c.args.at (length c.args.chunk.now) (omega (arith, c.requires.room)) (omega arith) (omega (arith, c.from-first.ensures, c.if-first-lt128.true))
    ∙ ap (λ v. Some (record { value = v; end = c.args.at + 1 })) (sym c.from-first.ensures)

pub returns-clause-exact : goal.returns-clause-exact
returns-clause-exact c =
    two_bytes c.args.chunk.now c.args.at (length c.args.chunk.now) (omega (arith, c.requires.room)) (omega arith) (omega (arith, c.from-first.ensures, c.if-first-lt128.false))
    (omega (arith, c.type_inv.chunk c.args.at)) (omega (arith, c.from-second.ensures, c.if-second-ge128.false))
    ∙ ap (λ v. Some (record { value = v; end = c.args.at + 2 })) (omega (arith, c.from-first.ensures, c.from-second.ensures))
