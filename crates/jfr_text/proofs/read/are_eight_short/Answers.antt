use Rattle.std.proofs.Common.{arith}
use Rattle.std.proofs.Math.Facts.{Fits-lt-pow}
use Rattle.jfr_text.proofs.TopBits.{no_top_bit}
use Rattle.jfr_text.proofs.read.are_eight_short.Goals as goal

pub returns : goal.returns
returns c =
    no_top_bit c.args.bytes.now c.in-Some.eight.now c.args.at c.from_le_bytes.result (λ k. omega (arith, Fits-lt-pow (c.type_inv.bytes k))) c.in-Some.ensures.cases.same c.from_le_bytes.ensures
