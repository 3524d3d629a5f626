use Rattle.std.proofs.Common.{◌≡◌, ◌+◌, arith, subst, sym}
use Rattle.jfr_verify.specs.Strings.{AddsText}
use Rattle.jfr_verify.proofs.StringLaws.{firsts_next, firsts_end}
use Rattle.jfr_verify.proofs.strings.first_indices.Goals as goal

pub loop-index-preserved : goal.loop-index-preserved
loop-index-preserved c = firsts_next c.args.strings.now c.loop-index.index c.loop-index.firsts c.add_text.new.firsts c.loop-index.invariant c.in_ok-add_text.ensures.ok

pub returns : goal.returns
returns c =
    let n : c.loop-index.index ≡ c.len.result = omega (arith, c.len-index-end.ensures, c.len.ensures, c.loop-index-test.false) in
    firsts_end c.args.strings.now (c.loop-index.index + 1) c.add_text-2.new.firsts (omega (arith, c.len.ensures))
    (firsts_next c.args.strings.now c.loop-index.index c.loop-index.firsts c.add_text-2.new.firsts c.loop-index.invariant
    (subst (λ z. AddsText c.args.strings.now z c.loop-index.firsts c.add_text-2.new.firsts) (sym n) c.in_ok-add_text-2.ensures.ok))
