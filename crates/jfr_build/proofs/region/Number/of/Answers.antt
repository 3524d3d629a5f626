use Rattle.std.specs.Prelude.{ℕ, option_map}
use Rattle.std.proofs.Common.{ap, sym, ◌∙◌}
use Rattle.jfr_base.specs.Decimal.{decimal_number}
use Rattle.jfr_build.proofs.region.Number.of.Goals as goal

pub returns-in_err-decimal_number : goal.returns-in_err-decimal_number
returns-in_err-decimal_number c =
    let e = ap decimal_number (sym c.digits_of.ensures) ∙ (sym c.decimal_number.ensures.bytes ∙ c.in_err-decimal_number.was) in
    c.from_residual.ensures ∙ sym (ap (option_map (λ (n : ℕ). c.args.word.now)) e)

pub returns : goal.returns
returns c =
    let e = ap decimal_number (sym c.digits_of.ensures) ∙ (sym c.decimal_number.ensures.bytes ∙ c.in_ok-decimal_number.was) in
    sym (ap (option_map (λ (n : ℕ). c.args.word.now)) e)
