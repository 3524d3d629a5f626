use Rattle.std.proofs.Common.{rules, ap, sym, ◌∙◌, ◌-ℤ◌, ◌*ℤ◌, FitsSigned, w64}
use Rattle.std.proofs.lemmas.Int.{to_z-of_z}
use Rattle.std.specs.Prelude.{option_map, Some}
use Rattle.jfr_path.proofs.WindowLaws.{product_fits, product_is}
use Rattle.jfr_path.proofs.window.billionths_until.Goals as goal

pub overflow_mul-result : goal.overflow_mul-result
overflow_mul-result c =
    let f : FitsSigned w64 c.in_ok-moment.moment = search rules in
    product_fits c.from.result c.from-2.result c.from-3.result c.in_ok-moment.moment c.args.nanos c.args.rate
    (c.from.ensures ∙ to_z-of_z w64 c.in_ok-moment.moment f) (c.from-2.ensures ∙ to_z-of_z w64 c.args.nanos c.ranges.nanos)
    (c.from-3.ensures ∙ to_z-of_z w64 c.args.rate c.ranges.rate) f c.ranges.nanos c.ranges.rate

pub returns : goal.returns
returns c =
    let f : FitsSigned w64 c.in_ok-moment.moment = search rules in
    ap (λ z. Some z)
    (product_is c.from.result c.from-2.result c.from-3.result c.in_ok-moment.moment c.args.nanos c.args.rate
    (c.from.ensures ∙ to_z-of_z w64 c.in_ok-moment.moment f) (c.from-2.ensures ∙ to_z-of_z w64 c.args.nanos c.ranges.nanos)
    (c.from-3.ensures ∙ to_z-of_z w64 c.args.rate c.ranges.rate) f c.ranges.nanos c.ranges.rate)
    ∙ sym (ap (option_map (λ m. (m -ℤ c.args.nanos) *ℤ c.args.rate)) c.in_ok-moment.was)
