use Rattle.std.proofs.Common.{ap, drop, sym, ◌∙◌}
use Rattle.jfr_build.specs.ClassLines.{number_at, number_from}
use Rattle.jfr_build.proofs.RegionLaws.{number_after}
use Rattle.jfr_build.proofs.class_lines.number_after.Goals as goal

pub returns-in-Some : goal.returns-in-Some
returns-in-Some c =
    let ls = c.args.lines.now in
    let n = c.in-Some.number in
    c.number_at.ensures ∙ (ap (λ z. number_at z n) c.split_at.ensures.back ∙ (sym (number_after ls c.args.at n c.requires) ∙ ap (number_from (drop c.args.at ls)) (sym c.in-Some.is)))
