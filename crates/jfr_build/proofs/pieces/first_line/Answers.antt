use Rattle.std.proofs.Common.{◌∷◌, Some, None, ap, drop, sym, ◌∙◌}
use Rattle.jfr_build.specs.Pieces.{pieces}
use Rattle.jfr_build.proofs.PieceLaws.{line_cut}
use Rattle.jfr_build.proofs.pieces.first_line.Goals as goal

pub returns-in-Some : goal.returns-in-Some
returns-in-Some c =
    line_cut c.args.text.now (Some c.in-Some.at) (sym c.in-Some.is ∙ c.newline_in.ensures.exact)
    ∙ (ap (λ z. z ∷ pieces 10 (drop 1 (drop c.in-Some.at c.args.text.now))) (sym c.split_at.ensures.front)
    ∙ ap (λ z. c.split_at.result.0.now ∷ pieces 10 z) (sym (c.split_at-in-Some.ensures.back ∙ ap (drop 1) c.split_at.ensures.back)))

pub returns-in-None : goal.returns-in-None
returns-in-None c = line_cut c.args.text.now None (sym c.in-None.is ∙ c.newline_in.ensures.exact)
