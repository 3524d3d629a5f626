use Rattle.std.proofs.Common.{◌≡◌, Some, None, ap, sym, ◌∙◌}
use Rattle.jfr_build.specs.Pieces.{rest_pieces}
use Rattle.jfr_build.proofs.PieceLaws.{words_cut}
use Rattle.jfr_build.proofs.pieces.RestOfLine.next.Goals as goal

pub returns-in-Some : goal.returns-in-Some
returns-in-Some c =
    let e : rest_pieces 32 c.self.inside.rest ≡ c.args.self.now = c.self.view_is in
    sym e ∙ (ap (rest_pieces 32) c.in_ok-rest.was ∙ words_cut c.in_ok-rest.rest.now (Some (c.in-Some.word, c.in-Some.rest)) c.in-Some.ensures.cases)

pub returns-in-None : goal.returns-in-None
returns-in-None c =
    let e : rest_pieces 32 c.self.inside.rest ≡ c.args.self.now = c.self.view_is in
    sym e ∙ (ap (rest_pieces 32) c.in_ok-rest.was ∙ words_cut c.in_ok-rest.rest.now None c.in-None.ensures.cases)
