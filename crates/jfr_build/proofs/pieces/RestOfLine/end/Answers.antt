use Rattle.std.proofs.Common.{◌≡◌, ap, sym, ◌∙◌}
use Rattle.jfr_build.specs.Pieces.{rest_pieces}
use Rattle.jfr_build.proofs.PieceLaws.{some_piece}
use Rattle.jfr_build.proofs.pieces.RestOfLine.end.Goals as goal

pub returns-in-Some-clause-unread : goal.returns-in-Some-clause-unread
returns-in-Some-clause-unread c =
    let e : rest_pieces 32 c.self.inside.rest ≡ c.args.self.now = c.self.view_is in
    λ h. some_piece 32 c.in-Some.field-0.now (sym (ap (rest_pieces 32) c.in-Some.is) ∙ (e ∙ h))
