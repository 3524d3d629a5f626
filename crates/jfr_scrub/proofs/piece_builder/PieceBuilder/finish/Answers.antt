use Rattle.std.proofs.Common.{ap, subst, ◌∙◌, ◌++◌, ◌∷◌}
use Rattle.jfr_scrub.specs.declared.piece.MadePart.TheVariants.{ChunkHeader}
use Rattle.jfr_scrub.specs.Pieces.{Keeps, PieceList, joined}
use Rattle.jfr_scrub.proofs.CopiedLaws.{keeps_settled, keeps_then, settled_parts}
use Rattle.jfr_scrub.proofs.PieceLaws.{finished}
use Rattle.jfr_scrub.proofs.piece_builder.PieceBuilder.finish.Goals as goal

pub returns-clause-ok : goal.returns-clause-ok
returns-clause-ok c =
    finished c.self.inside.pieces c.args.self c.args.header.now (joined c.put_header.new.self) c.self.inside.from c.self.inside.to c.self.view_is
    (c.in_ok-put_header.ensures.ok ∙ ap (λ z. c.args.header.now ++ z) c.in_ok-copy.ensures.ok)

pub returns-clause-keeps : goal.returns-clause-keeps
returns-clause-keeps c =
    subst (λ (z : PieceList). Keeps z.pieces c.put_header.new.self.pieces) c.self.view_is
    (keeps_then _ _ _ (keeps_settled c.self.inside.pieces.pieces c.copy.new.self.pieces c.self.inside.from c.self.inside.to c.in_ok-copy.ensures.grows.keeps c.in_ok-copy.ensures.copied)
    c.in_ok-put_header.ensures.keeps)

pub returns-clause-made : goal.returns-clause-made
returns-clause-made c =
    c.in_ok-put_header.ensures.made
    ∙ ap (λ z. ChunkHeader ∷ z) (settled_parts c.self.inside.pieces.pieces c.copy.new.self.pieces c.args.self.pieces c.self.inside.from c.self.inside.to c.in_ok-copy.ensures.grows
    (ap (λ (z : PieceList). z.pieces) c.self.view_is))
