use Rattle.std.proofs.Common.{rules, ap, sym, subst, ◌∙◌, ◌++◌, ◌∷◌}
use Rattle.jfr_scrub.specs.declared.piece.MadePart.TheVariants.{ChunkHeader}
use Rattle.jfr_scrub.specs.declared.piece.Range.TheVariants.{Made}
use Rattle.jfr_scrub.specs.Pieces.{AreMadeBytes, Keeps, PieceList, joined, made_parts}
use Rattle.jfr_scrub.proofs.CopiedLaws.{keeps_behind}
use Rattle.jfr_scrub.proofs.PieceLaws.{headed_first, put_first}
use Rattle.jfr_scrub.proofs.pieces.Pieces.put_header.Goals as goal

pub returns-clause-ok : goal.returns-clause-ok
returns-clause-ok c =
    put_first c.self.inside.chunk.now c.self.inside.made.items c.args.bytes.now c.extend_from_slice.new.self.items c.self.inside.ranges.items c.insert.new.self.items ChunkHeader c.len-from.result
    c.len.result c.self.invariant
    c.in_ok-extend_from_slice.ensures.items (search rules) (search rules) c.in_ok-insert.ensures.items
    ∙ ap (λ z. c.args.bytes.now ++ joined z) c.self.view_is

pub returns-clause-keeps : goal.returns-clause-keeps
returns-clause-keeps c =
    subst (λ (z : PieceList). Keeps z.pieces c.insert.new.self.items) c.self.view_is
    (keeps_behind (Made ChunkHeader c.len-from.result c.len.result) c.self.inside.ranges.items c.insert.new.self.items c.in_ok-insert.ensures.items)

pub returns-clause-made : goal.returns-clause-made
returns-clause-made c = ap made_parts c.in_ok-insert.ensures.items ∙ ap (λ (z : PieceList). ChunkHeader ∷ made_parts z.pieces) c.self.view_is

pub returns-clause-headed : goal.returns-clause-headed
returns-clause-headed c = λ a.
    headed_first c.self.inside.chunk.now c.self.inside.made.items c.args.bytes.now c.extend_from_slice.new.self.items c.self.inside.ranges.items c.insert.new.self.items c.len-from.result c.len.result
    c.self.invariant
    c.in_ok-extend_from_slice.ensures.items (search rules) (search rules) c.in_ok-insert.ensures.items c.requires (subst AreMadeBytes (sym c.self.view_is) a)
