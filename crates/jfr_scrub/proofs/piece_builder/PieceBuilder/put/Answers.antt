use Rattle.std.proofs.Common.{refl, subst, ◌++◌, ◌∷◌, []}
use Rattle.jfr_scrub.specs.declared.piece.Range.TheVariants.{Copied}
use Rattle.jfr_scrub.specs.Pieces.{Grows, PieceList}
use Rattle.jfr_scrub.proofs.CopiedLaws.{grows_left, grows_settled, grows_then}
use Rattle.jfr_scrub.proofs.PieceLaws.{made_laid}
use Rattle.jfr_scrub.proofs.piece_builder.PieceBuilder.put.Goals as goal

pub returns : goal.returns
returns c =
    let ps = c.self.inside.pieces.pieces in
    let qs = c.copy.new.self.pieces in
    let rs = c.put.new.self.pieces in
    record {
      ok = made_laid c.self.inside.pieces c.copy.new.self c.put.new.self c.args.self.now c.args.bytes.now c.self.inside.from c.self.inside.to c.self.view_is c.in_ok-copy.ensures.chunk
          c.in_ok-copy.ensures.ok c.in_ok-put.ensures.chunk c.in_ok-put.ensures.ok;
      grows = subst (λ (z : PieceList). Grows z.pieces (rs ++ Copied 0 0 ∷ []) (c.args.part ∷ [])) c.self.view_is
          (grows_then _ _ _ [] (c.args.part ∷ []) (grows_settled ps qs c.self.inside.from c.self.inside.to c.in_ok-copy.ensures.grows c.in_ok-copy.ensures.copied)
          (grows_then _ _ _ (c.args.part ∷ []) [] c.in_ok-put.ensures.grows (grows_left rs (Copied 0 0 ∷ []) _ refl)));
    }
