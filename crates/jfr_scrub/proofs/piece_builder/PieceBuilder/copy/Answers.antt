use Rattle.std.proofs.Common.{arith, refl, sym, subst, ◌≤◌, ◌++◌, ◌∷◌, []}
use Rattle.jfr_scrub.specs.declared.piece.Range.TheVariants.{Copied}
use Rattle.jfr_scrub.specs.Pieces.{Grows, PieceList}
use Rattle.jfr_scrub.proofs.CopiedLaws.{copied_last, grows_left, grows_longer, grows_settled, grows_then, narrower}
use Rattle.jfr_scrub.proofs.PieceLaws.{longer_laid, next_laid}
use Rattle.jfr_scrub.proofs.piece_builder.PieceBuilder.copy.Goals as goal

pub returns-then-from-self : goal.returns-then-from-self
returns-then-from-self c =
    let from = c.self.inside.from in
    let ps = c.self.inside.pieces.pieces in
    record {
      ok = longer_laid c.self.inside.pieces c.args.self.now from c.self.inside.to c.args.from c.args.to c.self.view_is c.if-from-self.true c.self.invariant.0 c.requires.order;
      copied = narrower (ps ++ Copied from c.args.to ∷ []) from c.args.to c.args.from c.args.to (copied_last ps from c.args.to) (subst (λ n. from ≤ n) (sym c.if-from-self.true) c.self.invariant.0)
          (omega arith);
      grows = subst (λ (z : PieceList). Grows z.pieces (ps ++ Copied from c.args.to ∷ []) []) c.self.view_is
          (grows_longer ps from c.self.inside.to c.args.to (subst (λ n. n ≤ c.args.to) c.if-from-self.true c.requires.order));
    }

pub returns : goal.returns
returns c =
    let ps = c.self.inside.pieces.pieces in
    let qs = c.copy.new.self.pieces in
    record {
      ok = next_laid c.self.inside.pieces c.copy.new.self c.args.self.now c.self.inside.from c.self.inside.to c.args.from c.args.to c.self.view_is c.in_ok-copy.ensures.chunk c.in_ok-copy.ensures.ok;
      copied = copied_last qs c.args.from c.args.to;
      grows = subst (λ (z : PieceList). Grows z.pieces (qs ++ Copied c.args.from c.args.to ∷ []) []) c.self.view_is
          (grows_then _ _ _ [] [] (grows_settled ps qs c.self.inside.from c.self.inside.to c.in_ok-copy.ensures.grows c.in_ok-copy.ensures.copied)
          (grows_left qs (Copied c.args.from c.args.to ∷ []) _ refl));
    }
