use Rattle.std.proofs.Common.{length, sym, subst, ◌≤◌, ◌∷◌, []}
use Rattle.std.specs.List.{AllByRecursion}
use Rattle.jfr_scrub.specs.declared.piece.Range.TheVariants.{Copied}
use Rattle.jfr_scrub.specs.Pieces.{AreMadeBytes, Grows, IsMadeBytesIn, PieceList}
use Rattle.jfr_scrub.proofs.CopiedLaws.{grows_left}
use Rattle.jfr_scrub.proofs.PieceLaws.{lies_range, numbers_range}
use Rattle.jfr_scrub.proofs.pieces.Pieces.copy.Goals as goal

pub returns-in_err-push-clause-numbers : goal.returns-in_err-push-clause-numbers
returns-in_err-push-clause-numbers c = λ a. subst (AllByRecursion (IsMadeBytesIn c.self.inside.made.items)) (sym (c.in_err-push.ensures.items)) (subst AreMadeBytes (sym c.self.view_is) a)

pub invariant_of-self-2 : goal.invariant_of-self-2
invariant_of-self-2 c =
    lies_range _ _ c.self.inside.ranges.items c.push.new.self.items c.args.from c.args.to c.self.invariant c.in_ok-push.ensures.items c.requires.order
    (subst (λ (z : PieceList). c.args.to ≤ length z.chunk) (sym c.self.view_is) c.requires.within)

pub returns-clause-grows : goal.returns-clause-grows
returns-clause-grows c =
    subst (λ (z : PieceList). Grows z.pieces c.push.new.self.items []) c.self.view_is
    (grows_left c.self.inside.ranges.items (Copied c.args.from c.args.to ∷ []) c.push.new.self.items c.in_ok-push.ensures.items)

pub returns-clause-numbers : goal.returns-clause-numbers
returns-clause-numbers c = λ a. numbers_range c.self.inside.made.items c.self.inside.ranges.items c.push.new.self.items c.args.from c.args.to c.in_ok-push.ensures.items
    (subst AreMadeBytes (sym c.self.view_is) a)
