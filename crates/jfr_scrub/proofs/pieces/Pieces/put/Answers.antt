use Rattle.std.proofs.Common.{rules, ap, sym, subst, length, ◌∙◌, ◌++◌, ◌∷◌, []}
use Rattle.std.specs.List.{AllByRecursion}
use Rattle.jfr_scrub.specs.declared.piece.Range.TheVariants.{Made}
use Rattle.jfr_scrub.specs.Pieces.{AreMadeBytes, Grows, IsMadeBytesIn, PieceList, joined}
use Rattle.jfr_scrub.proofs.CopiedLaws.{grows_left}
use Rattle.jfr_scrub.proofs.PieceLaws.{lies_last, numbers_last, numbers_more, put_last}
use Rattle.jfr_scrub.proofs.pieces.Pieces.put.Goals as goal

pub returns-in_err-push-clause-numbers : goal.returns-in_err-push-clause-numbers
returns-in_err-push-clause-numbers c = λ a.
    subst (AllByRecursion (IsMadeBytesIn c.extend_from_slice.new.self.items)) (sym (c.in_err-push.ensures.items))
    (subst (λ made. AllByRecursion (IsMadeBytesIn made) c.self.inside.ranges.items) (sym (c.in_ok-extend_from_slice.ensures.items))
    (numbers_more (length c.self.inside.chunk.now) c.self.inside.made.items c.args.bytes.now c.self.inside.ranges.items c.self.invariant (subst AreMadeBytes (sym c.self.view_is) a)))

pub invariant_of-self-2 : goal.invariant_of-self-2
invariant_of-self-2 c =
    lies_last (length c.self.inside.chunk.now) c.self.inside.made.items c.args.bytes.now c.extend_from_slice.new.self.items c.self.inside.ranges.items c.push.new.self.items c.args.part
    c.len-from.result c.len.result c.self.invariant
    c.in_ok-extend_from_slice.ensures.items (search rules) (search rules) c.in_ok-push.ensures.items

pub returns-clause-ok : goal.returns-clause-ok
returns-clause-ok c =
    put_last c.self.inside.chunk.now c.self.inside.made.items c.args.bytes.now c.extend_from_slice.new.self.items c.self.inside.ranges.items c.push.new.self.items c.args.part c.len-from.result
    c.len.result c.self.invariant
    c.in_ok-extend_from_slice.ensures.items (search rules) (search rules) c.in_ok-push.ensures.items
    ∙ ap (λ z. joined z ++ c.args.bytes.now) c.self.view_is

pub returns-clause-grows : goal.returns-clause-grows
returns-clause-grows c =
    subst (λ (z : PieceList). Grows z.pieces c.push.new.self.items (c.args.part ∷ [])) c.self.view_is
    (grows_left c.self.inside.ranges.items (Made c.args.part c.len-from.result c.len.result ∷ []) c.push.new.self.items c.in_ok-push.ensures.items)

pub returns-clause-numbers : goal.returns-clause-numbers
returns-clause-numbers c = λ a.
    numbers_last (length c.self.inside.chunk.now) c.self.inside.made.items c.args.bytes.now c.extend_from_slice.new.self.items c.self.inside.ranges.items c.push.new.self.items c.args.part
    c.len-from.result c.len.result c.self.invariant
    c.in_ok-extend_from_slice.ensures.items (search rules) (search rules) c.in_ok-push.ensures.items c.requires (subst AreMadeBytes (sym c.self.view_is) a)
