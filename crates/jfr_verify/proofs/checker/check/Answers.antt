use Rattle.jfr_verify.proofs.CheckLaws.{checked_verified}
use Rattle.jfr_verify.proofs.checker.check.Goals as goal

pub returns-in-Ok-clause-verified : goal.returns-in-Ok-clause-verified
returns-in-Ok-clause-verified c =
    checked_verified c.args.filter.now c.args.a.now c.args.b.now c.args.receipt.now c.parts_are_valid.ensures.parts c.parts_are_valid-2.ensures.parts _ c.in-Ok.ensures.ok c.check_kept.result
    c.check_kept.ensures c.answer.result c.answer.ensures
