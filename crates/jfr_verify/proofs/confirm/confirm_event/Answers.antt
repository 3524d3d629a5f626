use Rattle.std.proofs.Common.{false, sym}
use Rattle.jfr_verify.proofs.ClaimLaws.{unclaimed_confirms}
use Rattle.jfr_verify.proofs.GivenEntries.{given_within}
use Rattle.jfr_verify.proofs.ParentLaws.{get_here}
use Rattle.jfr_verify.proofs.confirm.confirm_event.Goals as goal

pub returns-then-not-claimed-number : goal.returns-then-not-claimed-number
returns-then-not-claimed-number c = λ e i. unclaimed_confirms c.args.claims.now c.args.claimed.now c.args.number _ c.requires.claimed
    (get_here c.args.claimed.now c.args.number false false c.requires.within (sym c.if-not-claimed-number.true))

pub confirm_each-requires : goal.confirm_each-requires
confirm_each-requires c = given_within c.args.chunk.now c.in-Some.entries.now _ _ c.requires.size c.in-Some.ensures
