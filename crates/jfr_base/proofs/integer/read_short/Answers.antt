use Rattle.std.specs.Prelude.{◌+◌, ◌-◌, ◌*◌, ◌<◌, Some, IfSome}
use Rattle.std.proofs.Common.{ap, arith, sym, subst, ◌∙◌}
use Rattle.jfr_base.proofs.Exact.{int_found}
use Rattle.jfr_base.proofs.Shorts.{longer, none_there, one_alone, one_byte, two_bytes}
use Rattle.jfr_base.proofs.integer.read_short.Goals as goal

pub returns-then-at-end-clause-longer : goal.returns-then-at-end-clause-longer
returns-then-at-end-clause-longer c = λ none.
    subst (λ o. IfSome o (λ v. c.args.at + 2 < v.end)) (sym (none_there c.args.bytes.now c.args.at c.args.end c.if-at-end.true)) tt

pub returns-then-first-lt128-clause-exact : goal.returns-then-first-lt128-clause-exact
returns-then-first-lt128-clause-exact c =
    one_byte c.args.bytes.now c.args.at c.args.end (omega (arith, c.if-at-end.false)) c.requires.within (omega (arith, c.from-first.ensures, c.if-first-lt128.true))
    ∙ ap (λ v. Some (record { value = v; end = c.args.at + 1 })) (sym c.from-first.ensures)

pub returns-then-first-lt128-clause-ok : goal.returns-then-first-lt128-clause-ok
returns-then-first-lt128-clause-ok c =
    (int_found c.args.bytes.now c.args.at c.args.end (record { value = c.from-first.result; end = c.args.at + 1 }) c.requires.order c.requires.within (returns-then-first-lt128-clause-exact c)).0

pub returns-then-at-end-2-clause-longer : goal.returns-then-at-end-2-clause-longer
returns-then-at-end-2-clause-longer c = λ none.
    subst (λ o. IfSome o (λ v. c.args.at + 2 < v.end))
    (sym (one_alone c.args.bytes.now c.args.at c.args.end (omega (arith, c.if-at-end.false)) c.if-at-end-2.true c.requires.within (omega (arith, c.from-first.ensures, c.if-first-lt128.false)))) tt

pub returns-then-second-lt128-clause-exact : goal.returns-then-second-lt128-clause-exact
returns-then-second-lt128-clause-exact c =
    two_bytes c.args.bytes.now c.args.at c.args.end (omega (arith, c.if-at-end-2.false)) c.requires.within (omega (arith, c.from-first.ensures, c.if-first-lt128.false))
    (omega (arith, c.type_inv.bytes c.args.at)) (omega (arith, c.from-second.ensures, c.if-second-lt128.true))
    ∙ ap (λ v. Some (record { value = v; end = c.args.at + 2 })) (omega (arith, c.from-first.ensures, c.from-second.ensures))

pub returns-then-second-lt128-clause-ok : goal.returns-then-second-lt128-clause-ok
returns-then-second-lt128-clause-ok c =
    (int_found c.args.bytes.now c.args.at c.args.end (record { value = c.from-first.result - 128 + 128 * c.from-second.result; end = c.args.at + 2 }) c.requires.order c.requires.within
    (returns-then-second-lt128-clause-exact c)).0

pub returns-clause-longer : goal.returns-clause-longer
returns-clause-longer c = λ none.
    longer c.args.bytes.now c.args.at c.args.end (omega (arith, c.if-at-end-2.false)) c.requires.within (omega (arith, c.from-first.ensures, c.if-first-lt128.false))
    (omega (arith, c.from-second.ensures, c.if-second-lt128.false))
