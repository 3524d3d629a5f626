use Rattle.std.proofs.Common.{arith, subst, sym, ◌≡◌}
use Rattle.jfr_base.specs.Integer.{Spells}
use Rattle.jfr_base.specs.Laws.{AreBytes}
use Rattle.jfr_base.proofs.Spelling.{spell_spells}
use Rattle.jfr_base.proofs.Writing.{Writing, writing_start, writing_last, writing_ninth, spell_bytes}
use Rattle.jfr_base.proofs.integer.write_var.Goals as goal

pub loop-i-init : goal.loop-i-init
loop-i-init c = writing_start c.args.value c.args.into.now c.ranges.value.fits

pub returns-then-rest-lt128-clause-exact : goal.returns-then-rest-lt128-clause-exact
returns-then-rest-lt128-clause-exact c = let l = c.loop-i in writing_last c.args.value l.i l.rest l.into l.invariant (omega arith) c.if-rest-lt128.true

pub returns-then-rest-lt128-clause-spells : goal.returns-then-rest-lt128-clause-spells
returns-then-rest-lt128-clause-spells c = subst (λ b. Spells b c.args.value) (sym (returns-then-rest-lt128-clause-exact c)) (spell_spells c.args.value)

pub returns-then-rest-lt128-clause-bytes : goal.returns-then-rest-lt128-clause-bytes
returns-then-rest-lt128-clause-bytes c = subst AreBytes (sym (returns-then-rest-lt128-clause-exact c)) (spell_bytes c.args.value c.ranges.value.fits)

pub returns-clause-exact : goal.returns-clause-exact
returns-clause-exact c =
    let l = c.loop-i in
    let e : l.i ≡ 8 = omega arith in
    (writing_ninth c.args.value l.rest l.into (subst (λ i. Writing c.args.value i l.rest l.into) e l.invariant) (omega arith)).1

pub returns-clause-spells : goal.returns-clause-spells
returns-clause-spells c = subst (λ b. Spells b c.args.value) (sym (returns-clause-exact c)) (spell_spells c.args.value)

pub returns-clause-bytes : goal.returns-clause-bytes
returns-clause-bytes c = subst AreBytes (sym (returns-clause-exact c)) (spell_bytes c.args.value c.ranges.value.fits)
