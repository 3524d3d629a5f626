use Rattle.std.proofs.Common.{arith, subst, sym, ◌≡◌, ◌-◌, take, slice_set, ap, ◌∙◌}
use Rattle.jfr_base.specs.Integer.{Spells}
use Rattle.jfr_base.specs.Laws.{AreBytes}
use Rattle.jfr_base.proofs.Writing.{filling_start, filling_last, fits_spells, spell_in_bytes}
use Rattle.jfr_base.proofs.integer.write_in.Goals as goal

pub loop-i-init : goal.loop-i-init
loop-i-init c = filling_start c.args.value c.args.count c.args.into.now c.requires.count.0 c.ranges.value.fits c.requires.fits

pub returns-clause-exact : goal.returns-clause-exact
returns-clause-exact c =
    let l = c.loop-i in
    let e : l.i ≡ c.args.count - 1 = omega arith in
    ap (λ i. take c.args.count (slice_set l.into i l.rest)) (sym e) ∙ (filling_last c.args.value c.args.count l.i l.rest l.into l.invariant (omega arith) (omega arith)).1

pub returns-clause-spells : goal.returns-clause-spells
returns-clause-spells c = subst (λ b. Spells b c.args.value) (sym (returns-clause-exact c)) (fits_spells c.args.value c.args.count c.requires.count.0 c.requires.count.1 c.requires.fits)

pub returns-clause-bytes : goal.returns-clause-bytes
returns-clause-bytes c = subst AreBytes (sym (returns-clause-exact c)) (spell_in_bytes c.args.value c.args.count c.requires.count.0 c.ranges.value.fits c.requires.fits)
