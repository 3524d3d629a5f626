use Rattle.std.proofs.Common.{◌-◌, ◌∷◌, drop, bit_and, sym, ap, ◌∙◌, arith}
use Rattle.std.proofs.lemmas.Grind.{and_numeral}
use Rattle.jfr_text.specs.Spans.{first_integers}
use Rattle.jfr_text.specs.Strings.{low_units}
use Rattle.jfr_text.proofs.IntegerSteps.{none_left, none_stands, one_stands}
use Rattle.jfr_text.proofs.ListSteps.{goes_on}
use Rattle.jfr_text.proofs.units.UnitsIterator.next.Goals as goal

pub returns-then-self-eq0-clause-steps : goal.returns-then-self-eq0-clause-steps
returns-then-self-eq0-clause-steps c =
    let e = sym c.self.view_is ∙ ap low_units (none_left c.self.inside.unread c.self.inside.rest.now c.if-self-eq0.true) in
    (e, e)

pub returns-in_default-clause-steps : goal.returns-in_default-clause-steps
returns-in_default-clause-steps c =
    let e = sym c.self.view_is ∙ ap low_units (none_stands c.self.inside.unread c.self.inside.rest.now c.in_default.ensures.exact.0) in
    (e, e)

pub split_at-requires : goal.split_at-requires
split_at-requires c = omega (arith, c.in-Ok.ensures.range)

step : goal.returns-clause-steps
step c =
    let v = c.in-Ok.field-0 in
    let rest = c.self.inside.rest.now in
    sym c.self.view_is ∙ (ap low_units (one_stands c.self.inside.unread rest v c.if-self-eq0.false c.in-Ok.ensures.exact)
    ∙ (ap (λ u. u ∷ low_units (first_integers (c.self.inside.unread - 1) (drop v.end rest))) (sym (and_numeral v.value 65534 cc))
    ∙ ap (λ r. bit_and v.value 65535 ∷ low_units (first_integers (c.self.inside.unread - 1) r)) (sym c.split_at.ensures.back)))

pub returns-clause-steps : goal.returns-clause-steps
returns-clause-steps c = step c

pub returns-clause-goes : goal.returns-clause-goes
returns-clause-goes c = goes_on _ _ _ (step c)
