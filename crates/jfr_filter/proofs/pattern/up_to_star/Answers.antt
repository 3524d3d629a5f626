use Rattle.std.proofs.Common.{◌∷◌, rules, sym, ap, ◌∙◌, arith}
use Rattle.std.specs.Str.{chars}
use Rattle.jfr_filter.proofs.GlobLaws.{along_next, along_apart, along_text_ends, along_both_end, along_pattern_ends, along_star}
use Rattle.jfr_filter.proofs.pattern.up_to_star.Goals as goal

pub returns-then-wanted-eq42-clause-goes : goal.returns-then-wanted-eq42-clause-goes
returns-then-wanted-eq42-clause-goes c =
    let later = chars c.in-Some.later.now in
    along_star _ _ _ _ c.loop-wanted.invariant.2 later (c.in-Some.ensures.first ∙ ap (λ w. w ∷ later) c.if-wanted-eq42.true)

pub returns-in_default-first_of-clause-goes : goal.returns-in_default-first_of-clause-goes
returns-in_default-first_of-clause-goes c =
    along_text_ends _ _ _ _ c.loop-wanted.invariant.2 c.in-Some.wanted (chars c.in-Some.later.now) c.in-Some.ensures.first c.in_default-first_of.ensures.first c.if-wanted-eq42.false

pub returns-then-not-agrees-clause-goes : goal.returns-then-not-agrees-clause-goes
returns-then-not-agrees-clause-goes c =
    along_apart _ _ _ _ c.loop-wanted.invariant.2 c.in-Some.wanted (chars c.in-Some.later.now) c.in-Some-first_of.found (chars c.in-Some-first_of.rest.now)
    c.in-Some.ensures.first c.in-Some-first_of.ensures.first c.if-wanted-eq42.false (sym c.if-not-agrees.ensures)

pub loop-wanted-preserved : goal.loop-wanted-preserved
loop-wanted-preserved c = (
  search rules,
  search rules,
  along_next _ _ _ _ c.loop-wanted.invariant.2 c.in-Some.wanted (chars c.in-Some.later.now) c.in-Some-first_of.found (chars c.in-Some-first_of.rest.now)
      c.in-Some.ensures.first c.in-Some-first_of.ensures.first c.if-wanted-eq42.false (sym c.if-not-agrees.ensures),
  omega (arith, c.in-Some.ensures.shorter, c.loop-wanted.invariant.3),
  omega (arith, c.in-Some-first_of.ensures.shorter, c.loop-wanted.invariant.4),
)

pub returns-in-None-clause-goes : goal.returns-in-None-clause-goes
returns-in-None-clause-goes c = along_both_end _ _ _ _ c.loop-wanted.invariant.2 c.in_default.ensures.first c.in-None.ensures.first

pub returns-in-Some-first_of-2-clause-goes : goal.returns-in-Some-first_of-2-clause-goes
returns-in-Some-first_of-2-clause-goes c =
    let first = c.in-Some-first_of-2.field-0 in
    along_pattern_ends _ _ _ _ c.loop-wanted.invariant.2 first.0 (chars first.1.now) c.in_default.ensures.first c.in-Some-first_of-2.ensures.first
