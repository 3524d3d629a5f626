use Rattle.std.proofs.Common.{◌≡◌, ◌+◌, ◌≤◌, ◌∙◌, subst}
use Rattle.std.specs.Prelude.{IfOk}
use Rattle.jfr_value.proofs.FusedLaws.{all_integers, all_raw, found_bytes, found_end, integer_alone, integers_seen, raw_seen}
use Rattle.jfr_value.proofs.fused.numbers_end.Goals as goal

pub returns-in-OneInteger-clause-exact : goal.returns-in-OneInteger-clause-exact
returns-in-OneInteger-clause-exact c = λ k levels layouts i p.
    found_end _ _ _ c.ok.ensures.value (c.integer_end.ensures.exact ∙ integer_alone k levels c.args.bytes.now c.args.end layouts c.args.at i (rw c.in-OneInteger.is at p))

pub returns-in-TwoIntegers-clause-numbers : goal.returns-in-TwoIntegers-clause-numbers
returns-in-TwoIntegers-clause-numbers c = λ layouts p s. all_integers layouts (rw c.in-TwoIntegers.is at p).1

pub returns-in-TwoIntegers-clause-exact : goal.returns-in-TwoIntegers-clause-exact
returns-in-TwoIntegers-clause-exact c = λ k levels layouts i p.
    found_end _ _ _ c.ok-in-TwoIntegers.ensures.value (c.integers_end.ensures.exact ∙ integers_seen k levels c.args.bytes.now c.args.end 2 layouts c.args.at i (rw c.in-TwoIntegers.is at p))

pub returns-in-ThreeIntegers-clause-numbers : goal.returns-in-ThreeIntegers-clause-numbers
returns-in-ThreeIntegers-clause-numbers c = λ layouts p s. all_integers layouts (rw c.in-ThreeIntegers.is at p).1

pub returns-in-ThreeIntegers-clause-exact : goal.returns-in-ThreeIntegers-clause-exact
returns-in-ThreeIntegers-clause-exact c = λ k levels layouts i p.
    found_end _ _ _ c.ok-in-ThreeIntegers.ensures.value
    (c.integers_end-in-ThreeIntegers.ensures.exact ∙ integers_seen k levels c.args.bytes.now c.args.end 3 layouts c.args.at i (rw c.in-ThreeIntegers.is at p))

pub returns-in-FourIntegers-clause-numbers : goal.returns-in-FourIntegers-clause-numbers
returns-in-FourIntegers-clause-numbers c = λ layouts p s. all_integers layouts (rw c.in-FourIntegers.is at p).1

pub returns-in-FourIntegers-clause-exact : goal.returns-in-FourIntegers-clause-exact
returns-in-FourIntegers-clause-exact c = λ k levels layouts i p.
    found_end _ _ _ c.ok-in-FourIntegers.ensures.value
    (c.integers_end-in-FourIntegers.ensures.exact ∙ integers_seen k levels c.args.bytes.now c.args.end 4 layouts c.args.at i (rw c.in-FourIntegers.is at p))

pub returns-in-Raw-clause-numbers : goal.returns-in-Raw-clause-numbers
returns-in-Raw-clause-numbers c = λ layouts p s. all_raw layouts c.in-Raw.count (rw c.in-Raw.is at p)

pub returns-in-Raw-clause-exact : goal.returns-in-Raw-clause-exact
returns-in-Raw-clause-exact c = λ k levels layouts i p.
    found_bytes _ _ _ c.args.at c.in-Raw.count c.args.end c.ok-in-Raw.ensures.value
    (subst (λ n. IfOk c.run_end.result (λ to. (to ≡ c.args.at + n) × (to ≤ c.args.end))) c.from.ensures c.run_end.ensures.fits)
    (raw_seen k levels c.args.bytes.now c.args.end layouts c.in-Raw.count c.args.at i (rw c.in-Raw.is at p))
