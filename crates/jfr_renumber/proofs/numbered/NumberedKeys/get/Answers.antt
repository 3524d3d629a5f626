use Rattle.std.proofs.Common.{◌<◌, ℕ, ap, sym, ◌∙◌, subst, Some}
use Rattle.std.specs.Prelude.{slice_get, Contains}
use Rattle.std.proofs.lemmas.Option.{slice_get-get_or}
use Rattle.jfr_renumber.specs.Numbers.{NumberedPairs, number_of}
use Rattle.jfr_renumber.proofs.NumberLaws.{index_within, none_is, some_is}
use Rattle.jfr_renumber.proofs.numbered.NumberedKeys.get.Goals as goal

pub returns-in_err-at : goal.returns-in_err-at
returns-in_err-at c =
    let t : ℕ × ℕ = (c.args.class, c.args.key) in
    let k : NumberedPairs = record { pairs = c.self.inside.pairs.items; numbers = c.self.inside.numbers.items } in
    c.from_residual.ensures
    ∙ sym (ap (λ (z : NumberedPairs). number_of z t) (sym c.self.view_is) ∙ none_is k t (λ d. c.find.ensures.none c.in_err-at.was (subst (λ z. Contains z t) (sym c.deref.ensures.value) d)))

pub index-requires : goal.index-requires
index-requires c =
    let t : ℕ × ℕ = (c.args.class, c.args.key) in
    let k : NumberedPairs = record { pairs = c.self.inside.pairs.items; numbers = c.self.inside.numbers.items } in
    subst (λ n. c.in_ok-at.at < n) (sym c.self.inside.numbers.ok.0)
    (index_within k c.in_ok-at.at t c.self.invariant.1 (ap (λ z. slice_get z c.in_ok-at.at) (sym c.deref.ensures.value) ∙ c.in_ok-at.ensures.found))

pub returns : goal.returns
returns c =
    let t : ℕ × ℕ = (c.args.class, c.args.key) in
    let k : NumberedPairs = record { pairs = c.self.inside.pairs.items; numbers = c.self.inside.numbers.items } in
    let there = ap (λ z. slice_get z c.in_ok-at.at) (sym c.deref.ensures.value) ∙ c.in_ok-at.ensures.found in
    sym (ap (λ (z : NumberedPairs). number_of z t) (sym c.self.view_is)
    ∙ (some_is k c.in_ok-at.at t c.self.invariant.0 c.self.invariant.1 there
    ∙ (slice_get-get_or c.self.inside.numbers.items c.in_ok-at.at c.index.result.now (index_within k c.in_ok-at.at t c.self.invariant.1 there) ∙ ap (λ z. Some z) (sym c.index.ensures))))
