use Rattle.std.proofs.Common.{None, lit<, sym, ◌∙◌}
use Rattle.std.proofs.lemmas.Str.Pattern.{strip_prefix_char}
use Rattle.jfr_build.proofs.WordLaws.{large_number, no_minus, small_number}
use Rattle.jfr_build.proofs.leaf.signed_of.Goals as goal

pub returns-in_err-number-in-None-clause-exact : goal.returns-in_err-number-in-None-clause-exact
returns-in_err-number-in-None-clause-exact c =
    let h = no_minus c.args.half c.args.word.now (strip_prefix_char 45 c.args.word.now None c.in-None.ensures.cases (lit< tt)) in
    let e = sym c.decimal_number-in-None.ensures.bytes ∙ c.in_err-number-in-None.was in
    c.from_residual-in_err-number-in-None.ensures ∙ sym (rw e at h)

pub returns-then-number-half-2-clause-exact : goal.returns-then-number-half-2-clause-exact
returns-then-number-half-2-clause-exact c =
    let h = strip_prefix_char 45 c.args.word.now None c.in-None.ensures.cases (lit< tt) in
    sym (small_number c.args.half c.in_ok-number-in-None.number c.args.word.now h (sym c.decimal_number-in-None.ensures.bytes ∙ c.in_ok-number-in-None.was) c.if-number-half-2.true)

pub returns-else-number-half-2-clause-exact : goal.returns-else-number-half-2-clause-exact
returns-else-number-half-2-clause-exact c =
    let h = strip_prefix_char 45 c.args.word.now None c.in-None.ensures.cases (lit< tt) in
    sym (large_number c.args.half c.in_ok-number-in-None.number c.args.word.now h (sym c.decimal_number-in-None.ensures.bytes ∙ c.in_ok-number-in-None.was) c.if-number-half-2.false)
