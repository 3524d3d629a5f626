use Rattle.std.proofs.Common.{◌≡◌, Err, ap, arith, inl, inr, refl, subst, ◌∙◌}
use Rattle.jfr_value.proofs.SkipLaws.{Skipping, skip_start, skip_next, skip_end, skip_short}
use Rattle.jfr_value.proofs.integers.last_integer_end.Goals as goal

pub loop-passed-init : goal.loop-passed-init
loop-passed-init c = skip_start c.args.bytes.now c.args.at c.args.end

pub returns-then-bytes-at-lt128-clause-exact : goal.returns-then-bytes-at-lt128-clause-exact
returns-then-bytes-at-lt128-clause-exact c = skip_end c.args.bytes.now c.args.at c.args.end c.loop-passed.passed c.loop-passed.invariant (omega arith) c.requires.within (inl c.if-bytes-at-lt128.true)

pub loop-passed-preserved : goal.loop-passed-preserved
loop-passed-preserved c = skip_next c.args.bytes.now c.args.at c.args.end c.loop-passed.passed c.loop-passed.invariant (omega arith) (omega arith) c.requires.within c.if-bytes-at-lt128.false

pub returns-then-end-at-gt-SHORT_GROUPS-clause-exact : goal.returns-then-end-at-gt-SHORT_GROUPS-clause-exact
returns-then-end-at-gt-SHORT_GROUPS-clause-exact c =
    let all : c.loop-passed.passed ≡ 8 = omega arith in
    skip_end c.args.bytes.now c.args.at c.args.end 8 (subst (Skipping c.args.bytes.now c.args.at c.args.end) all c.loop-passed.invariant) (omega arith) c.requires.within (inr refl)

pub returns-clause-exact : goal.returns-clause-exact
returns-clause-exact c =
    ap (λ flaw. Err flaw) c.short.ensures ∙ skip_short c.args.bytes.now c.args.at c.args.end c.loop-passed.passed c.loop-passed.invariant (omega arith)
