use Rattle.std.proofs.Common.{◌≡◌, ◌+◌, ◌-◌, ◌<◌, arith, subst, drop, length}
use Rattle.std.proofs.lemmas.Option.{slice_get-get_or}
use Rattle.jfr_meta.specs.Values.{HasFirst}
use Rattle.jfr_meta.proofs.FirstValues.{first_start, first_next, first_skipped}
use Rattle.jfr_meta.proofs.values.first_values.Goals as goal

pub loop-at-init : goal.loop-at-init
loop-at-init c = first_start c.args.strings.now c.args.pairs.now (length c.args.pairs.now) c.new-values.result c.new-values.ensures.empty (omega arith)

pub loop-at-preserved-then-key-gt-KEY_LEN : goal.loop-at-preserved-then-key-gt-KEY_LEN
loop-at-preserved-then-key-gt-KEY_LEN c =
    let pairs = c.args.pairs.now in
    let at = c.loop-at.at - 1 in
    let seen : c.loop-at.at ≡ at + 1 = omega arith in
    let within : at < length pairs = omega arith in
    first_skipped c.args.strings.now pairs at _ c.text_at-key.result.now c.loop-at.values (subst (λ z. HasFirst c.args.strings.now (drop z pairs) c.loop-at.values) seen c.loop-at.invariant)
    (slice_get-get_or pairs at (0, 0) within) c.text_at-key.utf8 c.text_at-key.ensures (omega arith)

pub loop-at-preserved : goal.loop-at-preserved
loop-at-preserved c =
    let pairs = c.args.pairs.now in
    let at = c.loop-at.at - 1 in
    let seen : c.loop-at.at ≡ at + 1 = omega arith in
    let within : at < length pairs = omega arith in
    first_next c.args.strings.now pairs at _ c.text_at-key.result.now c.loop-at.values c.insert.new.self
    (subst (λ z. HasFirst c.args.strings.now (drop z pairs) c.loop-at.values) seen c.loop-at.invariant)
    (slice_get-get_or pairs at (0, 0) within) c.text_at-key.utf8 c.text_at-key.ensures c.in_ok-insert.ensures.updates
