use Rattle.std.proofs.Common.{ℕ, ◌<◌, ◌≤◌, ◌∙◌, ap, sym, ◌++◌, ◌-◌, ◌∷◌, [], ◌+◌, arith, append-nil, append_assoc, length, map}
use Rattle.std.specs.Prelude.{option_and_then, option_map}
use Rattle.std.proofs.lemmas.List.{map-append}
use Rattle.jfr_meta.specs.Attributes.{attribute, first_value, not_empty, text_at, value_key, values_from}
use Rattle.jfr_meta.specs.Trees.{pairs_of}
use Rattle.jfr_meta.proofs.FirstValues.{values_next, values_stop, values_end}
use Rattle.jfr_meta.proofs.values.numbered.Goals as goal

pub returns-in-None : goal.returns-in-None
returns-in-None c =
    let value = λ (i : ℕ). attribute c.args.strings.now c.args.annotation.now (value_key i) in
    let n = length (pairs_of c.args.annotation.now) in
    let pairs = c.as_slice-pairs.ensures ∙ c.attributes.ensures in
    let at = sym (c.in_ok-index.ensures.ok c.as_slice-pairs.result.now c.in_ok-values.ensures.ok
    ∙ ap (λ ps. option_and_then not_empty (first_value c.args.strings.now (value_key c.loop-number.number) ps)) pairs) in
    let within : c.loop-number.number < n = omega (arith, ap length pairs) in
    let texts = map (text_at c.args.strings.now) c.loop-number.indices.items in
    record {
      ok = sym (c.loop-number.invariant
          ∙ (ap (λ z. texts ++ z) (values_stop value c.loop-number.number n within (at ∙ ap (option_map (text_at c.args.strings.now)) c.in-None.is)) ∙ append-nil texts));
    }

pub loop-number-preserved : goal.loop-number-preserved
loop-number-preserved c =
    let value = λ (i : ℕ). attribute c.args.strings.now c.args.annotation.now (value_key i) in
    let n = length (pairs_of c.args.annotation.now) in
    let pairs = c.as_slice-pairs.ensures ∙ c.attributes.ensures in
    let at = sym (c.in_ok-index.ensures.ok c.as_slice-pairs.result.now c.in_ok-values.ensures.ok
    ∙ ap (λ ps. option_and_then not_empty (first_value c.args.strings.now (value_key c.loop-number.number) ps)) pairs) in
    let within : c.loop-number.number < n = omega (arith, ap length pairs) in
    let rest = values_from value (c.loop-number.number + 1) (n - (c.loop-number.number + 1)) in
    let text = text_at c.args.strings.now in
    let texts = map text c.loop-number.indices.items in
    let more = ap (map text) c.in_ok-push-in-Some.ensures.items ∙ map-append text c.loop-number.indices.items (c.in-Some.index ∷ []) in
    c.loop-number.invariant ∙ (ap (λ z. texts ++ z) (values_next value c.loop-number.number n (text c.in-Some.index) within (at ∙ ap (option_map text) c.in-Some.is))
    ∙ (sym (append_assoc texts (text c.in-Some.index ∷ []) rest) ∙ ap (λ z. z ++ rest) (sym more)))

pub returns : goal.returns
returns c =
    let value = λ (i : ℕ). attribute c.args.strings.now c.args.annotation.now (value_key i) in
    let n = length (pairs_of c.args.annotation.now) in
    let pairs = c.as_slice-pairs.ensures ∙ c.attributes.ensures in
    let past : n ≤ c.loop-number.number = omega (arith, ap length pairs) in
    let texts = map (text_at c.args.strings.now) c.loop-number.indices.items in
    record { ok = sym (c.loop-number.invariant ∙ (ap (λ z. texts ++ z) (values_end value c.loop-number.number n past) ∙ append-nil texts)) }
