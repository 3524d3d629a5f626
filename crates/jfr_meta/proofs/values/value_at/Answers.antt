use Rattle.std.proofs.Common.{◌∙◌, ap, arith, ◌<◌, ◌^◌}
use Rattle.std.specs.Prelude.{option_and_then, Some, None}
use Rattle.jfr_meta.specs.Attributes.{not_empty, value_key}
use Rattle.jfr_meta.proofs.FirstValues.{first_found, key_asked, key_found}
use Rattle.jfr_meta.proofs.values.value_at.Goals as goal

pub returns-in-Some : goal.returns-in-Some
returns-in-Some c = record {
  ok = λ ps h.
      (let small : c.args.number < 2 ^ 64 = omega arith in
      let found = key_found c.args.number c.as_str.result.now c.args.values.now (Some c.in-Some.value.now) small (c.as_str.ensures.value ∙ c.in_ok-key.ensures.ok) c.in-Some.ensures.value in
      c.full_index.ensures ∙ ap (option_and_then not_empty)
      (first_found c.args.strings.now ps c.args.values.now (value_key c.args.number) (Some c.in-Some.value.now) h (key_asked c.args.number small) found));
}

pub returns : goal.returns
returns c = record {
  ok = λ ps h.
      (let small : c.args.number < 2 ^ 64 = omega arith in
      let found = key_found c.args.number c.as_str.result.now c.args.values.now None small (c.as_str.ensures.value ∙ c.in_ok-key.ensures.ok) c.in-None.ensures.value in
      ap (option_and_then not_empty) (first_found c.args.strings.now ps c.args.values.now (value_key c.args.number) None h (key_asked c.args.number small) found));
}
