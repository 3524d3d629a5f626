use Rattle.std.proofs.Common.{◌∙◌, ◌+◌, slice_index}
use Rattle.jfr_text.specs.Strings.{Units, bare_content}
use Rattle.jfr_value.proofs.TextKeys.{keyless_ends, key_ends}
use Rattle.jfr_value.proofs.extent.usual_string_end.Goals as goal

pub returns-then-is_bare-clause-exact : goal.returns-then-is_bare-clause-exact
returns-then-is_bare-clause-exact c =
    let kind = slice_index c.args.bytes.now c.args.at in
    keyless_ends c.args.bytes.now c.args.end c.args.at (c.args.at + 1) (bare_content kind) (c.is_bare.ensures.bare c.if-is_bare.true)

pub returns-then-is_key-clause-exact : goal.returns-then-is_key-clause-exact
returns-then-is_key-clause-exact c = c.integer_end.ensures.exact ∙ key_ends c.args.bytes.now c.args.end c.args.at (c.is_key.ensures.key c.if-is_key.true)

pub returns-in-Some-clause-exact : goal.returns-in-Some-clause-exact
returns-in-Some-clause-exact c =
    let (units, read) = c.in-Some.ensures.units in
    keyless_ends c.args.bytes.now c.args.end c.args.at c.in-Some.to (Units units) read
