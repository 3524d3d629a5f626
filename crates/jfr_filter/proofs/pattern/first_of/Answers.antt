use Rattle.std.proofs.Common.{◌++◌, sym, ap, ◌∙◌}
use Rattle.std.proofs.lemmas.Str.{chars_past_char}
use lib.Utf8.{encode}
use Rattle.jfr_filter.proofs.pattern.first_of.Goals as goal

pub returns-clause-first : goal.returns-clause-first
returns-clause-first c =
    let first = c.in_ok-first.first in
    chars_past_char c.args.text.now c.as_str.result.now first c.utf8.text
    (sym c.chars-left.ensures.rest ∙ (c.in_ok-first.ensures.steps.0 ∙ ap (λ z. encode first ++ z) (sym c.as_str.ensures)))
