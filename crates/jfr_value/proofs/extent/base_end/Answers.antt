use Rattle.std.proofs.Common.{◌∙◌}
use Rattle.jfr_value.proofs.SkipLaws.{base_skipped}
use Rattle.jfr_value.proofs.extent.base_end.Goals as goal

pub returns-in-Char-clause-exact : goal.returns-in-Char-clause-exact
returns-in-Char-clause-exact c = c.integer_end.ensures.exact ∙ base_skipped c.args.kind c.args.bytes.now c.args.end c.args.at c.in-Char.is
