use Rattle.std.proofs.Common.{sym, ap, ◌∙◌}
use Rattle.std.specs.List.{list_any}
use Rattle.jfr_base.specs.Texts.{text_in}
use Rattle.jfr_filter.specs.Filters.{thread_matches}
use Rattle.jfr_filter.proofs.AnyLaws.{any_never}
use Rattle.jfr_filter.proofs.matching.any_thread.Goals as goal

pub returns-in-None : goal.returns-in-None
returns-in-None c = sym (ap (λ t. list_any (thread_matches (text_in t)) c.args.patterns.now) c.in-None.is ∙ any_never c.args.patterns.now)
