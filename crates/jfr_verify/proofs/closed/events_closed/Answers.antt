use Rattle.std.proofs.Common.{sym, ◌∙◌}
use Rattle.jfr_verify.proofs.ClosedLaws.{kept_all}
use Rattle.jfr_verify.proofs.closed.events_closed.Goals as goal

pub returns-then-are_all : goal.returns-then-are_all
returns-then-are_all c = c.are_marked.ensures ∙ kept_all c.args.chunk.now c.args.kept.now c.args.marks.now c.all_entries.result.now
    (sym c.are_all.ensures ∙ c.if-are_all.true) c.requires c.all_entries.ensures
