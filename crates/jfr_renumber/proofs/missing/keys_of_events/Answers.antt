use Rattle.std.proofs.Common.{sym, ◌∙◌}
use Rattle.jfr_renumber.proofs.NotedKeys.{keys_noted}
use Rattle.jfr_renumber.proofs.missing.keys_of_events.Goals as goal

pub returns-then-are_kept : goal.returns-then-are_kept
returns-then-are_kept c = keys_noted c.args.chunk.now c.args.kept.now c.in-Some.refs.now c.keys_of.result c.in-Some.ensures (sym c.are_kept.ensures ∙ c.if-are_kept.true) c.keys_of.ensures
