use Rattle.std.proofs.Common.{ap, sym, ◌∙◌}
use Rattle.std.specs.Prelude.{is_some}
use Rattle.jfr_pool.proofs.IndexLaws.{left_out}
use Rattle.jfr_pool.proofs.index.Index.take.Goals as goal

pub returns-then-is_some : goal.returns-then-is_some
returns-then-is_some c = λ es h n. left_out c.args.tables.now.by_class.items c.args.self.now c.args.entry.now es (ap is_some (sym c.ordinal.ensures) ∙ sym c.is_some.ensures ∙ c.if-is_some.true) h
