use Rattle.std.proofs.Common.{ℕ, ◌+◌, [], ap, ◌∙◌, length, arith}
use Rattle.jfr_sample.specs.Sample.{entry}
use Rattle.jfr_sample.proofs.Lengths.{entries-le}
use Rattle.jfr_sample.proofs.PartLaws.{parts_next}
use Rattle.jfr_sample.proofs.checkpoint.entries_of.Goals as goal

pub loop-count-preserved : goal.loop-count-preserved
loop-count-preserved c = c.in_ok-push_entry.ensures ∙ parts_next entry c.loop-count.count [] c.loop-count.entries.items _ c.loop-count.invariant (ap (λ (k : ℕ). entry (k + 1)) c.from.ensures)

pub returns-clause-short : goal.returns-clause-short
returns-clause-short c = omega (arith, ap length c.loop-count.invariant, entries-le c.loop-count.count (omega arith))
