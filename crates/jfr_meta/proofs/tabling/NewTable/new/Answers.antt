use Rattle.std.proofs.Common.{arith}
use Rattle.std.proofs.lemmas.Grind.{common_steps}
use Rattle.jfr_meta.proofs.NewTableLaws.{no_table}
use Rattle.jfr_meta.proofs.tabling.NewTable.new.Goals as goal

pub returns-clause-table : goal.returns-clause-table
returns-clause-table c texts = no_table texts _ c.len.result c.new.ensures (c.in_ok-numbers.ensures.items_if_clones_equal (λ y e. grind (arith, common_steps))) c.new-2.ensures.empty
