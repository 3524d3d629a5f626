use Rattle.jfr_pool.proofs.EntryLaws.{Gathered}
use Rattle.jfr_pool.proofs.pools.Pools.read.Given as goal

abbrev pub invariant-loop-number : goal.invariant-loop-number
invariant-loop-number l = Gathered l.chunk l.classes l.chain l.number l.entries.items
