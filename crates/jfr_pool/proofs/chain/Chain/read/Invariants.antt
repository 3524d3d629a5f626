use Rattle.jfr_pool.proofs.ChainReading.{Reading, room}
use Rattle.jfr_pool.proofs.chain.Chain.read.Given as goal

abbrev pub invariant-links : goal.invariant-links
invariant-links l = Reading l.chunk l.frames l.last l.links.items l.next

abbrev pub decreases-links : goal.decreases-links
decreases-links l = room l.next
