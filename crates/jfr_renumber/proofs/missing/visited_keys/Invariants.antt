use Rattle.std.proofs.Common.{take}
use Rattle.jfr_chunk.specs.Parts.{events_of}
use Rattle.jfr_chunk.specs.Reach.{all_targets, marked, nodes_of}
use Rattle.jfr_renumber.proofs.MissingLaws.{Holds}
use Rattle.jfr_renumber.proofs.missing.visited_keys.Given as goal

abbrev pub invariant-loop-number : goal.invariant-loop-number
invariant-loop-number l = Holds l.chunk (all_targets l.chunk (nodes_of (marked (take l.number l.kept) (events_of l.chunk)))) l.list
