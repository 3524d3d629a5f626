use Rattle.std.specs.Prelude.{List, ℕ}
use Rattle.jfr_show.specs.Counting.{AddsEvents, AreLeaders, AreTallies}
use Rattle.jfr_show.specs.Held.{tallies_in}
use Rattle.jfr_show.proofs.ClassTallies.{before}
use Rattle.jfr_show.proofs.counting.add_classes.Given as goal

-- The events of the classes with leaders before the index are added, whichever the leaders are.
abbrev pub invariant-loop-index : goal.invariant-loop-index
invariant-loop-index l =
    (leaders : List ℕ) → AreLeaders l.chunk.classes leaders → AreTallies l.chunk.classes leaders l.chunk.records l.counted → AddsEvents (tallies_in l.initial.tallies)
    (before l.chunk.classes leaders l.index l.chunk.records) (tallies_in l.tallies)
