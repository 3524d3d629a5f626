use Rattle.std.proofs.Common.{◌≡◌, ◌-◌, ◌^◌, true, List}
use Rattle.std.specs.Slice.Iter.{iter_rest}
use Rattle.jfr_outside.specs.World.{IfKnown}
use Rattle.jfr_chunk.specs.Parts.{Parts}
use Rattle.jfr_verify.specs.Comparing.{HasOutputs}
use Rattle.jfr_verify.specs.Faults.{AreSame}
use Rattle.jfr_verify.specs.Outputs.{AllWhole}
use Rattle.jfr_verify.specs.Recordings.{HasUnread}
use Rattle.jfr_verify.proofs.ComparingLaws.{Going}
use Rattle.jfr_verify.proofs.stream.compare_input.Given as goal

abbrev pub invariant-chunks : goal.invariant-chunks
invariant-chunks g l = record {
  going : (qs : List Parts) → HasOutputs l.fn.comparer qs
      → IfKnown (g.P.Place.state l.fn.place).contents (g.P.Place.state l.place).contents (Going l.name l.fn.comparer.filter.now qs l.fn.comparer.receipts.now l.comparer l.cutter);
  left : IfKnown (g.P.Place.state l.fn.place).contents (g.P.Place.state l.place).contents (HasUnread l.cutter (λ k. Unit {0}));
  whole : AllWhole (iter_rest l.comparer.outputs);
  filter : l.comparer.filter.now ≡ l.fn.comparer.filter.now;
  live : l.cutter.live ≡ true;
  counts : AreSame (g.P.Place.state l.fn.place) (g.P.Place.state l.place);
}

abbrev pub decreases-chunks : goal.decreases-chunks
decreases-chunks g l = 2 ^ 62 - l.cutter.start
