use Rattle.std.proofs.Common.{◌≡◌, ◌-◌, ◌^◌, true}
use Rattle.jfr_outside.specs.World.{IfKnown}
use Rattle.jfr_verify.specs.Faults.{AreSame}
use Rattle.jfr_verify.specs.Outputs.{AllWhole}
use Rattle.jfr_verify.proofs.OutputLaws.{Keeping}
use Rattle.jfr_verify.proofs.outputs.read_outputs.Given as goal

abbrev pub invariant-chunks : goal.invariant-chunks
invariant-chunks g l = record {
  keeping : IfKnown (g.P.Place.state l.fn.place).contents (g.P.Place.state l.place).contents (Keeping l.name l.outputs.chunks.items l.cutter);
  whole : AllWhole l.outputs.chunks.items;
  live : l.cutter.live ≡ true;
  counts : AreSame (g.P.Place.state l.fn.place) (g.P.Place.state l.place);
}

abbrev pub decreases-chunks : goal.decreases-chunks
decreases-chunks g l = 2 ^ 62 - l.cutter.start
