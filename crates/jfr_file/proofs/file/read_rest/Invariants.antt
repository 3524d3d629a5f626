use Rattle.std.proofs.Common.{◌≡◌, ◌-◌, ◌≤◌, [], length}
use Rattle.jfr_outside.specs.World.{IfKnown}
use Rattle.jfr_header.specs.Taking.{Moved}
use Rattle.jfr_file.proofs.file.read_rest.Given as goal

abbrev pub invariant-reads : goal.invariant-reads
invariant-reads g l = record {
  moved : IfKnown ((g.P.Place.state l.initial.place).contents) ((g.P.Place.state l.place).contents) (Moved [] l.bytes);
  bound : length l.bytes ≤ l.limit;
  reads : (g.P.Place.state l.place).read_faults ≡ (g.P.Place.state l.initial.place).read_faults;
  writes : (g.P.Place.state l.place).write_faults ≡ (g.P.Place.state l.initial.place).write_faults;
  steady : (g.P.Place.state l.place).steady ≡ (g.P.Place.state l.initial.place).steady;
}

abbrev pub decreases-reads : goal.decreases-reads
decreases-reads g l = l.limit - length l.bytes
