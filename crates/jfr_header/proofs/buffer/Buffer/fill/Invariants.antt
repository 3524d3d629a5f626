use Rattle.std.proofs.Common.{◌≡◌, ◌-◌, ◌<◌, ◌≤◌, take, length, IfSome, IsSome}
use Rattle.jfr_outside.specs.World.{IfKnown}
use Rattle.jfr_header.specs.Taking.{Moved}
use Rattle.jfr_header.proofs.buffer.Buffer.fill.Given as goal

abbrev pub invariant-reads : goal.invariant-reads
invariant-reads g l = record {
  moved : IfKnown ((g.P.Place.state l.initial.place).contents) ((g.P.Place.state l.place).contents) (Moved l.initial.self l.self);
  prefix : take (length l.initial.self) l.self ≡ l.initial.self;
  bound : length l.self ≤ l.until;
  opened : length l.initial.self < length l.self → IfSome ((g.P.Place.state l.place).contents) (λ v. IsSome v.input);
  reads : (g.P.Place.state l.place).read_faults ≡ (g.P.Place.state l.initial.place).read_faults;
  writes : (g.P.Place.state l.place).write_faults ≡ (g.P.Place.state l.initial.place).write_faults;
  steady : (g.P.Place.state l.place).steady ≡ (g.P.Place.state l.initial.place).steady;
}

abbrev pub decreases-reads : goal.decreases-reads
decreases-reads g l = l.until - length l.self
