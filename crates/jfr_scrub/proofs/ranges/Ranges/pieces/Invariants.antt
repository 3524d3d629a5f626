use Rattle.std.specs.Prelude.{◌≡◌, take}
use Rattle.std.specs.List.{flat_map}
use Rattle.jfr_outside.specs.World.{bytes_in}
use Rattle.jfr_scrub.specs.Pieces.{range_bytes}
use Rattle.jfr_scrub.proofs.ranges.Ranges.pieces.Given as goal

abbrev pub invariant-loop-range : goal.invariant-loop-range
invariant-loop-range l = bytes_in l.pieces.items ≡ flat_map (range_bytes l.chunk l.self.made.items) (take l.range-index l.range-items)
