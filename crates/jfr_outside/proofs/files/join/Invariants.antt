use Rattle.std.specs.Prelude.{◌≡◌, take}
use Rattle.jfr_outside.specs.World.{bytes_in}
use Rattle.jfr_outside.proofs.files.join.Given as goal

abbrev pub invariant-loop-piece : goal.invariant-loop-piece
invariant-loop-piece l = l.joined.items ≡ bytes_in (take l.piece-index l.pieces)
