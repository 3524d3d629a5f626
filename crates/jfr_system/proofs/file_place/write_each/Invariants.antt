use Rattle.std.proofs.Common.{take}
use Rattle.std.specs.Io.KnownBytes.{Appends}
use Rattle.jfr_outside.specs.World.{bytes_in}
use Rattle.jfr_system.proofs.file_place.write_each.Given as goal

abbrev pub invariant-loop-piece : goal.invariant-loop-piece
invariant-loop-piece g l = Appends (g.W.Write.contents l.initial.writer) (g.W.Write.contents l.writer) (bytes_in (take l.piece-index l.pieces))
