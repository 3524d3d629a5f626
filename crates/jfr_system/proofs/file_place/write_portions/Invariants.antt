use Rattle.std.specs.Prelude.{◌≡◌, ◌++◌}
use Rattle.std.specs.Io.KnownBytes.{Appends}
use Rattle.jfr_outside.specs.World.{bytes_in}
use Rattle.jfr_system.proofs.file_place.write_portions.Given as goal

abbrev pub invariant-loop-portion : goal.invariant-loop-portion
invariant-loop-portion g l = record {
  wrote : Appends (g.W.Write.contents l.initial.writer) (g.W.Write.contents l.writer) (bytes_in l.yielded);
  left : bytes_in l.yielded ++ l.portion-iterator.rest.now ≡ l.bytes;
}
