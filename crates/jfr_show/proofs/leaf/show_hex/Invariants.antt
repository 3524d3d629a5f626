use Rattle.std.proofs.Common.{◌≡◌, ◌++◌, take, flat_map}
use Rattle.jfr_show.specs.Texts.{hex_byte}
use Rattle.jfr_show.proofs.leaf.show_hex.Given as goal

abbrev pub invariant-loop-byte : goal.invariant-loop-byte
invariant-loop-byte l = l.out ≡ l.initial.out ++ flat_map hex_byte (take l.byte-index l.bytes)
