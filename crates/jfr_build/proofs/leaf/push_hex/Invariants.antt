use Rattle.std.proofs.Common.{◌≡◌, ◌+◌, ◌*◌, drop}
use Rattle.jfr_build.specs.LeafWords.{hex_bytes}
use Rattle.jfr_build.proofs.WordLaws.{bytes_before}
use Rattle.jfr_build.proofs.leaf.push_hex.Given as goal

abbrev pub invariant-loop-i : goal.invariant-loop-i
invariant-loop-i l = bytes_before l.out.items (hex_bytes (drop (2 + 2 * l.i) l.bytes)) ≡ bytes_before l.initial.out.items (hex_bytes (drop 2 l.bytes))
