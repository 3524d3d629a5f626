use Rattle.std.proofs.Common.{◌≡◌, drop}
use Rattle.jfr_build.specs.declared.quoted.Quoted.TheVariants.{Open}
use Rattle.jfr_build.specs.LeafWords.{quoted_from}
use Rattle.jfr_build.proofs.WordLaws.{bytes_before}
use Rattle.jfr_build.proofs.quoted.unquote.Given as goal

abbrev pub invariant-loop-byte : goal.invariant-loop-byte
invariant-loop-byte l = bytes_before l.text.items (quoted_from l.state (drop l.byte-index l.rest)) ≡ quoted_from Open l.rest
