use Rattle.std.proofs.Common.{◌≡◌, take, length}
use Rattle.std.specs.List.{flat_map}
use Rattle.jfr_meta.specs.Written.{pair_bytes, capped}
use Rattle.jfr_meta.proofs.write.pairs_len.Given as goal

abbrev pub invariant-loop-key : goal.invariant-loop-key
invariant-loop-key l = l.len ≡ capped (length (flat_map pair_bytes (take l.key-index l.key-items)))
