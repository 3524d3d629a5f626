use Rattle.std.proofs.Common.{◌≡◌, take, length}
use Rattle.std.specs.List.{flat_map}
use Rattle.jfr_meta.specs.Written.{text_bytes, capped}
use Rattle.jfr_meta.proofs.write.texts_len.Given as goal

abbrev pub invariant-loop-text : goal.invariant-loop-text
invariant-loop-text l = l.len ≡ capped (length (flat_map text_bytes (take l.text-index l.text-items)))
