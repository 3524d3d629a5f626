use Rattle.std.proofs.Common.{◌≡◌, map, take}
use Rattle.jfr_meta.specs.Attributes.{text_at}
use Rattle.jfr_meta.proofs.values.texts_at.Given as goal

-- The texts of the indices so far.
abbrev pub invariant-loop-index : goal.invariant-loop-index
invariant-loop-index l = l.words ≡ map (text_at l.strings) (take l.index-index l.indices)
