use Rattle.std.proofs.Common.{◌≡◌, ◌++◌, ◌-◌, length, map}
use Rattle.jfr_meta.specs.Attributes.{attribute, text_at, value_key, values_from}
use Rattle.jfr_meta.specs.Trees.{pairs_of}
use Rattle.jfr_meta.proofs.values.numbered.Given as goal

abbrev pub invariant-loop-number : goal.invariant-loop-number
invariant-loop-number l =
    values_from (λ i. attribute l.strings l.annotation (value_key i)) 0 (length (pairs_of l.annotation))
    ≡ map (text_at l.strings) l.indices.items ++ values_from (λ i. attribute l.strings l.annotation (value_key i)) l.number (length (pairs_of l.annotation) - l.number)
