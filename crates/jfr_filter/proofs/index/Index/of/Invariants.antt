use Rattle.std.proofs.Common.{◌≡◌, ℕ, List, take}
use Rattle.std.specs.List.{list_any}
use Rattle.std.specs.Str.{chars, IsUtf8}
use Rattle.jfr_filter.specs.Indexes.{finds}
use Rattle.jfr_filter.specs.Patterns.{glob}
use Rattle.jfr_filter.proofs.index.Index.of.Given as goal

abbrev pub invariant-loop-number : goal.invariant-loop-number
invariant-loop-number l = (text : List ℕ) → IsUtf8 text → finds l.index l.patterns text ≡ list_any (λ pattern. glob pattern (chars text)) (take l.number l.patterns)
