use Rattle.std.proofs.Common.{◌≡◌, ◌+◌, length}
use Rattle.std.specs.Str.{chars}
use denote.Text.{Utf8}
use denote.Shadow.{shadow}
use Rattle.jfr_filter.specs.Patterns.{glob, some_suffix}
use Rattle.jfr_filter.proofs.pattern.some_end.Given as goal

abbrev pub invariant-loop-later : goal.invariant-loop-later
invariant-loop-later l = shadow (Utf8 l.pattern) × shadow (Utf8 l.text)
    × (some_suffix (glob (chars l.pattern)) (chars l.text) ≡ some_suffix (glob (chars l.initial.pattern)) (chars l.initial.text))

abbrev pub decreases-loop-later : goal.decreases-loop-later
decreases-loop-later l = length l.pattern + length l.text
