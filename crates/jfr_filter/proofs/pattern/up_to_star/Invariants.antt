use Rattle.std.proofs.Common.{◌≤◌, length}
use Rattle.std.specs.Str.{chars}
use denote.Text.{Utf8}
use denote.Shadow.{shadow}
use Rattle.jfr_filter.proofs.GlobLaws.{Along}
use Rattle.jfr_filter.proofs.pattern.up_to_star.Given as goal

abbrev pub invariant-loop-wanted : goal.invariant-loop-wanted
invariant-loop-wanted l = shadow (Utf8 l.pattern) × shadow (Utf8 l.text)
    × Along (chars l.initial.pattern) (chars l.initial.text) (chars l.pattern) (chars l.text)
    × (length l.pattern ≤ length l.initial.pattern) × (length l.text ≤ length l.initial.text)

abbrev pub decreases-loop-wanted : goal.decreases-loop-wanted
decreases-loop-wanted l = length l.pattern
