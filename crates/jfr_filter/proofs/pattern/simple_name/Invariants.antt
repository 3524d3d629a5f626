use Rattle.std.proofs.Common.{◌≡◌, length}
use Rattle.std.specs.Str.{chars}
use denote.Text.{Utf8}
use denote.Shadow.{shadow}
use Rattle.jfr_filter.specs.Patterns.{simple_name}
use Rattle.jfr_filter.proofs.NameLaws.{named}
use Rattle.jfr_filter.proofs.pattern.simple_name.Given as goal

abbrev pub invariant-loop-character : goal.invariant-loop-character
invariant-loop-character l = shadow (Utf8 l.simple) × shadow (Utf8 l.rest) × (named (chars l.rest) (chars l.simple) ≡ simple_name (chars l.name))

abbrev pub decreases-loop-character : goal.decreases-loop-character
decreases-loop-character l = length l.rest
