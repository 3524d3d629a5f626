use Rattle.std.proofs.Common.{◌≡◌, map}
use Rattle.std.specs.Str.{chars}
use Rattle.jfr_filter.proofs.list.patterns_of.Given as goal

abbrev pub invariant-loop-part : goal.invariant-loop-part
invariant-loop-part l = l.patterns ≡ map (λ part. chars part.now) l.yielded
