use Rattle.std.proofs.Common.{map}
use Rattle.jfr_verify.proofs.EqualLaws.{SameUpTo}
use Rattle.jfr_verify.proofs.named.same_shapes.Given as goal

abbrev pub invariant-loop-number : goal.invariant-loop-number
invariant-loop-number l = SameUpTo (map (λ f. f.shape) l.one) (map (λ f. f.shape) l.other) l.number
