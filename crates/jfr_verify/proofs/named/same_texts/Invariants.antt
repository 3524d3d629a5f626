use Rattle.std.proofs.Common.{map}
use Rattle.jfr_meta.specs.Attributes.{text_at}
use Rattle.jfr_verify.proofs.EqualLaws.{SameUpTo}
use Rattle.jfr_verify.proofs.named.same_texts.Given as goal

abbrev pub invariant-loop-at : goal.invariant-loop-at
invariant-loop-at l = SameUpTo (map (text_at l.numbers.one.now) l.ones) (map (text_at l.numbers.other.now) l.others) l.at
