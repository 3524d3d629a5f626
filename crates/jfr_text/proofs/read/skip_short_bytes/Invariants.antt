use Rattle.jfr_text.specs.Spans.{AreShort}
use Rattle.jfr_text.proofs.read.skip_short_bytes.Given as goal

abbrev pub invariant-loop-place : goal.invariant-loop-place
invariant-loop-place l = AreShort l.bytes l.at l.place
