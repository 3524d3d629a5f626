use Rattle.std.proofs.Common.{drop}
use Rattle.jfr_show.proofs.EscapeLaws.{IsPlain}
use Rattle.jfr_show.proofs.json.string.is_plain.Given as goal

-- The bytes so far have no escape.
abbrev pub invariant-loop-byte : goal.invariant-loop-byte
invariant-loop-byte l = IsPlain (drop l.byte-index l.byte-items) → IsPlain l.byte-items
