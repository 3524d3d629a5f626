use Rattle.std.specs.Prelude.{◌≡◌, ℕ, List, map}
use Rattle.bstr.specs.Utf8.{lossy_chars}
use Rattle.jfr_mask.specs.Held.{texts_of}
use Rattle.jfr_mask.specs.Pseudonyms.{has_text, is_known}
use Rattle.jfr_mask.proofs.known.Known.of.Given as goal

abbrev pub invariant-loop-line : goal.invariant-loop-line
invariant-loop-line l = (t : List ℕ) → has_text (texts_of l.texts) t ≡ is_known (map (λ line. lossy_chars line.now) l.yielded) t
