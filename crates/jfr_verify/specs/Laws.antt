-- What passing the checks means for a pair of chunks.
use Rattle.std.specs.Prelude.{◌≡◌, ◌<◌, ℕ, Bool, List, length}
use Rattle.jfr_chunk.specs.Parts.{Parts, EventAt, events_of}
use Rattle.jfr_chunk.specs.Reach.{Reached, remain}
use Rattle.jfr_chunk.specs.Meaning.{SameMeaning}
use Rattle.jfr_chunk.specs.Metas.{Names}
use Rattle.jfr_laws.specs.Laws.{AreCopied, IsKept}
use Rattle.jfr_verify.specs.Receipts.{IsReceiptOf, receipt_of}
use Rattle.jfr_verify.specs.Checks.{HasClasses, contents, AreAmong, AreClosed}

-- An input and an output pass the checks, with these events kept and this receipt.
pub record Passes (p q : Parts) (kept : List EventAt) (receipt : List ℕ) : Type 0 where
  pub classes : HasClasses p.classes q.classes
  pub events : contents p kept ≡ contents q (events_of q)
  pub marks : List Bool
  pub among : AreAmong p q marks
  pub closed : AreClosed p kept marks
  pub shown : IsReceiptOf receipt q

-- The output means the same as the input, each of its classes is a class of the input, and its entries are
-- copies of those that the kept events reach.
pub record IsVerified (p q : Parts) (kept : List EventAt) : Type 0 where
  pub classes : HasClasses p.classes q.classes
  pub meaning : SameMeaning p q kept (events_of q)
  pub entries : AreCopied p q (remain p kept) q.entries

-- The events of the chunk reach each of its entries.
abbrev pub AllReached : Parts → Type 0
AllReached p = (number : ℕ) → number < length p.entries → Reached p (events_of p) number

-- The output of a scrub passes the checks with the receipt that is written for it, whichever classes it
-- describes.
abbrev pub IsKeptPassed : Parts → List EventAt → Type 0
IsKeptPassed p kept = (names : Names) (k : IsKept names p kept) → Passes p k.parts kept (receipt_of k.parts)
