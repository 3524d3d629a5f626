-- The answers of the checker to a pair of chunks.
use Rattle.std.specs.Prelude.{◌≡◌, ◌≤◌, ℕ, Bool, List, length, take, Result, Ok, Err, ⊤}
use Rattle.jfr_base.specs.declared.memory.NoMemory.{NoMemory}
use Rattle.jfr_chunk.specs.Parts.{Parts, EventAt, events_of}
use Rattle.jfr_verify.specs.Receipts.{IsReceiptOf}
use Rattle.jfr_verify.specs.Checks.{HasClasses, contents, AreAmong, AreClosed}
use Rattle.jfr_verify.specs.Laws.{Passes}
use Rattle.jfr_verify.specs.declared.doubt.CheckFault.{CheckFault}
use Rattle.jfr_verify.specs.declared.doubt.CheckFault.TheVariants as faults
use Rattle.jfr_verify.specs.declared.doubt.Doubt.{Doubt}
use Rattle.jfr_verify.specs.declared.doubt.Doubt.TheVariants.{ReceiptLong, OutRefused, ChunksDiffer, ClassesDiffer, EventsDiffer, EntriesDiffer, EntryMissing, ReceiptBad}

-- This answer is right for an input, an output, the kept events and the bytes that are left of the receipts:
-- the pair passes the checks with the first n bytes as its receipt; or this check is the first that fails.
abbrev pub Checked : Parts → Parts → List EventAt → List ℕ → Result ℕ Doubt → Type 0
Checked p q kept r (Ok n) = (n ≤ length r) × Passes p q kept (take n r)
Checked p q kept r (Err ReceiptLong) = ⊥
Checked p q kept r (Err OutRefused) = ⊥
Checked p q kept r (Err ChunksDiffer) = ⊥
Checked p q kept r (Err ClassesDiffer) = HasClasses p.classes q.classes → ⊥
Checked p q kept r (Err EventsDiffer) = HasClasses p.classes q.classes × (contents p kept ≡ contents q (events_of q) → ⊥)
Checked p q kept r (Err EntriesDiffer) = HasClasses p.classes q.classes × (contents p kept ≡ contents q (events_of q)) × ((marks : List Bool) → AreAmong p q marks → ⊥)
Checked p q kept r (Err EntryMissing) = HasClasses p.classes q.classes × (contents p kept ≡ contents q (events_of q)) × (marks : List Bool) × AreAmong p q marks × (AreClosed p kept marks → ⊥)
Checked p q kept r (Err ReceiptBad) = HasClasses p.classes q.classes × (contents p kept ≡ contents q (events_of q)) × (marks : List Bool) × AreAmong p q marks × AreClosed p kept
    marks × ((n : ℕ) → IsReceiptOf (take n r) q → ⊥)

-- At most one answer is right.
abbrev pub HasOneAnswer : Parts → Parts → List EventAt → List ℕ → Type 0
HasOneAnswer p q kept r = (x y : Result ℕ Doubt) → Checked p q kept r x → Checked p q kept r y → x ≡ y

-- An answer is right.
abbrev pub HasAnswer : Parts → Parts → List EventAt → List ℕ → Type 0
HasAnswer p q kept r = (x : Result ℕ Doubt) × Checked p q kept r x

-- The answer as callers see it.
abbrev pub answer_of : Result (Result ℕ Doubt) NoMemory → Result ℕ CheckFault
answer_of (Ok (Ok n)) = Ok n
answer_of (Ok (Err d)) = Err (faults.Doubt d)
answer_of (Err m) = Err faults.Memory

-- The answer that callers see is right, unless memory ran out.
abbrev pub Answered : Parts → Parts → List EventAt → List ℕ → Result ℕ CheckFault → Type 0
Answered p q kept r (Ok n) = Checked p q kept r (Ok n)
Answered p q kept r (Err (faults.Doubt d)) = Checked p q kept r (Err d)
Answered p q kept r (Err faults.Memory) = ⊤
