-- Which prefix of some bytes is a receipt of a chunk.
use Rattle.std.specs.Prelude.{◌<◌, ◌≤◌, ℕ, List, length, take, Option, Some, None}
use Rattle.jfr_pool.specs.Entries.{IsInForce}
use Rattle.jfr_chunk.specs.Parts.{Parts}
use Rattle.jfr_verify.specs.Receipts.{IsReceiptOf}

-- Each entry is in force.
abbrev pub AllInForce : Parts → Type 0
AllInForce p = (n : ℕ) → n < length p.entries → IsInForce p.entries n

-- The prefix with this length is a receipt of the chunk, or no prefix is one.
abbrev pub ReceiptPrefix : Parts → List ℕ → Option ℕ → Type 0
ReceiptPrefix p r (Some n) = (n ≤ length r) × IsReceiptOf (take n r) p
ReceiptPrefix p r None = (n : ℕ) → IsReceiptOf (take n r) p → ⊥
