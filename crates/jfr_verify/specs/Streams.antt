-- Lists of chunks, an output for each input, with their receipts one after another.
use Rattle.std.specs.Prelude.{◌≡◌, ℕ, ◌+◌, List, [], ◌∷◌, length, drop, Option, Some, None, Result, Ok, Err, ⊤}
use Rattle.std.specs.List.{AllByRecursion, flat_map}
use Rattle.jfr_base.specs.declared.flaw.Refusal.{Refusal}
use Rattle.jfr_filter.specs.Filters.{Given}
use Rattle.jfr_chunk.specs.Parts.{Parts, AreParts}
use Rattle.jfr_chunk.specs.Chosen.{kept_of}
use Rattle.jfr_chunk.specs.Metas.{Names}
use Rattle.jfr_laws.specs.Laws.{IsKept}
use Rattle.jfr_verify.specs.Receipts.{receipt_of}
use Rattle.jfr_verify.specs.Laws.{IsVerified}
use Rattle.jfr_verify.specs.Checked.{Checked}
use Rattle.jfr_verify.specs.declared.doubt.Doubt.{Doubt}
use Rattle.jfr_verify.specs.declared.doubt.Doubt.TheVariants.{ChunksDiffer, ReceiptBad}
use Rattle.jfr_verify.specs.declared.verdict.Verdict.{Verdict}
use Rattle.jfr_verify.specs.declared.verdict.Verdict.TheVariants.{Verified, Doubted, Refused}

-- What holds after a pair: one fact if it passes with m bytes of receipt, another if there is a doubt.
abbrev pub Onward : (ℕ → Type 0) → (Doubt → Type 0) → Result ℕ Doubt → Type 0
Onward next stop (Ok m) = next m
Onward next stop (Err d) = stop d

-- The verdict after n pairs, given the inputs, the outputs and the bytes of receipts that come next. `end` is
-- the refusal of the input after these, if there is one. Pairs are compared in order, until a doubt, the
-- refused input or the end of a list.
abbrev pub Compared : Given → List Parts → Option Refusal → List Parts → List ℕ → ℕ → Verdict → Type 0
Compared g [] (Some f) qs r n x = x ≡ Refused f
Compared g [] None [] [] n x = x ≡ Verified n
Compared g [] None [] (b ∷ r) n x = x ≡ Doubted n ReceiptBad
Compared g [] None (q ∷ qs) r n x = x ≡ Doubted (n + 1) ChunksDiffer
Compared g (p ∷ ps) end [] r n x = x ≡ Doubted (n + 1) ChunksDiffer
Compared g (p ∷ ps) end (q ∷ qs) r n x = (y : Result ℕ Doubt) × Checked p q (kept_of g p) r y × Onward (λ m. Compared g ps end qs (drop m r) (n + 1) x) (λ d. x ≡ Doubted (n + 1) d) y

-- Each output is verified against its input.
abbrev pub AreVerified : Given → List Parts → List Parts → Type 0
AreVerified g [] [] = ⊤
AreVerified g [] (q ∷ qs) = ⊥
AreVerified g (p ∷ ps) [] = ⊥
AreVerified g (p ∷ ps) (q ∷ qs) = IsVerified p q (kept_of g p) × AreVerified g ps qs

-- Each output is the output of a scrub of its input with the events that this filter keeps and the classes of
-- these names described.
abbrev pub AreScrubbed : Names → Given → List Parts → List Parts → Type 0
AreScrubbed names g [] [] = ⊤
AreScrubbed names g [] (q ∷ qs) = ⊥
AreScrubbed names g (p ∷ ps) [] = ⊥
AreScrubbed names g (p ∷ ps) (q ∷ qs) = AreParts p × ((k : IsKept names p (kept_of g p)) × (k.parts ≡ q)) × AreScrubbed names g ps qs

-- The receipts that are written for these chunks, one after another.
abbrev pub receipts : List Parts → List ℕ
receipts qs = flat_map receipt_of qs

-- There is exactly one verdict. If it is Verified, no input is refused, each output is verified against its
-- input, and all are counted. The outputs of a scrub are verified with the receipts that are written for them.
pub record IsComparison (g : Given) (ps : List Parts) (end : Option Refusal) (qs : List Parts) (r : List ℕ) (n : ℕ) : Type 0 where
  pub there : (x : Verdict) × Compared g ps end qs r n x
  pub one : (x y : Verdict) → Compared g ps end qs r n x → Compared g ps end qs r n y → x ≡ y
  pub sound : (m : ℕ) → AllByRecursion AreParts ps → AllByRecursion AreParts qs → Compared g ps end qs r n (Verified m) → AreVerified g ps qs × (m ≡ n + length ps) × (end ≡ None)
  pub complete : (names : Names) → AreScrubbed names g ps qs → Compared g ps None qs (receipts qs) n (Verified (n + length ps))
