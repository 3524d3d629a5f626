-- The verdict on an output and its receipts.
use Rattle.std.specs.Prelude.{◌≡◌, ◌<◌, ◌≤◌, ◌^◌, ℕ, List, [], length, Option, Some, None, Result, Ok, Err, ⊤}
use Rattle.std.specs.List.{flat_map}
use Rattle.jfr_base.specs.declared.flaw.Flaw.{Flaw}
use Rattle.jfr_base.specs.declared.flaw.Refusal.{Refusal}
use Rattle.jfr_filter.specs.Filters.{Given}
use Rattle.jfr_outside.specs.World.{World, file}
use Rattle.jfr_header.specs.Taking.{IsKept}
use Rattle.jfr_chunk.specs.Parts.{Parts}
use Rattle.jfr_chunk.specs.Chosen.{kept_of}
use Rattle.jfr_chunk.specs.Refusal.{read_parts}
use Rattle.jfr_chunk.specs.Metas.{Names}
use Rattle.jfr_chunk.specs.Scrub.{scrub_of}
use Rattle.jfr_verify.specs.Receipts.{receipt_of}
use Rattle.jfr_verify.specs.Recordings.{Recording, recording_of}
use Rattle.jfr_verify.specs.Streams.{AreVerified, Compared}
use Rattle.jfr_verify.specs.declared.doubt.Doubt.TheVariants.{ReceiptLong, OutRefused}
use Rattle.jfr_verify.specs.declared.verdict.Verdict.{Verdict}
use Rattle.jfr_verify.specs.declared.verdict.Verdict.TheVariants.{Verified, Doubted, Refused, ReadFault, Memory}

-- The bytes of the input, the output and the receipts; `None` for a file that doesn't exist.
pub record Three : Type 0 where
  pub input : Option (List ℕ)
  pub output : Option (List ℕ)
  pub receipt : Option (List ℕ)

-- The files with these names.
abbrev pub three : List ℕ → List ℕ → List ℕ → World → Three
three input output receipt w = record { input = file w input; output = file w output; receipt = file w receipt }

-- One of the files doesn't exist.
pub data LacksOne (t : Three) : Type 0 where
  no_input : t.input ≡ None → LacksOne t
  no_output : t.output ≡ None → LacksOne t
  no_receipt : t.receipt ≡ None → LacksOne t

-- The receipts exist, and aren't too long.
pub record HasReceipts (t : Three) : Type 0 where
  pub bytes : List ℕ
  pub is : t.receipt ≡ Some bytes
  pub short : length bytes < 2 ^ 40

-- The output exists.
pub record HasOutput (t : Three) : Type 0 where
  pub bytes : List ℕ
  pub is : t.output ≡ Some bytes

-- The verdict for a recording, the chunks of an output, and the receipts.
abbrev pub ComparedWith : Given → Recording → List Parts → List ℕ → ℕ → Verdict → Type 0
ComparedWith g input qs r n x = Compared g input.parts input.refusal qs r n x

-- The verdict on the files. The receipts are read first, then the output, then the input.
pub data VerdictOf (g : Given) (t : Three) (x : Verdict) : Type 0 where
  -- The receipts are too long.
  long : (r : List ℕ) → t.receipt ≡ Some r → 2 ^ 40 ≤ length r → x ≡ Doubted 0 ReceiptLong → VerdictOf g t x
  -- A chunk of the output is refused.
  refused : HasReceipts t → (o : HasOutput t) → (f : Refusal) → (recording_of o.bytes).refusal ≡ Some f → x ≡ Doubted f.chunk OutRefused → VerdictOf g t x
  -- Each chunk of the input is compared with one of the output.
  compared : (r : HasReceipts t) → (o : HasOutput t) → (recording_of o.bytes).refusal ≡ None → (a : List ℕ) → t.input ≡ Some a
      → ComparedWith g (recording_of a) (recording_of o.bytes).parts r.bytes 0 x → VerdictOf g t x

-- At most one verdict is right.
abbrev pub HasOneVerdict : Given → Three → Type 0
HasOneVerdict g t = (x y : Verdict) → VerdictOf g t x → VerdictOf g t y → x ≡ y

-- No verdict is right.
abbrev pub HasNoVerdict : Given → Three → Type 0
HasNoVerdict g t = (x : Verdict) → VerdictOf g t x → ⊥

-- If all three files exist, a verdict is right.
abbrev pub HasVerdict : Given → Three → Type 0
HasVerdict g t = (input output receipt : List ℕ) → t ≡ record { input = Some input; output = Some output; receipt = Some receipt } → (x : Verdict) × VerdictOf g t x

-- The input and the output are read to their ends, each chunk of the output is verified against one of the
-- input, and there are `count` of them.
pub record AllVerified (g : Given) (t : Three) (count : ℕ) : Type 0 where
  pub input : List ℕ
  pub input_is : t.input ≡ Some input
  pub input_ends : (recording_of input).refusal ≡ None
  pub output : List ℕ
  pub output_is : t.output ≡ Some output
  pub output_ends : (recording_of output).refusal ≡ None
  pub verified : AreVerified g (recording_of input).parts (recording_of output).parts
  pub counted : count ≡ length (recording_of input).parts

-- The output of a scrub of a chunk with the events that this filter keeps and the classes of these names
-- described.
abbrev pub output_of : Names → Given → Parts → List ℕ
output_of names g p = scrub_of names p (kept_of g p)

-- The receipt that is written for a chunk that was read.
abbrev pub receipt_by : Result Parts Flaw → List ℕ
receipt_by (Ok q) = receipt_of q
receipt_by (Err flaw) = []

-- The receipt that is written for the output of a scrub of a chunk.
abbrev pub receipt_for : Names → Given → Parts → List ℕ
receipt_for names g p = receipt_by (read_parts (output_of names g p))

-- The input is read to its end, the output is the scrubs of its chunks, whichever classes they describe, and the
-- receipts are those that are written for them, and not too long.
pub record AreScrubs (g : Given) (t : Three) : Type 0 where
  pub names : Names
  pub input : List ℕ
  pub input_is : t.input ≡ Some input
  pub input_ends : (recording_of input).refusal ≡ None
  pub output_is : t.output ≡ Some (flat_map (output_of names g) (recording_of input).parts)
  pub receipt_is : t.receipt ≡ Some (flat_map (receipt_for names g) (recording_of input).parts)
  pub short : length (flat_map (receipt_for names g) (recording_of input).parts) < 2 ^ 40

-- The output of a scrub and its receipts are verified.
abbrev pub HasVerifiedScrubs : Given → Three → Type 0
HasVerifiedScrubs g t = (s : AreScrubs g t) → VerdictOf g t (Verified (length (recording_of s.input).parts))

-- A claim about the verdict, unless a read failed or memory ran out.
abbrev pub IfDecided : Verdict → Type 0 → Type 0
IfDecided (Verified n) Claim = Claim
IfDecided (Doubted chunk doubt) Claim = Claim
IfDecided (Refused r) Claim = Claim
IfDecided ReadFault Claim = ⊤
IfDecided Memory Claim = ⊤

-- A claim about the number of chunks, if all are verified.
abbrev pub IfVerified : Verdict → (ℕ → Type 0) → Type 0
IfVerified (Verified n) Claim = Claim n
IfVerified _ Claim = ⊤

-- Everything is verified, or memory ran out.
abbrev pub IsVerifiedOrMemory : Verdict → Type 0
IsVerifiedOrMemory (Verified n) = ⊤
IsVerifiedOrMemory Memory = ⊤
IsVerifiedOrMemory _ = ⊥

-- The verdict on the files with these names. Of the place, only the open input has changed.
abbrev pub VerdictIn : Given → List ℕ → List ℕ → List ℕ → Verdict → World → World → Type 0
VerdictIn g input output receipt x w v = IsKept w v × IfDecided x (VerdictOf g (three input output receipt w) x)
