-- The receipts of a recording.
use Rattle.std.specs.Prelude.{◌≡◌, ℕ, List, Option}
use Rattle.jfr_filter.specs.Filters.{Given}
use Rattle.jfr_plan.specs.Rules.{Rule}
use Rattle.jfr_plan.specs.Makes.{making}
use Rattle.jfr_chunk.specs.Parts.{Parts, AreParts}
use Rattle.jfr_chunk.specs.Chosen.{kept_of}
use Rattle.jfr_chunk.specs.Refusal.{read_parts, refusal_of}
use Rattle.jfr_output.specs.Recordings.{recording_output}
use Rattle.jfr_scrub.specs.Scrubs.{scrubbed}
use Rattle.jfr_verify.specs.Laws.{Passes}
use Rattle.jfr_verify.specs.Verdicts.{receipt_by}

-- The receipt of a chunk's scrub with this filter; empty for a chunk that is refused.
unfoldable pub scrub_receipt : Given → List ℕ → List ℕ
scrub_receipt g c = receipt_by (read_parts (scrubbed g c))

-- The rule of receipts: the file is created, the receipt of each chunk's scrub is appended, and the file is
-- finished.
abbrev pub receipting : Given → List ℕ → Rule
receipting g receipt = making receipt refusal_of (scrub_receipt g)

-- The receipts of a recording's scrub: those of the chunks before the first that is refused, one after another.
abbrev pub recording_receipts : Given → List ℕ → List ℕ
recording_receipts g = recording_output refusal_of (scrub_receipt g)

-- The filter with these patterns of classes that are described even without events.
abbrev pub describing : Option (List (List ℕ)) → Given → Given
describing patterns g = record g { describe = patterns }

-- The chunk c and its scrub pass the checks of `verify` with the receipt r.
pub record IsReceipted (g : Given) (c r : List ℕ) : Type 0 where
  pub input : Parts
  pub bytes : input.bytes ≡ c
  pub valid : AreParts input
  pub output : Parts
  pub becomes : output.bytes ≡ scrubbed g c
  pub accepted : AreParts output
  pub passes : Passes input output (kept_of g input) r
