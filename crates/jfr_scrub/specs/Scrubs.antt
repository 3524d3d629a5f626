-- What scrubbing does with a recording.
use Rattle.std.specs.Prelude.{ℕ, List, [], Result, Ok, Err}
use Rattle.jfr_base.specs.declared.flaw.Flaw.{Flaw}
use Rattle.jfr_filter.specs.Filters.{Given, describes}
use Rattle.jfr_plan.specs.Rules.{Rule}
use Rattle.jfr_plan.specs.Makes.{making}
use Rattle.jfr_chunk.specs.Parts.{Parts}
use Rattle.jfr_chunk.specs.Chosen.{kept_of}
use Rattle.jfr_chunk.specs.Refusal.{read_parts, refusal_of}
use Rattle.jfr_chunk.specs.Scrub.{scrub_of}

-- The output of a chunk with these parts; none for a chunk that is refused.
abbrev pub scrubbed_by : Given → Result Parts Flaw → List ℕ
scrubbed_by g (Ok p) = scrub_of (describes g) p (kept_of g p)
scrubbed_by g (Err flaw) = []

-- The output of a chunk, with the events that the filter keeps.
unfoldable pub scrubbed : Given → List ℕ → List ℕ
scrubbed g c = scrubbed_by g (read_parts c)

-- The rule of scrubbing: the output is created, the output of each chunk is appended, and the output is
-- finished.
abbrev pub scrubbing : Given → List ℕ → Rule
scrubbing g output = making output refusal_of (scrubbed g)
