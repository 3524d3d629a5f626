-- What the command `sample` says of the sample.
use Rattle.std.specs.Prelude.{ℕ, List, [], ◌++◌, length, codes, Result, Ok, Err}
use Rattle.jfr_base.specs.declared.flaw.Flaw.{Flaw}
use Rattle.jfr_filter.specs.declared.side.Side.TheVariants.{IncludeEvents}
use Rattle.jfr_filter.specs.Filters.{Given, describes, nothing_given, with_patterns}
use Rattle.jfr_filter.specs.Patterns.{patterns_in}
use Rattle.jfr_chunk.specs.Parts.{Parts, EventAt, events_of}
use Rattle.jfr_chunk.specs.Chosen.{kept_of}
use Rattle.jfr_chunk.specs.Reach.{remain}
use Rattle.jfr_chunk.specs.Refusal.{read_parts}
use Rattle.jfr_chunk.specs.Scrub.{scrub_of}
use Rattle.jfr_show.specs.Totals.{number_line}
use Rattle.jfr_sample.specs.Sample.{sample_of}

-- The filter that keeps the events of t.A.
abbrev pub only_a : Given
only_a = with_patterns IncludeEvents (patterns_in (codes "t.A")) nothing_given

-- Six lines: the numbers of events, entries and bytes of a chunk, and how many of each are left if these
-- events are kept.
abbrev pub lines_of : Parts → List EventAt → List ℕ
lines_of p kept =
    number_line (codes "events") (length (events_of p))
    ++ number_line (codes "kept events") (length kept)
    ++ number_line (codes "constants") (length p.entries)
    ++ number_line (codes "kept constants") (length (remain p kept))
    ++ number_line (codes "bytes") (length p.bytes)
    ++ number_line (codes "kept bytes") (length (scrub_of (describes only_a) p kept))

-- The six lines of a chunk that is scrubbed with this filter.
unfoldable pub counted : Parts → List ℕ
counted p = lines_of p (kept_of only_a p)

-- The text for the sample, as it is read. No sample is refused (`sample_is_accepted`), so the second case
-- never applies.
abbrev pub counted_in : Result Parts Flaw → List ℕ
counted_in (Ok p) = counted p
counted_in (Err flaw) = []

-- The text for the sample of a seed and a number of events, which is read like any other recording.
unfoldable pub sampled : ℕ → ℕ → List ℕ
sampled seed events = counted_in (read_parts (sample_of seed events))
