-- What is kept of the records of a chunk, so that their bytes need not be read again.
use Rattle.std.specs.Prelude.{◌≡◌, ℕ, ◌-◌, ◌^◌, List, map, min}
use Rattle.std.specs.List.{filter_map}
use Rattle.jfr_frame.specs.declared.framed.Framed.{Framed}
use Rattle.jfr_frame.specs.declared.start.Start.{Start}
use Rattle.jfr_frame.specs.Records.{AreRecords, record_at}

-- What is kept of a record: its offset; its type, or the largest number of 16 bits if the type is larger; and
-- how far after its offset its type and its body start.
abbrev pub start_of : Framed → Start
start_of r = record { at = r.at; type_id = min r.type_id (2 ^ 16 - 1); type_at = r.type_at - r.at; body = r.body - r.at }

-- The offsets that are kept.
abbrev pub kept_places : List Start → List ℕ
kept_places starts = map (λ s. s.at) starts

-- The records that start at the kept offsets.
abbrev pub records_at : List ℕ → List Start → List Framed
records_at c starts = filter_map (λ s. record_at c s.at) starts

-- The records that start at the kept offsets are those of the chunk, and `starts` is what is kept of each.
pub record AreStarts (c : List ℕ) (starts : List Start) : Type 0 where
  pub cover : AreRecords c (records_at c starts)
  pub kept : starts ≡ map start_of (records_at c starts)
