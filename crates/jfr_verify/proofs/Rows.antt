-- Receipts of a chunk of two rings: event 0 refers to entry 0, event 1 to entry 2; entries 0 and 1 refer to each
-- other, and so do entries 2 and 3.
use Rattle.std.specs.Prelude.{◌≡◌, ℕ, [], ◌∷◌, Some, None, refl}
use Rattle.std.specs.List.{flat_map}
use Rattle.jfr_base.specs.Integer.{spell}
use Rattle.jfr_base.specs.Formats.{run, int_at}
use Rattle.jfr_base.specs.declared.flaw.Refusal.{Refusal}
use Rattle.jfr_text.specs.Strings.{string_format}
use Rattle.jfr_filter.specs.Filters.{Given}
use Rattle.jfr_layout.specs.Classes.{is_event_class, kind_of}
use Rattle.jfr_value.specs.Nodes.{value_of}
use Rattle.jfr_value.specs.Reading.{class_format, value_format}
use Rattle.jfr_pool.specs.Entries.{inline, number_in_force}
use Rattle.jfr_chunk.specs.Parts.{EventAt, events_of}
use Rattle.jfr_chunk.proofs.Chunks.{record_b, rings_parts}
use Rattle.jfr_verify.specs.declared.doubt.Doubt.TheVariants.{ChunksDiffer, ReceiptBad}
use Rattle.jfr_verify.specs.declared.line.Line.{Line}
use Rattle.jfr_verify.specs.declared.line.Parent.{Parent}
use Rattle.jfr_verify.specs.declared.line.Parent.TheVariants.{OfEntry, OfEvent}
use Rattle.jfr_verify.specs.declared.verdict.Verdict.TheVariants.{Doubted, Refused, Verified}
use Rattle.jfr_verify.specs.Compact.{parent_in}
use Rattle.jfr_verify.specs.Ranks.{kept_lines, ranked_bytes}
use Rattle.jfr_verify.specs.Reading.{lines_of_count}
use Rattle.jfr_verify.specs.Receipts.{lines_of, receipt_format, receipt_of}
use Rattle.jfr_verify.specs.Streams.{Compared}

abbrev second : EventAt
second = record { record_of = record_b; node = record { shape = inline 9; at = 332; end = 333 } }

abbrev line : ℕ → Parent → Line
line n parent = record { entry = n; parent = parent }

lines : lines_of rings_parts ≡ line 0 (OfEvent 0) ∷ line 2 (OfEvent 1) ∷ line 1 (OfEntry 0) ∷ line 3 (OfEntry 2) ∷ []
unfolding lines_of events_of is_event_class value_of number_in_force run int_at string_format class_format value_format kind_of
lines = refl

receipt : receipt_of rings_parts ≡ 4 ∷ 0 ∷ 0 ∷ 0 ∷ 2 ∷ 0 ∷ 1 ∷ 1 ∷ 1 ∷ 0 ∷ 3 ∷ 1 ∷ 2 ∷ []
unfolding receipt_of lines_of events_of is_event_class value_of number_in_force spell run int_at string_format class_format value_format kind_of
receipt = refl

-- The lines if only event 1 is kept, and their bytes in the receipt of the scrub, whose entries are 2 and 3.
only_second : kept_lines rings_parts (second ∷ []) ≡ line 2 (OfEvent 0) ∷ line 3 (OfEntry 2) ∷ []
unfolding kept_lines value_of number_in_force run int_at string_format class_format value_format kind_of
only_second = refl

in_the_scrub : flat_map (ranked_bytes (0 ∷ 0 ∷ 0 ∷ 1 ∷ [])) (line 2 (OfEvent 0) ∷ line 3 (OfEntry 2) ∷ []) ≡ 0 ∷ 0 ∷ 0 ∷ 1 ∷ 1 ∷ 0 ∷ []
unfolding spell
in_the_scrub = refl

-- The receipt of SCRUBBING.md, also with its first number in two bytes and followed by another byte.
read : lines_of_count (2 ∷ 0 ∷ 0 ∷ 0 ∷ 1 ∷ 1 ∷ 0 ∷ []) 2 ≡ Some (record { value = line 0 (OfEvent 0) ∷ line 1 (OfEntry 0) ∷ []; place = 7 })
unfolding receipt_format run int_at
read = refl

read_longer : lines_of_count (130 ∷ 0 ∷ 0 ∷ 0 ∷ 0 ∷ 1 ∷ 1 ∷ 0 ∷ 9 ∷ []) 2 ≡ Some (record { value = line 0 (OfEvent 0) ∷ line 1 (OfEntry 0) ∷ []; place = 8 })
unfolding receipt_format run int_at
read_longer = refl

other_count : lines_of_count (2 ∷ 0 ∷ 0 ∷ 0 ∷ 1 ∷ 1 ∷ 0 ∷ []) 3 ≡ None
unfolding receipt_format run int_at
other_count = refl

no_kind : lines_of_count (1 ∷ 0 ∷ 2 ∷ 0 ∷ []) 1 ≡ None
unfolding receipt_format run int_at
no_kind = refl

compact_event : parent_in 2147483647 ≡ OfEvent 2147483647
compact_event = refl

compact_entry : parent_in 2147483651 ≡ OfEntry 3
compact_entry = refl

-- Verdicts after two pairs.
at_the_end : (g : Given) → Compared g [] None [] [] 2 (Verified 2)
at_the_end g = refl

receipts_longer : (g : Given) → Compared g [] None [] (9 ∷ []) 2 (Doubted 2 ReceiptBad)
receipts_longer g = refl

output_longer : (g : Given) → Compared g [] None (rings_parts ∷ []) [] 2 (Doubted 3 ChunksDiffer)
output_longer g = refl

output_shorter : (g : Given) → Compared g (rings_parts ∷ []) None [] [] 2 (Doubted 3 ChunksDiffer)
output_shorter g = refl

input_refused : (g : Given) (f : Refusal) → Compared g [] (Some f) (rings_parts ∷ []) (9 ∷ []) 2 (Refused f)
input_refused g f = refl
