-- The sample recording, byte for byte, by its seed and the number of its events.
use Rattle.std.specs.Prelude.{ℕ, zero, suc, ◌+◌, ◌-◌, ◌*◌, ◌/◌, ◌%◌, ◌^◌, ◌==◌, List, [], ◌∷◌, ◌++◌, length, decimal, nat_lt, if◌then◌else◌}
use Rattle.std.specs.List.{flat_map, range_with_len}
use Rattle.jfr_base.specs.Integer.{spell}
use Rattle.jfr_header.specs.Headers.{header_bytes}
use Rattle.jfr_header.specs.Made.{made_header}
use Rattle.jfr_frame.specs.Written.{record_in}
use Rattle.jfr_sample.specs.Metadata.{string_of, metadata}

-- The draw that follows draw x (a linear congruential generator).
abbrev pub next_draw : ℕ → ℕ
next_draw x = (1664525 * x + 1013904223) % 2 ^ 32

-- The draw for event i: event 1 has the draw that follows the seed.
unfoldable pub draw : ℕ → ℕ → ℕ
draw seed zero = seed
draw seed (suc i) = next_draw (draw seed i)

-- The key of an event's node, from 1 to the number of events, computed from a draw without its low eight
-- bits.
abbrev pub key_of : ℕ → ℕ → ℕ
key_of events x = 1 + (x / 256) % events

-- A t.A, whose class is 8: its number and the key of its node. Its size is spelled in four bytes, as that of
-- every record after the metadata.
abbrev pub event_a : ℕ → ℕ → List ℕ
event_a i key = record_in 4 (spell 8 ++ spell i ++ spell key)

-- A t.B, whose class is 9: the key of its node.
abbrev pub event_b : ℕ → List ℕ
event_b key = record_in 4 (spell 9 ++ spell key)

-- Event i, given its draw x: a t.A if x is below 2^31, else a t.B.
abbrev pub event_by : ℕ → ℕ → ℕ → List ℕ
event_by events i x = if nat_lt x (2 ^ 31) then event_a i (key_of events x) else event_b (key_of events x)

-- Event i.
unfoldable pub event : ℕ → ℕ → ℕ → List ℕ
event seed events i = event_by events i (draw seed i)

-- The key of the node that entry k's field `next` refers to: k - 2 if k is a multiple of 3, else k + 1. For
-- the last entry there may be no such node.
abbrev pub next_of : ℕ → ℕ
next_of k = if k % 3 == 0 then k - 2 else k + 1

-- Entry k: its key, the key of the next node, and the key in decimal as the text.
unfoldable pub entry : ℕ → List ℕ
entry k = spell k ++ spell (next_of k) ++ string_of (decimal k)

-- The events from 1 to n, one after another.
abbrev pub events_to : ℕ → ℕ → ℕ → List ℕ
events_to seed events n = flat_map (event seed events) (range_with_len 1 n)

-- The entries from 1 to n, one after another.
abbrev pub entries_to : ℕ → List ℕ
entries_to n = flat_map entry (range_with_len 1 n)

-- The checkpoint: type 1, start 0, duration 0, delta 0, the type byte 0, and one pool, of class 7, with its
-- entries.
unfoldable pub checkpoint : ℕ → List ℕ
checkpoint n = record_in 4 ((1 ∷ 0 ∷ 0 ∷ 0 ∷ 0 ∷ 1 ∷ 7 ∷ []) ++ spell n ++ entries_to n)

-- The records before the checkpoint: the metadata and the events.
abbrev pub before_checkpoint : ℕ → ℕ → List ℕ
before_checkpoint seed events = metadata ++ events_to seed events events

-- The sample: the header, followed by its records, of which the checkpoint is the last.
unfoldable pub sample_of : ℕ → ℕ → List ℕ
sample_of seed events =
    header_bytes (made_header (68 + length (before_checkpoint seed events) + length (checkpoint events)) (68 + length (before_checkpoint seed events)))
    ++ before_checkpoint seed events ++ checkpoint events
