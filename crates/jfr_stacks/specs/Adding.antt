-- How events are added to the counts: one by one, or all those of an entry at once.
use Rattle.std.specs.Prelude.{◌≡◌, ℕ, ◌+◌, ◌-◌, ◌*◌, ◌^◌, ◌<◌, ◌≤◌, ◌==◌, Bool, false, List, [], ◌∷◌, Option, Some, None, slice_get, unwrap_or, if◌then◌else◌}
use Rattle.std.specs.Option.{option_map_or}
use Rattle.std.specs.Str.{bytes_eq}
use Rattle.std.specs.FinMap as fin
use Rattle.jfr_chunk.specs.Parts.{EventAt, Parts, events_of}
use Rattle.jfr_stacks.specs.Folded.{Counts, count_of}

-- The most events of a chunk, which has fewer than 2^30 bytes.
abbrev pub most_events : ℕ
most_events = 2 ^ 30 - 1

-- The largest count before the last of 2^34 chunks is added.
abbrev pub most_counted : ℕ
most_counted = most_events * (2 ^ 34 - 1)

-- A count after n more events; unchanged if n is 0.
abbrev pub plus : Option ℕ → ℕ → Option ℕ
plus kept n = if n == 0 then kept else Some (unwrap_or kept 0 + n)

-- There is a text, and it is this one.
abbrev pub is_text : List ℕ → Option (List ℕ) → Bool
is_text q text = option_map_or (λ t. bytes_eq t q) text false

-- If there is a text, n events are added to its count. All other counts are unchanged.
pub record AddsText (old : Counts) (text : Option (List ℕ)) (n : ℕ) (new : Counts) : Type 0 where
  pub each : (q : List ℕ) → fin.get new q ≡ (if is_text q text then plus (fin.get old q) n else fin.get old q)

-- One event is added for each text.
pub record AddsTexts (old : Counts) (ts : List (List ℕ)) (new : Counts) : Type 0 where
  pub each : (q : List ℕ) → fin.get new q ≡ plus (fin.get old q) (count_of q ts)

-- The number of events with the text q among those counted by entries, given the texts of the entries. The
-- first count is that of entry `number`.
abbrev pub pending : (ℕ → Option (List ℕ)) → List ℕ → ℕ → List ℕ → ℕ
pending text q number [] = 0
pending text q number (n ∷ ns) = (if is_text q (text number) then n else 0) + pending text q (number + 1) ns

-- The counts `now`, with the events that are still counted by entries, are `old` with one event for each text.
pub record HasPending (text : ℕ → Option (List ℕ)) (old : Counts) (ts : List (List ℕ)) (now : Counts) (number : ℕ) (ns : List ℕ) : Type 0 where
  pub each : (q : List ℕ) → plus (fin.get now q) (pending text q number ns) ≡ plus (fin.get old q) (count_of q ts)

-- No count is above `most`.
pub record AreBelow (most : ℕ) (m : Counts) : Type 0 where
  pub each : (q : List ℕ) (n : ℕ) → fin.get m q ≡ Some n → n ≤ most

-- n events can be added to each count.
pub record Fits (n : ℕ) (m : Counts) : Type 0 where
  pub each : (q : List ℕ) (kept : ℕ) → fin.get m q ≡ Some kept → kept + n < 2 ^ 64

-- No number of the list is above `most`.
pub record AreAtMost (most : ℕ) (ns : List ℕ) : Type 0 where
  pub each : (i n : ℕ) → slice_get ns i ≡ Some n → n ≤ most

-- The event with this number, if it is kept.
abbrev pub kept_at : Parts → List Bool → ℕ → Option EventAt
kept_at p flags number = if unwrap_or (slice_get flags number) false then slice_get (events_of p) number else None
