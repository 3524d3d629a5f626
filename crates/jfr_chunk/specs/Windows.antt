-- When an event starts and how long it lasts, and which events a time window allows.
use Rattle.std.specs.Prelude.{ℕ, ◌^◌, ◌%◌, ℤ, pos, ◌+ℤ◌, ◌-ℤ◌, ◌*ℤ◌, int_lt, int_le, Bool, true, false, not, ◌&&◌, ◌||◌, List, take, Option, Some, None, option_and_then, if◌then◌else◌, codes}
use Rattle.std.specs.Int.{cast_signed, w64}
use Rattle.std.specs.Option.{option_map_or}
use Rattle.jfr_base.specs.Integer.{worth_within}
use Rattle.jfr_header.specs.Headers.{header_of}
use Rattle.jfr_layout.specs.Classes.{find_class, kind_of}
use Rattle.jfr_layout.specs.declared.kind.Kind.{Kind}
use Rattle.jfr_layout.specs.declared.kind.Kind.TheVariants as kinds
use Rattle.jfr_filter.specs.Filters.{Given, has_window, is_always}
use Rattle.jfr_value.specs.Nodes.{NodeAt, node_bytes}
use Rattle.jfr_chunk.specs.Parts.{Parts, EventAt}
use Rattle.jfr_chunk.specs.Paths.{named_field}

-- A number of 64 bits, as a signed one.
abbrev pub signed : ℕ → ℤ
signed n = cast_signed w64 (n % 2 ^ 64)

-- The clock of a chunk: its start in nanoseconds since 1970 and in ticks, and the ticks per second.
pub record Clock : Type 0 where
  pub nanos : ℤ
  pub ticks : ℤ
  pub rate : ℤ

-- The clock in the header of a chunk.
abbrev pub clock_of : List ℕ → Clock
clock_of c = let h = header_of (take 68 c) in record { nanos = signed h.start_nanos; ticks = signed h.start_ticks; rate = signed h.ticks_per_second }

-- The number that these bytes spell, if the kind is that of `long`.
abbrev pub long_by : Kind → List ℕ → Option ℤ
long_by kinds.Long bytes = Some (signed (worth_within 8 bytes))
long_by kind bytes = None

-- The number of a node, if it is an inline `long`.
abbrev pub long_of : Parts → NodeAt → Option ℤ
long_of p n =
    if n.shape.array then None else if n.shape.constant then None
    else option_and_then (λ c. long_by (kind_of c.name) (node_bytes p.bytes n)) (find_class p.classes n.shape.class)

-- The number in the field of an event with this name, if that is an inline `long`.
abbrev pub number_of : Parts → List ℕ → EventAt → Option ℤ
number_of p name e = option_and_then (long_of p) (named_field p name e.node)

-- When an event starts, in ticks.
abbrev pub start_of : Parts → EventAt → Option ℤ
start_of p e = number_of p (codes "startTime") e

-- A number, or 0 if it is negative.
abbrev pub or_zero : ℤ → ℤ
or_zero d = if int_lt d (pos 0) then pos 0 else d

-- How long an event lasts, in ticks: 0 without a field for it, or if that is negative.
abbrev pub duration_of : Parts → EventAt → ℤ
duration_of p e = option_map_or or_zero (number_of p (codes "duration") e) (pos 0)

-- A moment in ticks is at this nanosecond or later: (a - nanos) * rate is at most (t - ticks) * 10 ^ 9.
abbrev pub is_from : Clock → ℤ → ℤ → Bool
is_from k t a = int_le ((a -ℤ k.nanos) *ℤ k.rate) ((t -ℤ k.ticks) *ℤ pos 1000000000)

-- A moment in ticks is before this nanosecond.
abbrev pub is_before : Clock → ℤ → ℤ → Bool
is_before k t b = int_lt ((t -ℤ k.ticks) *ℤ pos 1000000000) ((b -ℤ k.nanos) *ℤ k.rate)

-- An event with this start and duration in ticks has a moment in the window: it ends at the window's start or
-- later, and starts before the window's end. No event has if the ticks per second aren't positive.
unfoldable pub is_in : Given → Clock → ℤ → ℤ → Bool
is_in g k t d = int_lt (pos 0) k.rate && (option_map_or (is_from k (t +ℤ d)) g.from true && option_map_or (is_before k t) g.to true)

-- The window allows an event: none is given, or the class's events are always kept, or a moment of the event is
-- in the window.
abbrev pub allows_time : Given → Parts → EventAt → Bool
allows_time g p e =
    not (has_window g)
    || (option_map_or (λ c. is_always g c.name) (find_class p.classes e.record_of.type_id) false
    || option_map_or (λ t. is_in g (clock_of p.bytes) t (duration_of p e)) (start_of p e) false)
