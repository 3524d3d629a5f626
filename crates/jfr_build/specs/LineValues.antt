-- The values of constants and events, and the first line with a bad value.
use Rattle.std.specs.Prelude.{◌≡◌, ⊤, ℕ, Bool, not, ◌&&◌, ◌||◌, ◌==◌, List, length, find, Option, Some, None, is_some, option_map, if◌then◌else◌}
use Rattle.jfr_layout.specs.Classes.{Classes, is_event_class}
use Rattle.jfr_value.specs.Values.{Value}
use Rattle.jfr_pool.specs.Entries.{inline}
use Rattle.jfr_build.specs.declared.line.BuildLine.{BuildLine}
use Rattle.jfr_build.specs.declared.line.BuildLine.TheVariants.{Class, Field, Constant, Record, Region}
use Rattle.jfr_build.specs.declared.lines.NumberedLine.{NumberedLine}
use Rattle.jfr_build.specs.declared.reason.BuildFault.{BuildFault}
use Rattle.jfr_build.specs.declared.reason.BuildFault.TheVariants.{Refused, Memory}
use Rattle.jfr_build.specs.declared.reason.BuildReason.TheVariants.{ValueBad}
use Rattle.jfr_build.specs.Lines.{has_value}
use Rattle.jfr_build.specs.Regions.{is_wide_region}
use Rattle.jfr_build.specs.Taking.{Taken, value_taken}

-- The value that was taken, if all words were taken.
abbrev pub all_taken : Option (Taken Value) → Option Value
all_taken None = None
all_taken (Some t) = if length t.rest == 0 then Some t.value else None

-- The value of a class that the words spell, all of them.
abbrev pub spelled_value : Classes → ℕ → List (List ℕ) → Option Value
spelled_value k class words = all_taken (value_taken k (inline class) words)

-- The value of a line that is a constant or an event. The class of an event must be an event class.
abbrev pub line_value : Classes → BuildLine → Option Value
line_value k (Class id name event) = None
line_value k (Field name shape) = None
line_value k (Constant class key words) = spelled_value k class words
line_value k (Record class words) = if is_event_class k class then spelled_value k class words else None
line_value k (Region region) = None

-- The line should have a value, and has none; or it is a region whose offset doesn't fit in 32 bits.
abbrev pub is_bad_value : Classes → BuildLine → Bool
is_bad_value k line = is_wide_region line || (has_value line && not (is_some (line_value k line)))

-- The first line with a bad value.
abbrev pub first_bad_value : Classes → List NumberedLine → Option NumberedLine
first_bad_value k lines = find (λ l. is_bad_value k l.line) lines

-- The fault is that this line is the first with a bad value, or memory ran out.
abbrev pub IsBadValue : Option NumberedLine → BuildFault → Type 0
IsBadValue bad (Refused line reason) = (option_map (λ l. l.number) bad ≡ Some line) × (reason ≡ ValueBad)
IsBadValue bad Memory = ⊤
