-- The fields with the times of an event, and a time window by the clock of a chunk.
use Rattle.std.specs.Prelude.{◌≡◌, ℕ, ℤ, pos, ◌+ℤ◌, ◌-ℤ◌, ◌*ℤ◌, int_lt, int_le, Bool, true, false, not, ◌&&◌, ◌||◌, List, map, slice_get, Option, IfSome, option_and_then, option_map, codes}
use Rattle.std.specs.List.{AllByRecursion}
use Rattle.std.specs.Option.{option_map_or}
use Rattle.jfr_filter.specs.Filters.{Given, has_window, is_always}
use Rattle.jfr_layout.specs.Classes.{Class, IsFieldLayout, field_number}
use Rattle.jfr_layout.specs.declared.field_layout.FieldLayout.{FieldLayout}
use Rattle.jfr_value.specs.declared.node.Step.TheVariants as steps
use Rattle.jfr_value.specs.Nodes.{NodeAt, AreValues, child, laid}
use Rattle.jfr_value.specs.Values.{Values, list_of}
use Rattle.jfr_chunk.specs.Parts.{Parts}
use Rattle.jfr_chunk.specs.Windows.{clock_of, is_in, long_of, or_zero}
use Rattle.jfr_path.specs.declared.times.Times.{Times}
use Rattle.jfr_path.specs.declared.window.Window.{Window}
use Rattle.jfr_path.specs.declared.window.Window.TheVariants.{Empty, Between}

-- The window doesn't limit the events of a class: none is given, or they are always kept.
abbrev pub is_untimed : Given → Class → Bool
is_untimed g c = not (has_window g) || is_always g c.name

-- The fields with the times of a class's events, if it has one for their start.
abbrev pub times_of : Class → Option Times
times_of c = option_map (λ start. record { start = start; duration = field_number c.fields (codes "duration") }) (field_number c.fields (codes "startTime"))

-- The value of the field with this number, if that is an inline `long`.
abbrev pub number_at : Parts → NodeAt → ℕ → Option ℤ
number_at p n i = option_and_then (long_of p) (child p.classes p.bytes n (steps.Field i))

-- How long an event lasts by the field with this number: 0 without one, or if its value is negative.
abbrev pub duration_at : Parts → NodeAt → Option ℕ → ℤ
duration_at p n number = option_map_or or_zero (option_and_then (number_at p n) number) (pos 0)

-- By the times in these fields, an event is in the window.
abbrev pub is_timely : Given → Parts → NodeAt → Times → Bool
is_timely g p n t =
    option_map_or (λ start. is_in g (clock_of p.bytes) start (duration_at p n t.duration)) (number_at p n t.start) false

-- The fields of a node are values with these layouts, one after another.
pub record HasLayouts (p : Parts) (n : NodeAt) (layouts : List FieldLayout) : Type 0 where
  pub values : Values
  pub row : AreValues p.classes p.bytes n.at n.end (map (λ s. s.shape) layouts) values
  pub each : (i : ℕ) → child p.classes p.bytes n (steps.Field i) ≡ slice_get (laid n.at (list_of values)) i
  pub layouts_are : AllByRecursion (IsFieldLayout p.classes) layouts

-- The field with this number, if the node has it, starts at this offset.
abbrev pub StartsAt : Parts → NodeAt → ℕ → ℕ → Type 0
StartsAt p n i at = IfSome (child p.classes p.bytes n (steps.Field i)) (λ field. field.at ≡ at)

-- An event is in the window that starts at a tick and lasts a number of ticks; both bounds are in billionths of
-- ticks after the chunk's start.
abbrev pub has : Window → ℤ → ℤ → Bool
has Empty t d = false
has (Between start from to) t d =
    option_map_or (λ a. int_le a (((t +ℤ d) -ℤ start) *ℤ pos 1000000000)) from true && option_map_or (λ b. int_lt ((t -ℤ start) *ℤ pos 1000000000) b) to true

-- This is the window of the filter, by the clock of the chunk.
pub record IsWindowOf (g : Given) (p : Parts) (w : Window) : Type 0 where
  pub has_same : (t d : ℤ) → has w t d ≡ is_in g (clock_of p.bytes) t d
