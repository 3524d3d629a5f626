-- The indices of the event classes, so that an event's class is found in one step.
use Rattle.std.specs.Prelude.{◌≡◌, ℕ, ◌<◌, List, length, Option, Some, None, if◌then◌else◌, slice_get}
use Rattle.jfr_layout.specs.Classes.{Classes, class_index, is_event_class}

-- The index of the class with this id, if records of this type are events.
abbrev pub event_index : Classes → ℕ → Option ℕ
event_index k id = if is_event_class k id then class_index k id else None

-- For each id below its length, the table has the index of the event class with this id, or none if records
-- of this type aren't events.
pub record AreEventIndices (k : Classes) (indices : List (Option ℕ)) : Type 0 where
  pub at : (id : ℕ) → id < length indices → slice_get indices id ≡ Some (event_index k id)
