-- The chunk of a text: a header, the metadata record, the events, and one checkpoint with the constants.
use Rattle.std.specs.Prelude.{◌≡◌, ℕ, ◌+◌, ◌^◌, ◌≤◌, ◌==◌, Bool, true, false, List, [], ◌∷◌, ◌++◌, length, Option, Some, None, if◌then◌else◌}
use Rattle.std.specs.List.{count_by, flat_map, list_any}
use Rattle.std.specs.Option.{option_map_or}
use Rattle.jfr_base.specs.Integer.{spell}
use Rattle.jfr_header.specs.Headers.{header_bytes}
use Rattle.jfr_header.specs.Made.{made_header}
use Rattle.jfr_frame.specs.Written.{record_in}
use Rattle.jfr_layout.specs.Classes.{Classes}
use Rattle.jfr_value.specs.Values.{bytes_of}
use Rattle.jfr_build.specs.declared.line.BuildLine.{BuildLine}
use Rattle.jfr_build.specs.declared.line.BuildLine.TheVariants.{Class, Field, Constant, Record, Region}
use Rattle.jfr_build.specs.declared.lines.NumberedLine.{NumberedLine}
use Rattle.jfr_build.specs.LineValues.{line_value}

-- The record of an event, whose size is spelled in five bytes: its type, then its value.
abbrev pub event_record : ℕ → List ℕ → List ℕ
event_record class value = record_in 5 (spell class ++ value)

-- The bytes were appended, or there are 2 ^ 30 or more of them.
abbrev pub AppendsIf : Bool → List ℕ → List ℕ → List ℕ → Type 0
AppendsIf true bytes before after = after ≡ before ++ bytes
AppendsIf false bytes before after = 2 ^ 30 ≤ length bytes

-- The record of a line that is an event.
abbrev pub line_event : Classes → BuildLine → List ℕ
line_event k (Class id name event) = []
line_event k (Field name shape) = []
line_event k (Constant class key words) = []
line_event k (Record class words) = option_map_or (λ v. event_record class (bytes_of v)) (line_value k (Record class words)) []
line_event k (Region region) = []

-- The records of all events, in line order.
abbrev pub events_of : Classes → List NumberedLine → List ℕ
events_of k lines = flat_map (λ l. line_event k l.line) lines

-- The class of a line that is a constant.
abbrev pub constant_class : BuildLine → Option ℕ
constant_class (Class id name event) = None
constant_class (Field name shape) = None
constant_class (Constant class key words) = Some class
constant_class (Record class words) = None
constant_class (Region region) = None

-- The line is a constant of this class.
abbrev pub is_constant_of : ℕ → BuildLine → Bool
is_constant_of id line = option_map_or (λ class. class == id) (constant_class line) false

-- The entry of a line that is a constant: its key, then its value.
abbrev pub line_entry : Classes → BuildLine → List ℕ
line_entry k (Class id name event) = []
line_entry k (Field name shape) = []
line_entry k (Constant class key words) = option_map_or (λ v. spell key ++ bytes_of v) (line_value k (Constant class key words)) []
line_entry k (Record class words) = []
line_entry k (Region region) = []

-- The classes with one more, unless it is there.
abbrev pub with_class : List ℕ → ℕ → List ℕ
with_class classes id = if list_any (λ c. c == id) classes then classes else classes ++ id ∷ []

-- The classes with those of more lines.
abbrev pub with_classes : List ℕ → List NumberedLine → List ℕ
with_classes classes [] = classes
with_classes classes (l ∷ ls) = with_classes (option_map_or (with_class classes) (constant_class l.line) classes) ls

-- The number of constants of a class.
abbrev pub entry_count : List NumberedLine → ℕ → ℕ
entry_count lines id = count_by (λ l. is_constant_of id l.line) lines

-- The entries of a class, in line order.
abbrev pub entries_of : Classes → List NumberedLine → ℕ → List ℕ
entries_of k lines id = flat_map (λ l. if is_constant_of id l.line then line_entry k l.line else []) lines

-- The pool of a class: its id, the number of its entries, the entries.
abbrev pub pool_of : Classes → List NumberedLine → ℕ → List ℕ
pool_of k lines id = spell id ++ (spell (entry_count lines id) ++ entries_of k lines id)

-- The number of pools, and a pool for each class that has constants, in the order of their first lines.
abbrev pub pools_of : Classes → List NumberedLine → List ℕ
pools_of k lines = let classes = with_classes [] lines in spell (length classes) ++ flat_map (pool_of k lines) classes

-- The checkpoint with these pools, whose size is spelled in five bytes: type 1; start, duration, delta and type
-- byte 0; the pools.
abbrev pub checkpoint_with : List ℕ → List ℕ
checkpoint_with pools = record_in 5 (1 ∷ 0 ∷ 0 ∷ 0 ∷ 0 ∷ pools)

-- The checkpoint with the pools of these lines.
abbrev pub checkpoint_of : Classes → List NumberedLine → List ℕ
checkpoint_of k lines = checkpoint_with (pools_of k lines)

-- The chunk of these parts: the metadata record, the events, the checkpoint.
abbrev pub chunk_with : List ℕ → List ℕ → List ℕ → List ℕ
chunk_with metadata events checkpoint =
    let pools = 68 + length metadata + length events in header_bytes (made_header (pools + length checkpoint) pools) ++ (metadata ++ (events ++ checkpoint))
