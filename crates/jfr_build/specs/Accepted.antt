-- The chunk of a text is accepted, and has exactly the classes, the events and the constants of the lines.
use Rattle.std.specs.Prelude.{◌≡◌, ℕ, Bool, true, false, List, [], map, filter, Ok}
use Rattle.std.specs.List.{AllZip, flat_map}
use Rattle.jfr_header.specs.Fronts.{Whole}
use Rattle.jfr_value.specs.Nodes.{NodeAt}
use Rattle.jfr_value.specs.Leaves.{leaves}
use Rattle.jfr_pool.specs.declared.entry.EntryAt.{EntryAt}
use Rattle.jfr_pool.specs.Entries.{entry_node, inline}
use Rattle.jfr_chunk.specs.Parts.{Parts, AreParts, EventAt, events_of}
use Rattle.jfr_build.specs.declared.line.BuildLine.{BuildLine}
use Rattle.jfr_build.specs.declared.line.BuildLine.TheVariants.{Class, Field, Constant, Record, Region}
use Rattle.jfr_build.specs.declared.lines.NumberedLine.{NumberedLine}
use Rattle.jfr_build.specs.Lines.{read_lines}
use Rattle.jfr_build.specs.ClassLines.{classes_in}
use Rattle.jfr_build.specs.LeafWords.{AreWordsOf}
use Rattle.jfr_build.specs.Built.{is_constant_of, with_classes}

-- The node is a value of the class, and the words are those of its leaves, one for each, in order.
pub record HasWords (p : Parts) (class : ℕ) (words : List (List ℕ)) (n : NodeAt) : Type 0 where
  pub shape : n.shape ≡ inline class
  pub leaves : AreWordsOf words (leaves p.classes p.bytes n)

-- The line is an event.
abbrev pub is_event_line : BuildLine → Bool
is_event_line (Class id name event) = false
is_event_line (Field name shape) = false
is_event_line (Constant class key words) = false
is_event_line (Record class words) = true
is_event_line (Region region) = false

-- The event of a line: its class, and its fields.
abbrev pub IsEventOf : Parts → BuildLine → EventAt → Type 0
IsEventOf p (Class id name event) e = ⊥
IsEventOf p (Field name shape) e = ⊥
IsEventOf p (Constant class key words) e = ⊥
IsEventOf p (Record class words) e = (e.record_of.type_id ≡ class) × HasWords p class words e.node
IsEventOf p (Region region) e = ⊥

-- The entry of a line that is a constant: its class, its key, and its value.
abbrev pub IsEntryOf : Parts → BuildLine → EntryAt → Type 0
IsEntryOf p (Class id name event) e = ⊥
IsEntryOf p (Field name shape) e = ⊥
IsEntryOf p (Constant class key words) e = (e.class ≡ class) × (e.key ≡ key) × HasWords p class words (entry_node e)
IsEntryOf p (Record class words) e = ⊥
IsEntryOf p (Region region) e = ⊥

-- The lines without their numbers.
abbrev pub plain_lines : List NumberedLine → List BuildLine
plain_lines ls = map (λ l. l.line) ls

-- The lines of events, in order.
abbrev pub event_lines : List NumberedLine → List BuildLine
event_lines ls = filter is_event_line (plain_lines ls)

-- The lines of constants, class by class in the order of their first lines.
abbrev pub constant_lines : List NumberedLine → List BuildLine
constant_lines ls = flat_map (λ id. filter (is_constant_of id) (plain_lines ls)) (with_classes [] ls)

-- The chunk of these lines: a whole chunk that is accepted. Its classes are those of the lines, its events are
-- the events of the lines in order, and its entries the constants of the lines, class by class.
pub record IsBuilt (ls : List NumberedLine) (chunk : List ℕ) : Type 0 where
  pub parts : Parts
  pub bytes : parts.bytes ≡ chunk
  pub whole : Whole chunk
  pub are : AreParts parts
  pub classes : parts.classes ≡ classes_in ls
  pub events : AllZip (IsEventOf parts) (event_lines ls) (events_of parts)
  pub entries : AllZip (IsEntryOf parts) (constant_lines ls) parts.entries

-- The chunk of this text.
pub record IsBuiltOf (text chunk : List ℕ) : Type 0 where
  pub lines : List NumberedLine
  pub read : read_lines text ≡ Ok lines
  pub built : IsBuilt lines chunk
