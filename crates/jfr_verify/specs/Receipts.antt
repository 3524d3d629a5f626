-- Receipts: for each entry of a chunk, a line that shows how it is reached.
use Rattle.std.specs.Prelude.{◌≡◌, ℕ, zero, suc, ◌<◌, ⊤, Bool, true, false, List, [], ◌∷◌, ◌++◌, length, map, replicate, slice_get, slice_set, Option, Some, None, Contains, nat_lt, if◌then◌else◌}
use Rattle.std.specs.List.{flat_map}
use Rattle.jfr_base.specs.declared.reason.Reason.{Reason}
use Rattle.jfr_base.specs.declared.reason.Reason.TheVariants.{Short}
use Rattle.jfr_base.specs.Formats.{Format, Done, Byte, ◌>>=◌, integer, times, Exactly}
use Rattle.jfr_base.specs.Integer.{spell}
use Rattle.jfr_verify.specs.declared.line.Line.{Line}
use Rattle.jfr_verify.specs.declared.line.Parent.{Parent}
use Rattle.jfr_verify.specs.declared.line.Parent.TheVariants.{OfEvent, OfEntry}
use Rattle.jfr_value.specs.Nodes.{NodeAt, targets}
use Rattle.jfr_pool.specs.declared.entry.EntryAt.{EntryAt}
use Rattle.jfr_pool.specs.Entries.{entry_node}
use Rattle.jfr_chunk.specs.Parts.{Parts, EventAt, events_of}
use Rattle.jfr_worklist.specs.Marks.{is_marked, marked_at}
use Rattle.jfr_chunk.specs.Reach.{node_entries, next_entries, roots}

-- The parent with this kind, 0 for an event and 1 for an entry, and this number.
abbrev pub parent_of : ℕ → ℕ → Parent
parent_of zero n = OfEvent n
parent_of (suc kind) n = OfEntry n

-- A parent's kind is 0 or 1. The reason `Short` is arbitrary, since it is never reported.
abbrev pub kind_check : ℕ → Option Reason
kind_check kind = if nat_lt kind 2 then None else Some Short

-- A line: the number of the entry, a byte for the kind of the parent, and the number of the parent.
abbrev pub line_format : Format Line
line_format = integer >>= λ entry. Byte kind_check λ kind. integer >>= λ number. Done (record { entry = entry; parent = parent_of kind number })

-- A receipt: the number of lines, and the lines.
unfoldable pub receipt_format : Format (List Line)
receipt_format = integer >>= λ n. times n line_format

-- This is the node of a parent: the fields of an event, or the value of an entry with an earlier line.
abbrev pub IsParent : Parts → List ℕ → Parent → NodeAt → Type 0
IsParent p before (OfEvent i) n = (e : EventAt) × (slice_get (events_of p) i ≡ Some e) × (e.node ≡ n)
IsParent p before (OfEntry i) n = (e : EntryAt) × Contains before i × (slice_get p.entries i ≡ Some e) × (entry_node e ≡ n)

-- A line is valid after lines for these entries: its entry is in the chunk and has no earlier line, and its
-- parent refers to the class and the key of its entry.
pub record IsValidLine (p : Parts) (before : List ℕ) (l : Line) : Type 0 where
  pub fresh : Contains before l.entry → ⊥
  pub entry : EntryAt
  pub there : slice_get p.entries l.entry ≡ Some entry
  pub node : NodeAt
  pub parent : IsParent p before l.parent node
  pub refers : Contains (targets p.classes p.bytes node) (entry.class, entry.key)

-- Each line is valid after lines for these entries and the lines before it.
abbrev pub AreValidLines : Parts → List ℕ → List Line → Type 0
AreValidLines p before [] = ⊤
AreValidLines p before (l ∷ ls) = IsValidLine p before l × AreValidLines p (l.entry ∷ before) ls

-- The bytes are a receipt of the chunk, and nothing else: they spell one line for each entry, and each line is
-- valid after those before it.
pub record IsReceiptOf (receipt : List ℕ) (p : Parts) : Type 0 where
  pub lines : List Line
  pub spelled : Exactly receipt_format receipt lines
  pub count : length lines ≡ length p.entries
  pub each : (number : ℕ) → number < length p.entries → Contains (map (λ l. l.entry) lines) number
  pub valid : AreValidLines p [] lines

-- The line followed by the list, or only the list if the line's entry is marked.
abbrev pub line_if : Bool → Line → List Line → List Line
line_if true l ls = ls
line_if false l ls = l ∷ ls

-- Lines with this parent for the entries with these numbers that aren't marked, one for each.
abbrev pub new_lines : List Bool → Parent → List ℕ → List Line
new_lines marks parent [] = []
new_lines marks parent (i ∷ is) = line_if (is_marked marks i) (record { entry = i; parent = parent }) (new_lines (slice_set marks i true) parent is)

-- Lines for what these events refer to, event by event; the first event has this number.
abbrev pub event_lines : Parts → List Bool → ℕ → List EventAt → List Line
event_lines p marks number [] = []
event_lines p marks number (e ∷ es) =
    let is = node_entries p.entries p.classes p.bytes e.node in
    new_lines marks (OfEvent number) is ++ event_lines p (marked_at marks is) (suc number) es

-- These lines, followed, line by line, by lines for what the line's entry refers to. Each entry has at most one
-- line, so n rounds are enough for n entries.
abbrev pub lines_from : ℕ → Parts → List Bool → List Line → List Line
lines_from zero p marks ls = ls
lines_from (suc n) p marks [] = []
lines_from (suc n) p marks (l ∷ ls) =
    let is = next_entries p l.entry in
    l ∷ lines_from n p (marked_at marks is) (ls ++ new_lines marks (OfEntry l.entry) is)

-- No entry is marked.
abbrev pub no_marks : Parts → List Bool
no_marks p = replicate (length p.entries) false

-- The lines of a chunk's receipt: first for what its events refer to, then for what the entries of lines refer
-- to.
unfoldable pub lines_of : Parts → List Line
lines_of p = lines_from (length p.entries) p (marked_at (no_marks p) (roots p (events_of p))) (event_lines p (no_marks p) 0 (events_of p))

-- The kind of a parent, 0 for an event and 1 for an entry.
abbrev pub parent_kind : Parent → ℕ
parent_kind (OfEvent n) = 0
parent_kind (OfEntry n) = 1

-- The number of a parent.
abbrev pub parent_number : Parent → ℕ
parent_number (OfEvent n) = n
parent_number (OfEntry n) = n

-- The bytes of a line.
abbrev pub line_bytes : Line → List ℕ
line_bytes l = spell l.entry ++ parent_kind l.parent ∷ spell (parent_number l.parent)

-- The receipt that is written for a chunk. Each integer has its shortest form.
unfoldable pub receipt_of : Parts → List ℕ
receipt_of p = spell (length (lines_of p)) ++ flat_map line_bytes (lines_of p)
