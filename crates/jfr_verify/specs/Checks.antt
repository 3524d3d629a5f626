-- What is checked of an input chunk, an output chunk and a receipt.
use Rattle.std.specs.Prelude.{◌≡◌, ℕ, Bool, ◌==◌, ◌&&◌, nat_lt, List, map, length, slice_get, Option, Some, None, option_and_then, All, Contains, if◌then◌else◌}
use Rattle.std.specs.Str.{bytes_eq}
use Rattle.std.specs.declared.vec.Vec.{Vec}
use Rattle.std.specs.declared.alloc.Global.{Global}
use Rattle.jfr_value.specs.Nodes.{node_bytes}
use Rattle.jfr_pool.specs.declared.entry.EntryAt.{EntryAt}
use Rattle.jfr_frame.specs.Records.{record_bytes}
use Rattle.jfr_layout.specs.Classes.{Classes}
use Rattle.jfr_pool.specs.Entries.{IsInForce, number_in_force, entry_node}
use Rattle.jfr_chunk.specs.Parts.{Parts, EventAt}
use Rattle.jfr_worklist.specs.Marks.{IsMarked}
use Rattle.jfr_chunk.specs.Reach.{marked, roots, next_entries}
use Rattle.jfr_laws.specs.Laws.{AreCopied}

-- Each class of the output is a class of the input.
abbrev pub HasClasses : Classes → Classes → Type 0
HasClasses k m = All (Contains k) m

-- The class and the record bytes of an event.
abbrev pub content : Parts → EventAt → ℕ × List ℕ
content p e = (e.record_of.type_id, record_bytes p.bytes e.record_of)

-- The class and the record bytes of each of these events, in order.
abbrev pub contents : Parts → List EventAt → List (ℕ × List ℕ)
contents p es = map (content p) es

-- The entries of the output are copies of the marked entries of the input, in order, and these are in force.
pub record AreAmong (p q : Parts) (marks : List Bool) : Type 0 where
  pub in_force : (number : ℕ) → IsMarked marks number → IsInForce p.entries number
  pub copied : AreCopied p q (marked marks p.entries) q.entries

-- All entries in force to which a kept event or a marked entry refers are marked.
pub record AreClosed (p : Parts) (kept : List EventAt) (marks : List Bool) : Type 0 where
  pub events : All (IsMarked marks) (roots p kept)
  pub entries : (number : ℕ) → IsMarked marks number → All (IsMarked marks) (next_entries p number)

-- Whether two entries have the same checkpoint and equal bytes of the value.
abbrev pub is_copy : Parts → Parts → EntryAt → EntryAt → Bool
is_copy p q e f = (e.checkpoint == f.checkpoint) && bytes_eq (node_bytes p.bytes (entry_node e)) (node_bytes q.bytes (entry_node f))

-- The number n, if it isn't below `from` and entry n of the input has the checkpoint and the value of f.
abbrev pub copy_if : Parts → Parts → ℕ → EntryAt → ℕ → Option ℕ
copy_if p q from f n = if nat_lt n from then None else option_and_then (λ e. if is_copy p q e f then Some n else None) (slice_get p.entries n)

-- The number, not below `from`, of the input's entry in force of which this entry of the output is a copy.
abbrev pub next_copy : Parts → Parts → ℕ → ℕ → Option ℕ
next_copy p q number from = option_and_then (λ f. option_and_then (copy_if p q from f) (number_in_force p.entries (f.class, f.key))) (slice_get q.entries number)

-- These are marks on the input's entries that the output copies, or there are no such marks.
abbrev pub MarksOfCopies : Parts → Parts → Option (Vec Bool Global) → Type 0
MarksOfCopies p q (Some marks) = AreAmong p q marks.items × (length marks.items ≡ length p.entries)
MarksOfCopies p q None = (marks : List Bool) → AreAmong p q marks → ⊥
