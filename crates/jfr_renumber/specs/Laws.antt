-- What holds of values with new keys, and of chunks whose events and entries have new keys.
use Rattle.std.specs.Prelude.{◌≡◌, ◌≤◌, ℕ, List, length, map, slice_range, Contains, Option}
use Rattle.jfr_base.specs.Formats.{Exactly}
use Rattle.jfr_layout.specs.Classes.{Classes, Agree}
use Rattle.jfr_frame.specs.Records.{record_end}
use Rattle.jfr_value.specs.declared.leaf.Holder.{Holder}
use Rattle.jfr_value.specs.Values.{Value, shape_of, bytes_of, targets_of, Fits}
use Rattle.jfr_value.specs.Reading.{value_format}
use Rattle.jfr_value.specs.Nodes.{node_bytes}
use Rattle.jfr_value.specs.Leaves.{leaves_at}
use Rattle.jfr_chunk.specs.Parts.{Parts, EventAt}
use Rattle.jfr_chunk.specs.Reach.{Used}
use Rattle.jfr_rewrite.specs.Changed.{content}
use Rattle.jfr_rewrite.specs.Rewritten.{OneToOne}
use Rattle.jfr_renumber.specs.Rekeyed.{rekeyed, rekeyed_bytes, rekeyed_leaf, rekeyed_pair}

-- A value with new keys is read from its own bytes. It has the same shape, and the same leaves except for the
-- keys; it refers to the same classes by the new keys; and it is no longer if none of these is larger than the
-- old one.
pub record KeepsMeaning (new : ℕ × ℕ → ℕ) (k : Classes) (v : Value) : Type 0 where
  pub fits : Fits k (rekeyed new v)
  pub shape : shape_of (rekeyed new v) ≡ shape_of v
  pub read : Exactly (value_format k (shape_of v)) (bytes_of (rekeyed new v)) (rekeyed new v)
  pub leaves : (holder : Option Holder) (at new_at : ℕ) → map content (leaves_at holder new_at (rekeyed new v)) ≡ map (rekeyed_leaf new) (leaves_at holder at v)
  pub refers : targets_of (rekeyed new v) ≡ map (rekeyed_pair new) (targets_of v)
  pub short : ((t : ℕ × ℕ) → Contains (targets_of v) t → new t ≤ t.1) → length (bytes_of (rekeyed new v)) ≤ length (bytes_of v)

-- Two events of the same class, on which the class lists agree: the second has the fields of the first with
-- new keys, and the same bytes after them.
pub record RekeyedRecord (new : ℕ × ℕ → ℕ) (p q : Parts) (e f : EventAt) : Type 0 where
  pub class : e.record_of.type_id ≡ f.record_of.type_id
  pub fields : rekeyed_bytes new p.classes p.bytes e.node ≡ node_bytes q.bytes f.node
  pub rest : slice_range p.bytes e.node.end (record_end e.record_of) ≡ slice_range q.bytes f.node.end (record_end f.record_of)
  pub agree : Agree p.classes q.classes e.record_of.type_id

-- The events correspond one to one, in order, each pair as in RekeyedRecord.
abbrev pub RekeyedRecords : (ℕ × ℕ → ℕ) → Parts → Parts → List EventAt → List EventAt → Type 0
RekeyedRecords new p q = OneToOne (RekeyedRecord new p q)

-- The class lists agree on the class of each used class and key.
abbrev pub AgreeOnUsed : Parts → Parts → List EventAt → Type 0
AgreeOnUsed p q kept = (t : ℕ × ℕ) → Used p kept t → Agree p.classes q.classes t.0
