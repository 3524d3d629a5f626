-- What holds of a rewritten chunk, and what has to hold of the way in which it is rewritten.
use Rattle.std.specs.Prelude.{◌≡◌, ℕ, ◌+◌, ◌≤◌, true, List, [], ◌∷◌, length, Option, Some, Contains, slice_range, unwrap_or, ⊤}
use Rattle.std.specs.List.{AllByRecursion}
use Rattle.jfr_base.specs.Integer.{Spells, spell_in}
use Rattle.jfr_layout.specs.Classes.{Agree, Classes, Sound, is_event_class}
use Rattle.jfr_header.specs.Fronts.{Whole}
use Rattle.jfr_frame.specs.declared.framed.Framed.{Framed}
use Rattle.jfr_frame.specs.Records.{IsRecord, record_bytes, record_end}
use Rattle.jfr_meta.specs.Body.{Body}
use Rattle.jfr_meta.specs.Described.{IsMetadata}
use Rattle.jfr_value.specs.Nodes.{node_bytes}
use Rattle.jfr_pool.specs.declared.entry.EntryAt.{EntryAt}
use Rattle.jfr_pool.specs.Entries.{entry_node}
use Rattle.jfr_chunk.specs.Parts.{Parts, EventAt, AreParts, events_of}
use Rattle.jfr_chunk.specs.Scrub.{Written, OutputRecord, Chained, Rebuilt}
use Rattle.jfr_chunk.specs.Scrub as scrub
use Rattle.jfr_rewrite.specs.Changed.{Change}
use Rattle.jfr_rewrite.specs.Rewrite.{Rewrite, pair_of, changed_bytes, event_tail, event_there, chained_tail, rewritten, rewritten_records}

-- The members of two lists correspond one to one, in order.
abbrev pub OneToOne : {A B : Type 0} → (A → B → Type 0) → List A → List B → Type 0
OneToOne R [] [] = ⊤
OneToOne R (a ∷ xs) (b ∷ ys) = R a b × OneToOne R xs ys
OneToOne R [] (b ∷ ys) = ⊥
OneToOne R (a ∷ xs) [] = ⊥

-- The size of a record with n bytes after its size can be spelled in this number of bytes.
abbrev pub Carries : ℕ → ℕ → Type 0
Carries width n = Spells (spell_in width (width + n)) (width + n)

-- The width that a record's size gets carries it.
abbrev pub CarriesTail : Rewrite → Framed → List ℕ → Type 0
CarriesTail w r tail = Carries (w.width r (length tail)) (length tail)

-- So for an output record at this offset: an event, or a chained checkpoint.
abbrev pub CarriesRecord : Rewrite → Parts → List EventAt → List EntryAt → OutputRecord → ℕ → Option ℕ → Type 0
CarriesRecord w p kept entries (scrub.Whole r) at newest = (e : EventAt) → event_there kept r ≡ Some e → CarriesTail w e.record_of (event_tail w p e)
CarriesRecord w p kept entries (Rebuilt r x) at newest = ⊤
CarriesRecord w p kept entries (Chained number l) at newest = CarriesTail w l.frame (chained_tail w p entries number l at newest)

-- So for each record of the output.
abbrev pub CarriesAll : Rewrite → Parts → List EventAt → List EntryAt → Type 0
CarriesAll w p kept entries = AllByRecursion (λ (o : Written). CarriesRecord w p kept entries o.output_record o.at o.newest) (rewritten_records w p kept entries)

-- The record at an offset with the given size, if its type and its body are this many bytes after its start.
abbrev pub frame_from : ℕ → ℕ → ℕ → ℕ → ℕ → Framed
frame_from type_id type_after body_after at size = record { at = at; size = size; type_at = at + type_after; type_id = type_id; body = at + body_after }

-- Wherever these bytes are, they are a metadata record that describes these classes.
pub record Describes (x : List ℕ) (m : Classes) : Type 0 where
  pub type_after : ℕ
  pub body_after : ℕ
  pub is_record : (b : List ℕ) (at : ℕ) → at + length x ≤ length b → slice_range b at (at + length x) ≡ x → IsRecord b (frame_from 0 type_after body_after at (length x))
  pub is_metadata : (b : List ℕ) (at : ℕ) → at + length x ≤ length b → slice_range b at (at + length x) ≡ x → (body : Body) × IsMetadata b (frame_from 0 type_after body_after at (length x)) body m

-- The bytes of the metadata record of an output: the new record, if there is one, or this one of the chunk.
abbrev pub metadata_bytes : Option (List ℕ) → Parts → Framed → List ℕ
metadata_bytes new p r = unwrap_or new (record_bytes p.bytes r)

-- These classes suit what remains of a chunk. They are sound, and each of their event classes is one of the chunk's,
-- on which both agree. The kept events are of such classes, and both agree on the classes of the remaining entries.
pub record Suits (p : Parts) (kept : List EventAt) (entries : List EntryAt) (m : Classes) : Type 0 where
  pub sound : Sound m
  pub agree : (id : ℕ) → is_event_class m id ≡ true → Agree p.classes m id
  pub before : (id : ℕ) → is_event_class m id ≡ true → is_event_class p.classes id ≡ true
  pub event : (e : EventAt) → Contains kept e → is_event_class m e.record_of.type_id ≡ true
  pub entry : AllByRecursion (λ e. Agree p.classes m e.class) entries

-- Two entries of the same class, on which the class lists agree. The second has the changed value.
pub record HasChangedValue (ch : Change) (p q : Parts) (e f : EntryAt) : Type 0 where
  pub class : e.class ≡ f.class
  pub agree : Agree p.classes q.classes e.class
  pub value : changed_bytes ch p.classes p.bytes (entry_node e) ≡ node_bytes q.bytes (entry_node f)

-- An entry, and the rewritten one: it has the new key and the changed value, and is in the same checkpoint.
pub record IsChangedEntry (w : Rewrite) (p q : Parts) (e f : EntryAt) : Type 0 where
  pub key : w.key (pair_of e) ≡ f.key
  pub checkpoint : e.checkpoint ≡ f.checkpoint
  pub value : HasChangedValue w.change p q e f

-- Two events of the same class, on which the class lists agree. The second has the changed fields, and the same
-- bytes after them.
pub record IsChangedEvent (ch : Change) (p q : Parts) (e f : EventAt) : Type 0 where
  pub class : e.record_of.type_id ≡ f.record_of.type_id
  pub agree : Agree p.classes q.classes e.record_of.type_id
  pub fields : changed_bytes ch p.classes p.bytes e.node ≡ node_bytes q.bytes f.node
  pub rest : slice_range p.bytes e.node.end (record_end e.record_of) ≡ slice_range q.bytes f.node.end (record_end f.record_of)

-- The rewritten chunk is whole and accepted. It has these classes, and the kept events and the remaining entries,
-- each changed.
pub record IsRewritten (w : Rewrite) (p : Parts) (kept : List EventAt) (entries : List EntryAt) (m : Classes) : Type 0 where
  pub parts : Parts
  pub bytes : parts.bytes ≡ rewritten w p kept entries
  pub whole : Whole (rewritten w p kept entries)
  pub valid : AreParts parts
  pub classes : parts.classes ≡ m
  pub entries_are : OneToOne (IsChangedEntry w p parts) entries parts.entries
  pub events_are : OneToOne (IsChangedEvent w.change p parts) kept (events_of parts)
