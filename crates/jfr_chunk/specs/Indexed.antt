-- The index that a chunk keeps beside its bytes, and the events that its calls return.
use Rattle.std.specs.Prelude.{◌≡◌, ℕ, ◌+◌, ◌==◌, Bool, false, List, [], ◌∷◌, ◌++◌, Option, None, Some, length, map, take, reverse, slice_get, option_map, unwrap_or}
use Rattle.std.specs.List.{AllByRecursion, filter_map, list_any}
use Rattle.std.specs.Option.{option_map_or}
use Rattle.std.specs.BTreeMap as tree
use Rattle.std.specs.BTreeMap.{BTreeMap}
use Rattle.std.specs.Ordering.{nat_cmp}
use Rattle.jfr_header.specs.declared.header.Header.{Header}
use Rattle.jfr_header.specs.Headers.{header_of}
use Rattle.jfr_header.specs.Fronts.{Whole}
use Rattle.jfr_frame.specs.declared.framed.Framed.{Framed}
use Rattle.jfr_frame.specs.Records.{record_end}
use Rattle.jfr_layout.specs.Classes.{Classes}
use Rattle.jfr_meta.specs.Body.{Body}
use Rattle.jfr_meta.specs.Stays.{is_in}
use Rattle.jfr_value.specs.declared.leaf.KeyAt.{KeyAt}
use Rattle.jfr_value.specs.Leaves.{keys_in}
use Rattle.jfr_value.specs.Nodes.{node_at, node_of}
use Rattle.jfr_pool.specs.declared.link.Link.{Link}
use Rattle.jfr_pool.specs.declared.entry.EntryAt.{EntryAt}
use Rattle.jfr_pool.specs.Entries.{inline}
use Rattle.jfr_chunk.specs.declared.event_index.EventIndexEntry.{EventIndexEntry}
use Rattle.jfr_chunk.specs.declared.event_index.EventIndex.{EventIndex}
use Rattle.jfr_chunk.specs.declared.event.Event.{Event}
use Rattle.jfr_chunk.specs.declared.key_places.KeyPlace.{KeyPlace}
use Rattle.jfr_chunk.specs.declared.key_places.KeyPlaces.{KeyPlaces}
use Rattle.jfr_chunk.specs.KeyPlaces.{IsShortZero, number_of_key, place_of_key}
use Rattle.jfr_chunk.specs.Parts.{Parts, EventAt, StartsAt, AreParts, events_of, metadata_at}
use Rattle.jfr_chunk.specs.Reach.{node_entries}
use Rattle.jfr_chunk.specs.Missing.{AreNotedIn, node_missing}

-- Where the fields of the event with this record end: at the early end for the record's number, if there is
-- one, else where the record ends.
abbrev pub end_in : BTreeMap ℕ ℕ → ℕ → Framed → ℕ
end_in early number r = unwrap_or (tree.get nat_cmp early number) (record_end r)

-- The event with this record, whose fields end at `end`.
abbrev pub event_with : ℕ → Framed → EventAt
event_with end r = record { record_of = r; node = node_at (inline r.type_id) r.body end }

-- The event of an index entry.
abbrev pub indexed_event : List Framed → BTreeMap ℕ ℕ → EventIndexEntry → Option EventAt
indexed_event rs early f = option_map (λ r. event_with (end_in early f.record r) r) (slice_get rs f.record)

-- The numbers of the entries in force to which the event of an index entry refers.
abbrev pub indexed_refs : List EntryAt → Classes → List ℕ → List Framed → BTreeMap ℕ ℕ → EventIndexEntry → List ℕ
indexed_refs es k c rs early f = option_map_or (λ e. node_entries es k c e.node) (indexed_event rs early f) []

-- The classes and keys without an entry in force to which the event of an index entry refers.
abbrev pub indexed_missing : List EntryAt → Classes → List ℕ → List Framed → BTreeMap ℕ ℕ → EventIndexEntry → List (ℕ × ℕ)
indexed_missing es k c rs early f = option_map_or (λ e. node_missing es k c e.node) (indexed_event rs early f) []

-- The keys in the event of an index entry.
abbrev pub indexed_keys : Classes → List ℕ → List Framed → BTreeMap ℕ ℕ → EventIndexEntry → List KeyAt
indexed_keys k c rs early f = option_map_or (λ e. keys_in k c e.node) (indexed_event rs early f) []

-- The places of those with an entry in force.
abbrev pub indexed_places : List EntryAt → Classes → List ℕ → List Framed → BTreeMap ℕ ℕ → EventIndexEntry → List KeyPlace
indexed_places es k c rs early f = option_map_or (λ e. filter_map (place_of_key es) (keys_in k c e.node)) (indexed_event rs early f) []

-- The list holds what is listed for all events, such as their entry numbers, event after event. Each event's `refs_end`
-- is where its range in the list ends, and the first range starts at `from`.
abbrev pub AreRefs : {X : Type 0} → (EventIndexEntry → List X) → ℕ → List EventIndexEntry → List X → Type 0
AreRefs listed from [] all = all ≡ []
AreRefs {X = X} listed from (f ∷ fs) all = (rest : List X) × (all ≡ listed f ++ rest) × (f.refs_end ≡ from + length (listed f)) × AreRefs listed f.refs_end fs rest

-- Unless some are missing, these are the places of the events' keys with an entry in force, and all their other keys are
-- 0, in one byte each.
pub record AreKeysIn (es : List EntryAt) (k : Classes) (c : List ℕ) (rs : List Framed) (early : BTreeMap ℕ ℕ) (fields : List EventIndexEntry) (keys : KeyPlaces) : Type 0 where
  pub places : keys.lacks ≡ false → AreRefs (indexed_places es k c rs early) 0 fields keys.places.items
  pub others : keys.lacks ≡ false → AllByRecursion (λ f. AllByRecursion (λ key. number_of_key es key ≡ None → IsShortZero key) (indexed_keys k c rs early f)) fields

-- The event of one of these index entries is of the class with this id.
abbrev pub used_in : List Framed → List EventIndexEntry → ℕ → Bool
used_in rs fields id = list_any (λ f. option_map_or (λ r. r.type_id == id) (slice_get rs f.record) false) fields

-- The parts are those of a whole chunk, and the header, the metadata record, the events, the entries to
-- which they refer, the places of their keys, what they refer to without an entry, and their classes are those of the
-- parts.
pub record IsIndexed (p : Parts) (header : Header) (metadata : Framed) (index : EventIndex) : Type 0 where
  pub whole : Whole p.bytes
  pub parts : AreParts p
  pub header_is : header ≡ header_of (take 68 p.bytes)
  pub metadata_there : StartsAt p.records (metadata_at p.bytes) 0 metadata
  pub events : map (indexed_event p.records index.early) index.fields.items ≡ map Some (events_of p)
  pub refs_end : AreRefs (indexed_refs p.entries p.classes p.bytes p.records index.early) 0 index.fields.items index.numbers.items
  pub keys : AreKeysIn p.entries p.classes p.bytes p.records index.early index.fields.items index.keys
  pub missing : AreNotedIn (map (indexed_missing p.entries p.classes p.bytes p.records index.early) index.fields.items) index.missing
  pub used : (id : ℕ) → is_in index.used.ids id ≡ used_in p.records index.fields.items id

-- The parts, with the chained checkpoints in the order of the file.
abbrev pub parts_in : List ℕ → List Framed → List Link → Body → Classes → List EntryAt → Parts
parts_in bytes records chain body classes entries = record { bytes = bytes; records = records; chain = reverse chain; body = body; classes = classes; entries = entries }

-- The code's `Event`, as an event of the chunk.
abbrev pub event_at : Event → EventAt
event_at e = record { record_of = e.frame; node = node_of e.node }

-- The event has this number, and its node's bytes are the chunk's.
pub record IsOfChunk (p : Parts) (number : ℕ) (e : Event) : Type 0 where
  pub number_is : e.number ≡ number
  pub bytes : e.node.bytes.now ≡ p.bytes
