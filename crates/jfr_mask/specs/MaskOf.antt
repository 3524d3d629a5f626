-- What becomes of a chunk and of a recording when they are masked, and the dictionary that goes on from chunk to chunk.
use Rattle.std.specs.Prelude.{ℕ, Bool, List, [], ◌∷◌, Option, Some, None}
use Rattle.std.specs.List.{flat_map}
use Rattle.jfr_frame.specs.declared.framed.Framed.{Framed}
use Rattle.jfr_frame.specs.Records.{record_bytes}
use Rattle.jfr_layout.specs.Classes.{Classes}
use Rattle.jfr_value.specs.declared.leaf.Holder.{Holder}
use Rattle.jfr_value.specs.Nodes.{NodeAt}
use Rattle.jfr_pool.specs.declared.link.Link.{Link}
use Rattle.jfr_pool.specs.declared.entry.EntryAt.{EntryAt}
use Rattle.jfr_pool.specs.Entries.{entry_node}
use Rattle.jfr_chunk.specs.Metas.{Names, new_metadata}
use Rattle.jfr_chunk.specs.Parts.{Parts, EventAt}
use Rattle.jfr_chunk.specs.Reach.{kept_by}
use Rattle.jfr_chunk.specs.Scrub.{OutputRecord, Whole, Chained, Rebuilt, groups_of, output_records}
use Rattle.jfr_chunk.specs.Written.{Group}
use Rattle.jfr_rewrite.specs.Changed.{Change}
use Rattle.jfr_rewrite.specs.Paths.{Stops}
use Rattle.jfr_rewrite.specs.Rewrite.{Rewrite, event_there, fewest_or_five, rewritten}
use Rattle.jfr_mask.specs.Fields.{masks_of}
use Rattle.jfr_mask.specs.Masked.{is_held_masked, is_masked_string, masking}
use Rattle.jfr_mask.specs.Masked as masked
use Rattle.jfr_mask.specs.Pseudonyms.{shown, with_texts}
use Rattle.jfr_mask.specs.ReachBut.{remain_but}

-- How a recording is masked: the patterns of the masked fields and of those that aren't, which texts are known, and
-- the names of the event classes that the output describes even without events.
pub record Masking : Type 0 where
  pub strings : List (List ℕ)
  pub except : List (List ℕ)
  pub known : List ℕ → Bool
  pub described : Names

-- Whether strings with this holder are masked.
abbrev pub is_masked_in : Masking → Classes → Option Holder → Bool
is_masked_in m k = is_held_masked (masks_of m.strings m.except k) k

-- Follow stops at masked strings.
abbrev pub stops_in : Masking → Parts → Stops
stops_in m p = is_masked_string (is_masked_in m p.classes)

-- What becomes of values with this dictionary.
abbrev pub masks_in : Masking → List (List ℕ) → Parts → Change
masks_in m d p = masking (is_masked_in m p.classes) (shown m.known d) p

-- How a chunk is rewritten with this dictionary: its masked strings get other texts, entries keep their keys, and sizes
-- don't depend on the old ones, which tell the lengths of the texts.
abbrev pub rewrite_of : Masking → List (List ℕ) → Parts → List EventAt → Rewrite
rewrite_of m d p kept = record { change = masks_in m d p; key = λ t. t.1; width = fewest_or_five; metadata = new_metadata m.described p kept }

-- The entries that remain: those in force that the kept events reach by paths that go no further at masked strings.
abbrev pub entries_left : Masking → Parts → List EventAt → List EntryAt
entries_left m p kept = remain_but (stops_in m p) p kept

-- What an output record is made from: a kept event; the metadata record as it is written; or a chained checkpoint and
-- the pools that it has left.
pub data Origin : Type 0 where
  Event : (event : EventAt) → Origin
  Metadata : (bytes : List ℕ) → Origin
  Pools : (link : Link) (pools : List Group) → Origin

-- That of a record that isn't a chained checkpoint: its event, or the record itself.
abbrev pub whole_origin : Parts → Framed → Option EventAt → Origin
whole_origin p r (Some e) = Event e
whole_origin p r None = Metadata (record_bytes p.bytes r)

abbrev pub origin_of : Parts → List EventAt → List EntryAt → OutputRecord → Origin
origin_of p kept entries (Whole r) = whole_origin p r (event_there kept r)
origin_of p kept entries (Rebuilt r bytes) = Metadata bytes
origin_of p kept entries (Chained number l) = Pools l (groups_of entries number)

-- The texts of the masked strings in a node that is in no field.
abbrev pub node_texts : Masking → Parts → NodeAt → List (List ℕ)
node_texts m p n = masked.node_texts (is_masked_in m p.classes) m.known p n

-- Those of an output record: of the event's fields, or of the values of the entries.
abbrev pub group_texts : Masking → Parts → Group → List (List ℕ)
group_texts m p g = flat_map (λ e. node_texts m p (entry_node e)) g.entries

abbrev pub origin_texts : Masking → Parts → Origin → List (List ℕ)
origin_texts m p (Event e) = node_texts m p e.node
origin_texts m p (Metadata bytes) = []
origin_texts m p (Pools l pools) = flat_map (group_texts m p) pools

-- The output records of a masked chunk.
abbrev pub records_out : Masking → Parts → List EventAt → List OutputRecord
records_out m p kept = output_records (new_metadata m.described p kept) p kept

-- The texts of the masked strings of its output records, one after another, without those that are shown as they are.
abbrev pub chunk_texts : Masking → Parts → List EventAt → List (List ℕ)
chunk_texts m p kept = flat_map (λ o. origin_texts m p (origin_of p kept (entries_left m p kept) o)) (records_out m p kept)

-- The dictionary after a chunk, given the one before it.
abbrev pub dictionary_after : Masking → List (List ℕ) → Parts → List EventAt → List (List ℕ)
dictionary_after m d p kept = with_texts d (chunk_texts m p kept)

-- The masked chunk, if these events are kept, given the dictionary before it. All its texts have their numbers from the
-- dictionary after it.
unfoldable pub mask_of : Masking → List (List ℕ) → Parts → List EventAt → List ℕ
mask_of m d p kept = rewritten (rewrite_of m (dictionary_after m d p kept) p kept) p kept (entries_left m p kept)

-- A chunk of a recording, with a flag for each event, which says whether it is kept.
pub record Chosen : Type 0 where
  pub parts : Parts
  pub flags : List Bool

abbrev pub events_kept : Chosen → List EventAt
events_kept c = kept_by c.parts c.flags

abbrev pub next_dictionary : Masking → List (List ℕ) → Chosen → List (List ℕ)
next_dictionary m d c = dictionary_after m d c.parts (events_kept c)

-- The masked chunks of a recording. The dictionary after a chunk is the one before the next.
abbrev pub mask_all : Masking → List (List ℕ) → List Chosen → List (List ℕ)
mask_all m d [] = []
mask_all m d (c ∷ cs) = mask_of m d c.parts (events_kept c) ∷ mask_all m (next_dictionary m d c) cs

-- The dictionary after all of them.
abbrev pub last_dictionary : Masking → List (List ℕ) → List Chosen → List (List ℕ)
last_dictionary m d [] = d
last_dictionary m d (c ∷ cs) = last_dictionary m (next_dictionary m d c) cs
