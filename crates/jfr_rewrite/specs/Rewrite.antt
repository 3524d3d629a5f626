-- What becomes of a chunk when its values are changed: the header, followed, in the order of the file, by the
-- kept events, the metadata record, and what remains of each chained checkpoint.
use Rattle.std.specs.Prelude.{ℕ, ◌+◌, ◌-◌, ◌==◌, List, [], ◌∷◌, ◌++◌, length, find, Option, Some, None, slice_range, nat_lt, if◌then◌else◌}
use Rattle.std.specs.List.{flat_map}
use Rattle.std.specs.Option.{option_map_or}
use Rattle.jfr_base.specs.Integer.{spell}
use Rattle.jfr_layout.specs.Classes.{Classes}
use Rattle.jfr_frame.specs.declared.framed.Framed.{Framed}
use Rattle.jfr_frame.specs.Records.{record_bytes, record_end}
use Rattle.jfr_value.specs.Values.{bytes_of}
use Rattle.jfr_value.specs.Nodes.{NodeAt, value_of}
use Rattle.jfr_pool.specs.declared.link.Link.{Link}
use Rattle.jfr_pool.specs.declared.entry.EntryAt.{EntryAt}
use Rattle.jfr_pool.specs.Entries.{entry_node}
use Rattle.jfr_chunk.specs.Parts.{Parts, EventAt, metadata_at}
use Rattle.jfr_chunk.specs.Written.{Group, distance, sized}
use Rattle.jfr_chunk.specs.Scrub.{OutputRecord, Whole, Chained, Rebuilt, Written, groups_of, header_with, newest_at, moved, newest_after, output_records}
use Rattle.jfr_rewrite.specs.Changed.{Change, changed}

-- How a chunk is rewritten: the change of its values; the key of an entry, given its class and the key that it had;
-- the number of bytes in which the size of a record is spelled, given the record as it was and the number of
-- bytes after the size; and the new metadata record, if there is one.
pub record Rewrite : Type 0 where
  pub change : Change
  pub key : ℕ × ℕ → ℕ
  pub width : Framed → ℕ → ℕ
  pub metadata : Option (List ℕ)

-- Sizes as wide as they were.
abbrev pub old_width : Framed → ℕ → ℕ
old_width r n = r.type_at - r.at

-- The fewest bytes that carry the size of a record with n bytes after its size, below 2^30.
abbrev pub fewest : ℕ → ℕ
fewest n = if nat_lt n 127 then 1 else if nat_lt n 16382 then 2 else if nat_lt n 2097149 then 3 else if nat_lt n 268435452 then 4 else 5

-- The fewest bytes, or five for a checkpoint.
abbrev pub fewest_or_five : Framed → ℕ → ℕ
fewest_or_five r n = if r.type_id == 1 then 5 else fewest n

-- A record: its size, followed by the rest.
abbrev pub resized : Rewrite → Framed → List ℕ → List ℕ
resized w r tail = sized (w.width r (length tail)) tail

-- The class and the key of an entry.
abbrev pub pair_of : EntryAt → ℕ × ℕ
pair_of e = (e.class, e.key)

-- The bytes of a changed node that is in no field, as an event's and an entry's are.
abbrev pub changed_bytes : Change → Classes → List ℕ → NodeAt → List ℕ
changed_bytes ch k c n = option_map_or (λ v. bytes_of (changed ch None v)) (value_of k c n) []

-- What follows the size of a kept event: its type unchanged, its changed fields, and the bytes after them
-- unchanged.
abbrev pub event_tail : Rewrite → Parts → EventAt → List ℕ
event_tail w p e =
    slice_range p.bytes e.record_of.type_at e.record_of.body ++ (changed_bytes w.change p.classes p.bytes e.node ++ slice_range p.bytes e.node.end (record_end e.record_of))

-- A kept event.
abbrev pub event_bytes : Rewrite → Parts → EventAt → List ℕ
event_bytes w p e = resized w e.record_of (event_tail w p e)

-- An entry: its key, and its changed value.
abbrev pub entry_bytes : Rewrite → Parts → EntryAt → List ℕ
entry_bytes w p e = spell (w.key (pair_of e)) ++ changed_bytes w.change p.classes p.bytes (entry_node e)

-- A pool: its class and the number of its entries, each in its shortest spelling, then the entries.
abbrev pub group_bytes : Rewrite → Parts → Group → List ℕ
group_bytes w p g = spell g.class ++ (spell (length g.entries) ++ flat_map (entry_bytes w p) g.entries)

-- What follows the size of a chained checkpoint: type, start and duration unchanged, the delta, the type byte
-- unchanged, the number of pools, and the pools.
abbrev pub checkpoint_tail : Rewrite → Parts → Link → ℕ → List Group → List ℕ
checkpoint_tail w p l delta gs =
    slice_range p.bytes l.frame.type_at l.frame.body ++ (slice_range p.bytes l.frame.body l.delta_at ++ (spell delta ++ (slice_range p.bytes l.delta_end (l.delta_end + 1)
    ++ (spell (length gs) ++ flat_map (group_bytes w p) gs))))

-- The bytes of a record that isn't a chained checkpoint: an event, or the record unchanged.
abbrev pub whole_bytes : Rewrite → Parts → Framed → Option EventAt → List ℕ
whole_bytes w p r (Some e) = event_bytes w p e
whole_bytes w p r None = record_bytes p.bytes r

-- The event whose record this is, if it is among these.
abbrev pub event_there : List EventAt → Framed → Option EventAt
event_there kept r = find (λ e. e.record_of.at == r.at) kept

-- What follows the size of a chained checkpoint with this number at this offset in the output, with the newest
-- checkpoint before it at `newest`, if there is one. `entries` are those of the output.
abbrev pub chained_tail : Rewrite → Parts → List EntryAt → ℕ → Link → ℕ → Option ℕ → List ℕ
chained_tail w p entries number l at newest = checkpoint_tail w p l (distance at newest) (groups_of entries number)

-- The bytes of an output record at this offset.
abbrev pub new_bytes : Rewrite → Parts → List EventAt → List EntryAt → OutputRecord → ℕ → Option ℕ → List ℕ
new_bytes w p kept entries (Whole r) at newest = whole_bytes w p r (event_there kept r)
new_bytes w p kept entries (Rebuilt r x) at newest = x
new_bytes w p kept entries (Chained number l) at newest = resized w l.frame (chained_tail w p entries number l at newest)

-- The output records with their offsets, one after another, given the bytes of each.
abbrev pub written_by : (OutputRecord → ℕ → Option ℕ → List ℕ) → ℕ → Option ℕ → List OutputRecord → List Written
written_by bytes at newest [] = []
written_by bytes at newest (s ∷ ss) = record { output_record = s; at = at; newest = newest } ∷ written_by bytes (at + length (bytes s at newest)) (newest_after s at newest) ss

-- The bytes of an output record at its own offset in the output.
abbrev pub bytes_by : (OutputRecord → ℕ → Option ℕ → List ℕ) → Written → List ℕ
bytes_by bytes w = bytes w.output_record w.at w.newest

-- The output chunk with these output records, given the bytes of each.
abbrev pub assembled_by : Parts → (OutputRecord → ℕ → Option ℕ → List ℕ) → List OutputRecord → List ℕ
assembled_by p bytes ss =
    let ws = written_by bytes 68 None ss in
    let body = flat_map (bytes_by bytes) ws in
    header_with p.bytes (68 + length body) (newest_at None ws) (moved ws (metadata_at p.bytes)) ++ body

-- The rewritten chunk, if these events are kept and these entries remain.
unfoldable pub rewritten : Rewrite → Parts → List EventAt → List EntryAt → List ℕ
rewritten w p kept entries = assembled_by p (new_bytes w p kept entries) (output_records w.metadata p kept)

-- Its output records with their offsets.
abbrev pub rewritten_records : Rewrite → Parts → List EventAt → List EntryAt → List Written
rewritten_records w p kept entries = written_by (new_bytes w p kept entries) 68 None (output_records w.metadata p kept)
