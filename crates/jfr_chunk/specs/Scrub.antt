-- The output chunk: the header, followed, in the order of the file, by the kept events, the metadata record,
-- and what is left of each chained checkpoint.
use Rattle.std.specs.Prelude.{ℕ, ◌+◌, Bool, true, false, ◌||◌, ◌==◌, List, [], ◌∷◌, ◌++◌, length, filter, find, reverse, Option, Some, None, take, if◌then◌else◌}
use Rattle.std.specs.List.{list_any, flat_map, filter_map, enumerate_from}
use Rattle.std.specs.Option.{option_map_or}
use Rattle.jfr_header.specs.Headers.{header_of, header_bytes}
use Rattle.jfr_frame.specs.declared.framed.Framed.{Framed}
use Rattle.jfr_frame.specs.Records.{record_bytes}
use Rattle.jfr_pool.specs.declared.link.Link.{Link}
use Rattle.jfr_pool.specs.declared.entry.EntryAt.{EntryAt}
use Rattle.jfr_chunk.specs.Parts.{Parts, EventAt, metadata_at}
use Rattle.jfr_chunk.specs.Reach.{remain}
use Rattle.jfr_chunk.specs.Metas.{Names, new_metadata}
use Rattle.jfr_chunk.specs.Written.{Group, by_pool, distance, checkpoint_bytes}

-- What is written for a record: all its bytes; for a chained checkpoint, a new one with its remaining
-- entries; or, for the metadata record, a rebuilt one. Checkpoints are numbered in file order.
pub data OutputRecord : Type 0 where
  Whole : (frame : Framed) → OutputRecord
  Chained : (number : ℕ) (link : Link) → OutputRecord
  Rebuilt : (frame : Framed) (bytes : List ℕ) → OutputRecord

-- What is written for a record, given its number and link if it is a chained checkpoint, whether it is
-- written at all, and the bytes to write instead, if any.
abbrev pub output_record_by : Option (ℕ × Link) → Bool → Option (List ℕ) → Framed → Option OutputRecord
output_record_by (Some l) other slim r = Some (Chained l.0 l.1)
output_record_by None true None r = Some (Whole r)
output_record_by None true (Some x) r = Some (Rebuilt r x)
output_record_by None false slim r = None

-- Whether a record is that of a kept event, or the metadata record at the position in the header.
abbrev pub is_kept_or_metadata : Parts → List EventAt → Framed → Bool
is_kept_or_metadata p kept r = list_any (λ e. e.record_of.at == r.at) kept || (r.at == metadata_at p.bytes)

-- The bytes to write instead of a record: for the metadata record the new one, if there is one.
abbrev pub written_anew : Option (List ℕ) → Parts → Framed → Option (List ℕ)
written_anew slim p r = if r.at == metadata_at p.bytes then slim else None

-- What is written for a record, if anything is, given the new metadata record, if there is one.
abbrev pub output_record_of : Option (List ℕ) → Parts → List EventAt → Framed → Option OutputRecord
output_record_of slim p kept r = output_record_by (find (λ l. l.1.frame.at == r.at) (enumerate_from 0 (reverse p.chain))) (is_kept_or_metadata p kept r) (written_anew slim p r) r

-- The output records of a chunk, in order.
abbrev pub output_records : Option (List ℕ) → Parts → List EventAt → List OutputRecord
output_records slim p kept = filter_map (output_record_of slim p kept) p.records

-- An output record with its offset in the output, and the offset there of the chained checkpoint before it,
-- if there is one.
pub record Written : Type 0 where
  pub output_record : OutputRecord
  pub at : ℕ
  pub newest : Option ℕ

-- The pools, of the checkpoint with this number, that have an entry left.
abbrev pub groups_of : List EntryAt → ℕ → List Group
groups_of remaining number = by_pool (filter (λ e. e.checkpoint == number) remaining)

-- The bytes of an output record at this offset in the output, with the newest checkpoint before it at `newest`,
-- if there is one.
abbrev pub bytes_of : List ℕ → List EntryAt → OutputRecord → ℕ → Option ℕ → List ℕ
bytes_of c remaining (Whole r) at newest = record_bytes c r
bytes_of c remaining (Rebuilt r x) at newest = x
bytes_of c remaining (Chained number l) at newest = checkpoint_bytes c l (distance at newest) (groups_of remaining number)

-- The bytes of an output record at its own offset in the output.
abbrev pub written_bytes : List ℕ → List EntryAt → Written → List ℕ
written_bytes c remaining w = bytes_of c remaining w.output_record w.at w.newest

-- The offset of the newest checkpoint in the output once this output record is written.
abbrev pub newest_after : OutputRecord → ℕ → Option ℕ → Option ℕ
newest_after (Whole r) at newest = newest
newest_after (Rebuilt r x) at newest = newest
newest_after (Chained number l) at newest = Some at

-- The output records with their offsets, one after another.
abbrev pub written : List ℕ → List EntryAt → ℕ → Option ℕ → List OutputRecord → List Written
written c remaining at newest [] = []
written c remaining at newest (s ∷ ss) = record { output_record = s; at = at; newest = newest } ∷ written c remaining (at + length (bytes_of c remaining s at newest)) (newest_after s at newest) ss

-- The offset of the newest checkpoint in the output; 0 if there is none.
abbrev pub newest_at : Option ℕ → List Written → ℕ
newest_at None [] = 0
newest_at (Some at) [] = at
newest_at newest (w ∷ ws) = newest_at (newest_after w.output_record w.at newest) ws

-- The record for which an output record is written.
abbrev pub record_of : OutputRecord → Framed
record_of (Whole r) = r
record_of (Chained number l) = l.frame
record_of (Rebuilt r x) = r

-- The offset in the output of the record that was at this offset in the chunk.
abbrev pub moved : List Written → ℕ → ℕ
moved ws at = option_map_or (λ w. w.at) (find (λ w. (record_of w.output_record).at == at) ws) 0

-- The header with another size and other positions of the newest checkpoint and of the metadata record.
abbrev pub header_with : List ℕ → ℕ → ℕ → ℕ → List ℕ
header_with c size pools metadata = header_bytes (record (header_of (take 68 c)) { size = size; pools = pools; metadata = metadata })

-- The output chunk with these output records and these entries left.
abbrev pub assembled : Parts → List EntryAt → List OutputRecord → List ℕ
assembled p remaining ss =
    let ws = written p.bytes remaining 68 None ss in
    let body = flat_map (written_bytes p.bytes remaining) ws in
    header_with p.bytes (68 + length body) (newest_at None ws) (moved ws (metadata_at p.bytes)) ++ body

-- The output chunk if these events are kept, given the new metadata record, if there is one.
unfoldable pub scrub_with : Option (List ℕ) → Parts → List EventAt → List ℕ
scrub_with slim p kept = assembled p (remain p kept) (output_records slim p kept)

-- The output chunk if these events are kept, and described those classes whose names are in the set.
abbrev pub scrub_of : Names → Parts → List EventAt → List ℕ
scrub_of names p kept = scrub_with (new_metadata names p kept) p kept
