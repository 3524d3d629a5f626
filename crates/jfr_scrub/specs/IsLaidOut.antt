-- The output of a chunk, laid out as pieces.
use Rattle.std.specs.Prelude.{◌≡◌, ℕ, List, Option, length, None}
use Rattle.std.specs.List.{AllByRecursion}
use Rattle.jfr_chunk.specs.Parts.{EventAt, Parts}
use Rattle.jfr_chunk.specs.Reach.{remain}
use Rattle.jfr_chunk.specs.Scrub.{scrub_with}
use Rattle.jfr_scrub.specs.Bodies.{all_made}
use Rattle.jfr_scrub.specs.Pieces.{EntryIsCopied, EventIsCopied, IsHeaded, PieceList, MetadataIsCopied, joined, made_parts}

-- The pieces, joined, are the chunk's output if these events are kept. Only the header, single integers and a
-- metadata record that is built anew are made, in the order of `kinds`. Each kept event, each entry that
-- remains, and a metadata record that isn't built anew is in one copied piece. The counts are those of the
-- kept events and of the entries that remain.
pub record IsLaidOut (slim : Option (List ℕ)) (p : Parts) (kept : List EventAt) (laid : PieceList) (event_count entry_count : ℕ) : Type 0 where
  pub becomes : joined laid ≡ scrub_with slim p kept
  pub of_chunk : laid.chunk ≡ p.bytes
  pub made : IsHeaded laid
  pub kinds : made_parts laid.pieces ≡ all_made slim p kept
  pub events_copied : AllByRecursion (EventIsCopied laid.pieces) kept
  pub entries_copied : AllByRecursion (EntryIsCopied laid.pieces) (remain p kept)
  pub metadata_copied : slim ≡ None → MetadataIsCopied laid.pieces p
  pub events : event_count ≡ length kept
  pub entries : entry_count ≡ length (remain p kept)
