-- What scrubbing a chunk keeps.
use Rattle.std.specs.Prelude.{◌≡◌, ℕ, ◌≤◌, ◌<◌, true, List, [], ◌∷◌, length, replicate, ⊤}
use Rattle.jfr_filter.specs.Filters.{Given, describes}
use Rattle.jfr_header.specs.Fronts.{Whole}
use Rattle.jfr_value.specs.Nodes.{node_bytes}
use Rattle.jfr_pool.specs.declared.entry.EntryAt.{EntryAt}
use Rattle.jfr_pool.specs.Entries.{entry_node}
use Rattle.jfr_chunk.specs.Parts.{Parts, EventAt, AreParts, events_of}
use Rattle.jfr_chunk.specs.Reach.{Reached, remain}
use Rattle.jfr_chunk.specs.Chosen.{chosen, kept_of}
use Rattle.jfr_chunk.specs.Scrub.{scrub_of}
use Rattle.jfr_chunk.specs.Metas.{Names, remaining_classes}
use Rattle.jfr_chunk.specs.Meaning.{SameMeaning}
use Rattle.jfr_chunk.specs.Laws.{SameRecords}

-- Two entries have the same class, key and checkpoint, and equal bytes of the value.
pub record IsCopied (p q : Parts) (e f : EntryAt) : Type 0 where
  pub class : e.class ≡ f.class
  pub key : e.key ≡ f.key
  pub checkpoint : e.checkpoint ≡ f.checkpoint
  pub value : node_bytes p.bytes (entry_node e) ≡ node_bytes q.bytes (entry_node f)

-- The entries correspond one to one, in order, and each pair has the same class, key, checkpoint and value.
abbrev pub AreCopied : Parts → Parts → List EntryAt → List EntryAt → Type 0
AreCopied p q [] [] = ⊤
AreCopied p q (e ∷ es) (f ∷ fs) = IsCopied p q e f × AreCopied p q es fs
AreCopied p q [] (f ∷ fs) = ⊥
AreCopied p q (e ∷ es) [] = ⊥

-- The output of a chunk if these events are kept: it is whole, not longer, accepted, and means the same. Its
-- classes are those that it needs, or all if its metadata record is copied; its events are the kept ones, and
-- its entries those that remain. Each of its entries is reached in it, and scrubbed with all its events kept
-- it doesn't change.
pub record IsKept (names : Names) (p : Parts) (kept : List EventAt) : Type 0 where
  pub parts : Parts
  pub classes : parts.classes ≡ remaining_classes names p kept
  pub bytes : parts.bytes ≡ scrub_of names p kept
  pub whole : Whole (scrub_of names p kept)
  pub valid : AreParts parts
  pub size : length (scrub_of names p kept) ≤ length p.bytes
  pub events : SameRecords p parts kept (events_of parts)
  pub entries : AreCopied p parts (remain p kept) parts.entries
  pub meaning : SameMeaning p parts kept (events_of parts)
  pub reached : (number : ℕ) → number < length parts.entries → Reached parts (events_of parts) number
  pub again : scrub_of names parts (events_of parts) ≡ parts.bytes

-- The output of a chunk with a filter: `IsKept` holds of it, the filter keeps all its events, and scrubbed
-- with the filter once more it doesn't change.
pub record IsSettled (g : Given) (p : Parts) : Type 0 where
  pub kept : IsKept (describes g) p (kept_of g p)
  pub all : chosen g kept.parts ≡ replicate (length (events_of kept.parts)) true
  pub again : scrub_of (describes g) kept.parts (kept_of g kept.parts) ≡ kept.parts.bytes
