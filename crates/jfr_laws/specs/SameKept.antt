-- When two chunks agree on all that remains of them.
use Rattle.std.specs.Prelude.{◌≡◌, ℕ, ◌+◌, ◌==◌, Bool, List, [], ◌∷◌, length, map, Option, Some, None, ⊤, if◌then◌else◌}
use Rattle.jfr_frame.specs.Records.{record_bytes}
use Rattle.jfr_pool.specs.declared.entry.EntryAt.{EntryAt}
use Rattle.jfr_pool.specs.Entries.{number_in_force}
use Rattle.jfr_worklist.specs.Marks.{IsMarked}
use Rattle.jfr_chunk.specs.Parts.{Parts, EventAt, metadata_at}
use Rattle.jfr_chunk.specs.Reach.{Used, marked, remain}
use Rattle.jfr_chunk.specs.Laws.{SameRecords}
use Rattle.jfr_chunk.specs.Written.{entry_bytes}
use Rattle.jfr_chunk.specs.Scrub.{OutputRecord, Whole, Chained, Rebuilt, output_records}
use Rattle.jfr_laws.specs.Laws.{IsCopied}
use Rattle.jfr_laws.specs.Told.{ToldCheckpoint, told_header, told_head}

-- Two entries of a checkpoint are in one pool in the one chunk exactly if they are in the other.
abbrev pub SamePool : EntryAt → EntryAt → EntryAt → EntryAt → Type 0
SamePool e f d g = e.checkpoint ≡ d.checkpoint → (e.pool == d.pool) ≡ (f.pool == g.pool)

abbrev pub SamePools : EntryAt → EntryAt → List EntryAt → List EntryAt → Type 0
SamePools e f [] [] = ⊤
SamePools e f (d ∷ ds) (g ∷ gs) = SamePool e f d g × SamePools e f ds gs
SamePools e f [] (g ∷ gs) = ⊥
SamePools e f (d ∷ ds) [] = ⊥

-- The entries correspond one to one, in order: each pair has the same class, key, checkpoint and bytes, and
-- they are in the same pools.
abbrev pub SameEntries : Parts → Parts → List EntryAt → List EntryAt → Type 0
SameEntries p q [] [] = ⊤
SameEntries p q (e ∷ es) (f ∷ fs) = IsCopied p q e f × (entry_bytes p.bytes e ≡ entry_bytes q.bytes f) × SamePools e f es fs × SameEntries p q es fs
SameEntries p q [] (f ∷ fs) = ⊥
SameEntries p q (e ∷ es) [] = ⊥

-- An output record without what is compared elsewhere: which of the kept events it is, the metadata record as it
-- is written, or the number of a chained checkpoint and all but its pools.
pub data Outline : Type 0 where
  OfEvent : (number : Option ℕ) → Outline
  OfMetadata : (bytes : List ℕ) → Outline
  OfCheckpoint : (number : ℕ) (head : ToldCheckpoint) → Outline

-- The number of the first event whose record starts at this offset, counted from n on.
abbrev pub number_from : ℕ → ℕ → List EventAt → Option ℕ
number_from at n [] = None
number_from at n (e ∷ es) = if e.record_of.at == at then Some n else number_from at (n + 1) es

abbrev pub outline_of : Parts → List EventAt → OutputRecord → Outline
outline_of p kept (Whole r) = if r.at == metadata_at p.bytes then OfMetadata (record_bytes p.bytes r) else OfEvent (number_from r.at 0 kept)
outline_of p kept (Rebuilt r x) = OfMetadata x
outline_of p kept (Chained number l) = OfCheckpoint number (told_head p.bytes l)

-- The output records of a chunk, in order, each as an outline.
abbrev pub outlines : Option (List ℕ) → Parts → List EventAt → List Outline
outlines slim p kept = map (outline_of p kept) (output_records slim p kept)

-- Two chunks agree on all that remains. The kept events have the same classes and bytes. The headers agree except
-- for the size and the positions. The output records come in the same order, with the same metadata record and
-- equal heads of checkpoints. The entries that remain in the first chunk are among those of the second, with the
-- same bytes, in the same order, checkpoints and pools; and no other entry of the second is in force for what
-- paths of the first one's kept events refer to. Nothing is said of other events, other entries, other records,
-- or descriptions that aren't written.
pub record SameKept (slim other : Option (List ℕ)) (p q : Parts) (kept others : List EventAt) : Type 0 where
  pub events : SameRecords p q kept others
  pub header : told_header p.bytes ≡ told_header q.bytes
  pub order : outlines slim p kept ≡ outlines other q others
  pub flags : List Bool
  pub each : length flags ≡ length q.entries
  pub constants : SameEntries p q (remain p kept) (marked flags q.entries)
  pub no_other : (t : ℕ × ℕ) (number : ℕ) → Used p kept t → number_in_force q.entries t ≡ Some number → IsMarked flags number
