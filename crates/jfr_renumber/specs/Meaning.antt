-- What a renumbered chunk keeps: for each event and each path the same shape and the same leaves, except for
-- the keys.
use Rattle.std.specs.Prelude.{◌≡◌, ◌↔◌, ◌≤◌, ◌<◌, ℕ, true, List, length, IsSome, slice_range}
use Rattle.jfr_header.specs.Fronts.{Whole}
use Rattle.jfr_frame.specs.Records.{record_end}
use Rattle.jfr_value.specs.declared.node.Step.{Step}
use Rattle.jfr_value.specs.Nodes.{NodeAt, Both, node_bytes}
use Rattle.jfr_pool.specs.declared.entry.EntryAt.{EntryAt}
use Rattle.jfr_pool.specs.Entries.{in_force, entry_node}
use Rattle.jfr_chunk.specs.Parts.{Parts, EventAt, AreParts, events_of}
use Rattle.jfr_chunk.specs.Reach.{Used}
use Rattle.jfr_chunk.specs.Scrub.{scrub_of}
use Rattle.jfr_chunk.specs.Metas.{remaining_classes, Names}
use Rattle.jfr_chunk.specs.Paths.{leads}
use Rattle.jfr_rewrite.specs.Rewritten.{OneToOne}
use Rattle.jfr_renumber.specs.Rekeyed.{SameButKeys, rekeyed_bytes, rekeyed_pair}
use Rattle.jfr_renumber.specs.Renumber.{together, new_key, firsts, pair_of, renumber_of}

-- Each path leads from both to nodes of the same shape and leaves, except for the keys, or from both nowhere.
abbrev pub RekeyedPaths : (ℕ × ℕ → ℕ) → Parts → Parts → NodeAt → NodeAt → Type 0
RekeyedPaths new p q n o = (path : List Step) → Both (SameButKeys new p.classes q.classes p.bytes q.bytes) (leads p n path) (leads q o path)

-- Two events have the same class and the same bytes after their fields, and each path leads from both to the
-- same, except for the keys.
pub record RekeyedEvent (new : ℕ × ℕ → ℕ) (p q : Parts) (e f : EventAt) : Type 0 where
  pub class : e.record_of.type_id ≡ f.record_of.type_id
  pub rest : slice_range p.bytes e.node.end (record_end e.record_of) ≡ slice_range q.bytes f.node.end (record_end f.record_of)
  pub paths : RekeyedPaths new p q e.node f.node

-- The events correspond one to one, in order, each pair as in RekeyedEvent.
abbrev pub RekeyedMeaning : (ℕ × ℕ → ℕ) → Parts → Parts → List EventAt → List EventAt → Type 0
RekeyedMeaning new p q = OneToOne (RekeyedEvent new p q)

-- These are new keys. None is larger than the old one. Two used keys of a class have equal new keys exactly if
-- they are together, and the new keys of the used keys of a class have no gaps.
pub record AreNewKeys (p : Parts) (kept : List EventAt) (new : ℕ × ℕ → ℕ) : Type 0 where
  pub most : (t : ℕ × ℕ) → new t ≤ t.1
  pub groups : (t u : ℕ × ℕ) → Used p kept t → Used p kept u → t.0 ≡ u.0 → (new t ≡ new u) ↔ (together p t u ≡ true)
  pub dense : (t : ℕ × ℕ) (n : ℕ) → Used p kept t → n < new t → (u : ℕ × ℕ) × Used p kept u × (u.0 ≡ t.0) × (new u ≡ n)

-- Of two used keys of a class, the first has the smaller new key if it is smaller than every used key that is
-- together with the second.
abbrev pub IsInOrder : Parts → List EventAt → (ℕ × ℕ → ℕ) → Type 0
IsInOrder p kept new = (t u : ℕ × ℕ) → Used p kept t → Used p kept u → t.0 ≡ u.0 → ((v : ℕ × ℕ) → Used p kept v → together p u v ≡ true → t.1 < v.1) → new t < new u

-- The second entry is the first one with its new key, and with new keys in its value.
pub record IsRekeyedEntry (new : ℕ × ℕ → ℕ) (p q : Parts) (e f : EntryAt) : Type 0 where
  pub class : e.class ≡ f.class
  pub key : new (pair_of e) ≡ f.key
  pub checkpoint : e.checkpoint ≡ f.checkpoint
  pub value : rekeyed_bytes new p.classes p.bytes (entry_node e) ≡ node_bytes q.bytes (entry_node f)

-- The entries correspond one to one, in order, each pair as in IsRekeyedEntry.
abbrev pub AreRekeyedEntries : (ℕ × ℕ → ℕ) → Parts → Parts → List EntryAt → List EntryAt → Type 0
AreRekeyedEntries new p q = OneToOne (IsRekeyedEntry new p q)

-- The output of a chunk with new keys if these events are kept: it is whole, accepted, and no longer than the
-- chunk or than its output without new keys. Its classes are those of the output without new keys, its entries
-- the first of each group, and its events the kept ones; it means the same except for the keys. A key that is
-- used has an entry in force exactly if its new key has one.
pub record IsRenumbered (names : Names) (p : Parts) (kept : List EventAt) : Type 0 where
  pub keys : AreNewKeys p kept (new_key p kept)
  pub parts : Parts
  pub classes : parts.classes ≡ remaining_classes names p kept
  pub bytes : parts.bytes ≡ renumber_of names p kept
  pub whole : Whole (renumber_of names p kept)
  pub valid : AreParts parts
  pub size : length (renumber_of names p kept) ≤ length p.bytes
  pub no_longer : length (renumber_of names p kept) ≤ length (scrub_of names p kept)
  pub entries : AreRekeyedEntries (new_key p kept) p parts (firsts p kept) parts.entries
  pub missing : (t : ℕ × ℕ) → Used p kept t → IsSome (in_force p.entries t) ↔ IsSome (in_force parts.entries (rekeyed_pair (new_key p kept) t))
  pub meaning : RekeyedMeaning (new_key p kept) p parts kept (events_of parts)
