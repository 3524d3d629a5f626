-- Which keys are used, their new keys, and the output of a chunk with them.
use Rattle.std.specs.Prelude.{ℕ, Bool, false, not, ◌&&◌, ◌||◌, ◌==◌, List, [], ◌∷◌, ◌++◌, map, filter, Option, Some, None, if◌then◌else◌}
use Rattle.std.specs.List.{list_any}
use Rattle.std.specs.Str.{bytes_eq}
use Rattle.jfr_frame.specs.declared.framed.Framed.{Framed}
use Rattle.jfr_value.specs.Nodes.{node_bytes}
use Rattle.jfr_pool.specs.declared.link.Link.{Link}
use Rattle.jfr_pool.specs.declared.entry.EntryAt.{EntryAt}
use Rattle.jfr_pool.specs.Entries.{in_force, entry_node}
use Rattle.jfr_chunk.specs.Parts.{Parts, EventAt}
use Rattle.jfr_chunk.specs.Reach.{all_targets, nodes_of, remain}
use Rattle.jfr_chunk.specs.Written.{Group}
use Rattle.jfr_chunk.specs.Metas.{Names, new_metadata}
use Rattle.jfr_chunk.specs.Scrub.{OutputRecord, output_records}
use Rattle.jfr_rewrite.specs.Rewrite as rewrite
use Rattle.jfr_rewrite.specs.Rewrite.{Rewrite, old_width}
use Rattle.jfr_renumber.specs.Keys.{group_number}
use Rattle.jfr_renumber.specs.Rekeyed.{rekeying}

-- The used keys, computed: those that kept events and remaining entries refer to.
unfoldable pub used_keys : Parts → List EventAt → List (ℕ × ℕ)
used_keys p kept = all_targets p (nodes_of kept ++ map entry_node (remain p kept))

-- The class and the key of an entry.
abbrev pub pair_of : EntryAt → ℕ × ℕ
pair_of e = (e.class, e.key)

-- Whether both entries exist, and their values have equal bytes.
abbrev pub equal_values : List ℕ → Option EntryAt → Option EntryAt → Bool
equal_values c None other = false
equal_values c (Some e) None = false
equal_values c (Some e) (Some f) = bytes_eq (node_bytes c (entry_node e)) (node_bytes c (entry_node f))

-- Whether two keys of a class are together: they are equal, or both have entries in force, with equal bytes of
-- the value.
unfoldable pub together : Parts → ℕ × ℕ → ℕ × ℕ → Bool
together p t u = (t.0 == u.0) && ((t.1 == u.1) || equal_values p.bytes (in_force p.entries t) (in_force p.entries u))

-- The new key of a class and a key.
unfoldable pub new_key : Parts → List EventAt → ℕ × ℕ → ℕ
new_key p kept t = group_number (together p) (used_keys p kept) t

-- The new key of a class and a key, if they are used.
abbrev pub new_key_of : Parts → List EventAt → ℕ × ℕ → Option ℕ
new_key_of p kept t = if list_any (λ u. (u.0 == t.0) && (u.1 == t.1)) (used_keys p kept) then Some (new_key p kept t) else None

-- Of each set of entries that are the same by this test, the first.
abbrev pub firsts_with : (EntryAt → EntryAt → Bool) → List EntryAt → List EntryAt
firsts_with same [] = []
firsts_with same (e ∷ es) = e ∷ filter (λ f. not (same e f)) (firsts_with same es)

-- Of these entries, the first of each group.
abbrev pub firsts_of : Parts → List EntryAt → List EntryAt
firsts_of p es = firsts_with (λ e f. together p (pair_of e) (pair_of f)) es

-- The entries of the output: of those that remain, the first of each group.
unfoldable pub firsts : Parts → List EventAt → List EntryAt
firsts p kept = firsts_of p (remain p kept)

-- How a chunk is rewritten with these keys: references and entries get their new keys, and sizes keep their widths.
abbrev pub with_keys : (ℕ × ℕ → ℕ) → Option (List ℕ) → Rewrite
with_keys new metadata = record { change = rekeying new; key = new; width = old_width; metadata = metadata }

-- The bytes of a kept event.
abbrev pub event_bytes : (ℕ × ℕ → ℕ) → Parts → EventAt → List ℕ
event_bytes new p e = rewrite.event_bytes (with_keys new None) p e

-- The bytes of an entry, of a pool, and what follows the size of a chained checkpoint.
abbrev pub entry_bytes : (ℕ × ℕ → ℕ) → Parts → EntryAt → List ℕ
entry_bytes new p e = rewrite.entry_bytes (with_keys new None) p e

abbrev pub group_bytes : (ℕ × ℕ → ℕ) → Parts → Group → List ℕ
group_bytes new p g = rewrite.group_bytes (with_keys new None) p g

abbrev pub checkpoint_tail : (ℕ × ℕ → ℕ) → Parts → Link → ℕ → List Group → List ℕ
checkpoint_tail new p l delta gs = rewrite.checkpoint_tail (with_keys new None) p l delta gs

-- The bytes of a record that isn't a chained checkpoint: an event with new keys, or the record unchanged.
abbrev pub whole_bytes : (ℕ × ℕ → ℕ) → Parts → Framed → Option EventAt → List ℕ
whole_bytes new p r e = rewrite.whole_bytes (with_keys new None) p r e

-- The bytes of an output record at this offset in the output, with the newest checkpoint before it at `newest`,
-- if there is one. `entries` are those of the output.
abbrev pub new_bytes : (ℕ × ℕ → ℕ) → Parts → List EventAt → List EntryAt → OutputRecord → ℕ → Option ℕ → List ℕ
new_bytes new p kept entries o at newest = rewrite.new_bytes (with_keys new None) p kept entries o at newest

-- The output chunk with these output records, given the bytes of each.
abbrev pub assembled_by : Parts → (OutputRecord → ℕ → Option ℕ → List ℕ) → List OutputRecord → List ℕ
assembled_by p bytes ss = rewrite.assembled_by p bytes ss

-- The output chunk with new keys if these events are kept, given the new metadata record, if there is one.
unfoldable pub renumber_with : Option (List ℕ) → Parts → List EventAt → List ℕ
renumber_with slim p kept = assembled_by p (new_bytes (new_key p kept) p kept (firsts p kept)) (output_records slim p kept)

-- The output chunk with new keys if these events are kept, and described those classes whose names are in the set.
abbrev pub renumber_of : Names → Parts → List EventAt → List ℕ
renumber_of names p kept = renumber_with (new_metadata names p kept) p kept
