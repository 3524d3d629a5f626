-- What the references of values add, one after another.
use Rattle.std.specs.Prelude.{◌≡◌, ℕ, ◌+◌, ◌≤◌, false, List, [], ◌∷◌, ◌++◌, filter, length}
use Rattle.jfr_worklist.specs.Marks.{those}
use Rattle.jfr_value.specs.declared.leaf.KeyAt.{KeyAt}
use Rattle.jfr_pool.specs.declared.entry.EntryAt.{EntryAt}
use Rattle.jfr_pool.specs.Entries.{number_in_force}
use Rattle.jfr_chunk.specs.declared.refs.ConstantRefs.{ConstantRefs}
use Rattle.jfr_chunk.specs.KeyPlaces.{NotesKeys}
use Rattle.jfr_chunk.specs.Missing.{Notes, is_missing}

-- The numbers are added after the old ones. If memory has run out, some may be missing.
pub record AddsRefs (numbers : List ℕ) (old new : ConstantRefs) : Type 0 where
  pub lacked_none : new.lacks ≡ false → old.lacks ≡ false
  pub appended : new.lacks ≡ false → new.numbers.items ≡ old.numbers.items ++ numbers
  pub few : length new.numbers.items ≤ length old.numbers.items + length numbers

-- The numbers of the entries in force for these targets are added, and the targets without one are noted as the
-- event's.
pub record TakesRefs (es : List EntryAt) (ts : List (ℕ × ℕ)) (old new : ConstantRefs) : Type 0 where
  pub numbers : AddsRefs (those (number_in_force es) ts) old new
  pub missing : Notes (filter (is_missing es) ts) old.event old.missing new.missing
  pub same_event : new.event ≡ old.event

-- The target of a key is taken, and the key's place is noted.
pub record TakesKey (es : List EntryAt) (key : KeyAt) (old new : ConstantRefs) : Type 0 where
  pub target : TakesRefs es ((key.class, key.key) ∷ []) old new
  pub place : NotesKeys es (key ∷ []) old.keys new.keys

-- Unless some are missing, there are as many places of keys as numbers.
abbrev pub HasPlaceForEach : ConstantRefs → Type 0
HasPlaceForEach refs = refs.lacks ≡ false → refs.keys.lacks ≡ false → length refs.keys.places.items ≡ length refs.numbers.items
