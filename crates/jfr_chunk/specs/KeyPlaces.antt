-- Where the keys of an event are spelled.
use Rattle.std.specs.Prelude.{◌≡◌, ℕ, ◌+◌, false, List, ◌++◌, Option, None}
use Rattle.std.specs.List.{AllByRecursion, filter_map}
use Rattle.std.specs.Option.{option_map}
use Rattle.jfr_value.specs.declared.leaf.KeyAt.{KeyAt}
use Rattle.jfr_value.specs.Leaves.{keys_in}
use Rattle.jfr_value.specs.Nodes.{NodeAt}
use Rattle.jfr_pool.specs.declared.entry.EntryAt.{EntryAt}
use Rattle.jfr_pool.specs.Entries.{number_in_force}
use Rattle.jfr_chunk.specs.declared.key_places.KeyPlace.{KeyPlace}
use Rattle.jfr_chunk.specs.declared.key_places.KeyPlaces.{KeyPlaces}
use Rattle.jfr_chunk.specs.Parts.{Parts}

-- The number of the entry in force for a key.
abbrev pub number_of_key : List EntryAt → KeyAt → Option ℕ
number_of_key es key = number_in_force es (key.class, key.key)

-- Where a key with an entry in force is spelled.
abbrev pub place_of_key : List EntryAt → KeyAt → Option KeyPlace
place_of_key es key = option_map (λ number. record { entry = number; at = key.at }) (number_of_key es key)

-- The key is 0, in one byte.
pub record IsShortZero (key : KeyAt) : Type 0 where
  pub zero : key.key ≡ 0
  pub one_byte : key.end ≡ key.at + 1

-- These are the places of the node's keys with an entry in force, from left to right. All its other keys are 0, in one
-- byte each.
pub record AreKeyPlaces (p : Parts) (n : NodeAt) (places : List KeyPlace) : Type 0 where
  pub listed : places ≡ filter_map (place_of_key p.entries) (keys_in p.classes p.bytes n)
  pub others : AllByRecursion (λ key. number_of_key p.entries key ≡ None → IsShortZero key) (keys_in p.classes p.bytes n)

-- The places are added after the old ones. If they are noted no longer, some may be missing.
pub record AddsPlaces (places : List KeyPlace) (old new : KeyPlaces) : Type 0 where
  pub lacked_none : new.lacks ≡ false → old.lacks ≡ false
  pub appended : new.lacks ≡ false → new.places.items ≡ old.places.items ++ places

-- The places of these keys with an entry in force are added. Unless some may be missing, all other of these keys are 0,
-- in one byte each.
pub record NotesKeys (es : List EntryAt) (keys : List KeyAt) (old new : KeyPlaces) : Type 0 where
  pub added : AddsPlaces (filter_map (place_of_key es) keys) old new
  pub others : new.lacks ≡ false → AllByRecursion (λ key. number_of_key es key ≡ None → IsShortZero key) keys
