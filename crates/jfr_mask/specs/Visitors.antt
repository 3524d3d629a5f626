-- What a visit of the leaves of a value does.
use Rattle.std.specs.Prelude.{◌≡◌, ℕ, false, List, [], ◌∷◌, ◌++◌, length, option_to_list}
use Rattle.jfr_value.specs.Leaves.{LeafAt}
use Rattle.jfr_value.specs.Visits.{TakesAll}
use Rattle.jfr_pool.specs.Entries.{number_in_force}
use Rattle.jfr_worklist.specs.Marks.{those}
use Rattle.jfr_worklist.specs.Putting.{Puts}
use Rattle.jfr_worklist.specs.declared.worklist.Worklist.{Worklist}
use Rattle.jfr_mask.specs.declared.event_strings.StringAt.{StringAt}
use Rattle.jfr_mask.specs.declared.references.Reaching.{Reaching}
use Rattle.jfr_mask.specs.declared.texts.MaskedStrings.{MaskedStrings}
use Rattle.jfr_mask.specs.EventStrings.{masked_at}
use Rattle.jfr_mask.specs.Maskers.{held_by}
use Rattle.jfr_mask.specs.Reaching.{target_left}
use Rattle.jfr_mask.specs.declared.numbering.GrowingDictionary.{GrowingDictionary}
use Rattle.jfr_mask.specs.Pseudonyms.{with_texts}

-- If nothing failed, the texts were added.
abbrev pub AddsTexts : List (List ℕ) → GrowingDictionary → GrowingDictionary → Type 0
AddsTexts ts old new = new.failed ≡ false → (old.failed ≡ false) × (new.dictionary ≡ with_texts old.dictionary ts)

-- These masked strings were listed, unless memory ran out. No event ended.
pub record Lists (strings : List StringAt) (old new : Reaching) : Type 0 where
  pub ends : new.events.ends.items ≡ old.events.ends.items
  pub before : new.failed ≡ false → old.failed ≡ false
  pub appended : new.failed ≡ false → new.events.strings.items ≡ old.events.strings.items ++ strings

-- The strings of an event ended, unless memory ran out.
pub record EndsEvent (old new : Reaching) : Type 0 where
  pub strings : new.events.strings.items ≡ old.events.strings.items
  pub before : new.failed ≡ false → old.failed ≡ false
  pub ended : new.failed ≡ false → new.events.ends.items ≡ old.events.ends.items ++ length old.events.strings.items ∷ []

-- The entries in force to which the leaves refer are marked, except by their masked strings.
abbrev pub MarksLeaf : MaskedStrings → LeafAt → Worklist → Worklist → Type 0
MarksLeaf s l old new = TakesAll (λ t a b. Puts (those (number_in_force s.chunk.now.entries) (t ∷ [])) a b) (option_to_list (target_left (held_by s) l)) old new

-- A leaf that is a masked string is listed. If any other refers to an entry in force, that is marked.
pub record ReachesLeaf (s : MaskedStrings) (l : LeafAt) (old new : Reaching) : Type 0 where
  pub marks : MarksLeaf s l old.list new.list
  pub lists : Lists (option_to_list (masked_at (held_by s) l)) old new

-- Nothing is reached yet.
pub record IsNothing (reaching : Reaching) : Type 0 where
  pub strings : reaching.events.strings.items ≡ []
  pub ends : reaching.events.ends.items ≡ []
