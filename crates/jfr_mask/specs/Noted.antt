-- The pseudonyms that are noted for texts.
use Rattle.std.specs.Prelude.{◌≡◌, ℕ, suc, ◌+◌, ◌≤◌, ◌^◌, Bool, false, List, encode_utf8_all, get_or, length, nat_lt, slice_get, Option, Some, option_and_then, if◌then◌else◌}
use Rattle.jfr_text.specs.Strings as strings
use Rattle.jfr_pool.specs.declared.entry.EntryAt.{EntryAt}
use Rattle.jfr_value.specs.Leaves.{LeafAt, leaf_key}
use Rattle.jfr_pool.specs.Entries.{entry_node, number_in_force}
use Rattle.jfr_chunk.specs.Parts.{Parts}
use Rattle.jfr_chunk.specs.Paths.{always, follow_while, string_of}
use Rattle.jfr_rewrite.specs.Copying.{LiesIn}
use Rattle.jfr_mask.specs.declared.event_strings.StringAt.{StringAt}
use Rattle.jfr_mask.specs.declared.noted.Noted.{Noted}
use Rattle.jfr_mask.specs.declared.noted.NotedTexts.{NotedTexts}
use Rattle.jfr_mask.specs.declared.numbering.GrowingDictionary.{GrowingDictionary}
use Rattle.jfr_mask.specs.declared.masker.Masker.{Masker}
use Rattle.jfr_mask.specs.declared.numbering.Numbering.{Numbering}
use Rattle.jfr_mask.specs.EventStrings.{AreListed, string_leaf}
use Rattle.jfr_mask.specs.Masked.{numbered_text}
use Rattle.jfr_mask.specs.MaskedLeaves.{leaf_text}
use Rattle.jfr_mask.specs.Maskers.{held_by, shown_by}
use Rattle.jfr_mask.specs.Pseudonyms.{has_text, is_descriptor, is_unmasked}

-- The text to which an entry leads, from its value on. `constant_text` is that of the entry in force.
abbrev pub entry_text : Parts → EntryAt → Option (List ℕ)
entry_text p e = option_and_then strings.text_of (string_of p (follow_while 15 always p (entry_node e)))

-- The number of the entry to which a leaf refers, if it refers to one.
abbrev pub entry_by : Parts → LeafAt → Option ℕ
entry_by p l = option_and_then (λ key. number_in_force p.entries (l.class, key)) (leaf_key l.kind l.spelled)

-- The text of a string of an event.
abbrev pub text_at : Parts → StringAt → Option (List ℕ)
text_at p s = leaf_text p (string_leaf p.bytes s)

-- The string is in the chunk.
pub record IsStringIn (p : Parts) (s : StringAt) : Type 0 where
  pub within : s.at + s.len ≤ length p.bytes
  pub lies : LiesIn p (string_leaf p.bytes s)

-- The text has this index in the dictionary, and isn't shown as it is.
pub record IsMaskedAt (known : List ℕ → Bool) (d : List (List ℕ)) (text : List ℕ) (index : ℕ) : Type 0 where
  pub there : slice_get d index ≡ Some text
  pub hidden : is_unmasked known text ≡ false

-- Nothing is noted.
abbrev pub nothing : Noted
nothing = record { number = 0; descriptor = false }

-- What is noted for a text with a number.
abbrev pub noted_as : List ℕ → ℕ → Noted
noted_as text number = if nat_lt number (2 ^ 32) then record { number = number; descriptor = is_descriptor text } else nothing

-- If a pseudonym is noted, it is that of this text, which isn't shown as it is.
abbrev pub IsNotedFor : (List ℕ → Bool) → List (List ℕ) → Option (List ℕ) → Noted → Type 0
IsNotedFor known d found n = (index : ℕ) → n.number ≡ suc index → (text : List ℕ) × (found ≡ Some text) × IsMaskedAt known d text index × (n.descriptor ≡ is_descriptor text)

-- These are noted for the members of a list, which have these texts.
pub record AreNotedFor (known : List ℕ → Bool) (d : List (List ℕ)) (X : Type 0) (text_of : X → Option (List ℕ)) (xs : List X) (noted : List Noted) : Type 0 where
  pub size : length noted ≡ length xs
  pub each : (i : ℕ) (x : X) → slice_get xs i ≡ Some x → IsNotedFor known d (text_of x) (get_or noted i nothing)

-- These are noted for a chunk's entries, and for these strings of its events.
pub record AreNoted (p : Parts) (known : List ℕ → Bool) (d : List (List ℕ)) (ss : List StringAt) (noted : NotedTexts) : Type 0 where
  pub entries : AreNotedFor known d EntryAt (entry_text p) p.entries noted.entries.items
  pub strings : AreNotedFor known d StringAt (text_at p) ss noted.strings.items

-- The pseudonyms that are noted while a dictionary grows.
abbrev pub NotesTexts : Numbering → GrowingDictionary → Type 0
NotesTexts n g = AreNoted n.strings.chunk.now (has_text n.known.now) g.dictionary n.events.now.strings.items g.noted

-- Those that a masker has.
abbrev pub HasNoted : Masker → Type 0
HasNoted m = AreNoted m.strings.chunk.now (has_text m.known.now) m.dictionary.now m.events.now.strings.items m.noted.now

-- The strings that are numbered, and those that a masker writes, are those of the kept events.
abbrev pub NumbersListed : Numbering → Type 0
NumbersListed n = AreListed (held_by n.strings) n.strings.chunk.now n.kept.now n.events.now.strings.items n.events.now.ends.items

abbrev pub HasListed : Masker → Type 0
HasListed m = AreListed (held_by m.strings) m.strings.chunk.now m.kept.now m.events.now.strings.items m.events.now.ends.items

-- The text of a string of an event, unless it is shown as it is.
abbrev pub texts_at : Numbering → StringAt → List (List ℕ)
texts_at n s = numbered_text (has_text n.known.now) (text_at n.strings.chunk.now s)

-- There is a text that isn't shown as it is, and these bytes are shown for it.
abbrev pub IsShownBy : Masker → Option (List ℕ) → List ℕ → Type 0
IsShownBy m found bytes = (text : List ℕ) × (found ≡ Some text) × (is_unmasked (has_text m.known.now) text ≡ false) × (bytes ≡ encode_utf8_all (shown_by m text))
