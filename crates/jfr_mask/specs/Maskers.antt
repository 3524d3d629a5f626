-- The structs of the code, as the definitions see them.
use Rattle.std.specs.Prelude.{◌≡◌, ℕ, Bool, List, [], Option, None}
use Rattle.std.specs.Option.{option_map_or}
use Rattle.jfr_value.specs.declared.leaf.Holder.{Holder}
use Rattle.jfr_value.specs.Leaves.{LeafAt}
use Rattle.jfr_value.specs.Nodes.{IsNode, NodeAt}
use Rattle.jfr_value.specs.Values.{Value}
use Rattle.jfr_chunk.specs.Parts.{EventAt, Parts}
use Rattle.jfr_pool.specs.declared.entry.EntryAt.{EntryAt}
use Rattle.jfr_pool.specs.Entries.{entry_node}
use Rattle.jfr_filter.specs.Filters.{describes}
use Rattle.jfr_rewrite.specs.Changed.{Change}
use Rattle.jfr_rewrite.specs.Rewrite.{Rewrite, fewest_or_five}
use Rattle.jfr_mask.specs.declared.mask.MaskOptions.{MaskOptions}
use Rattle.jfr_mask.specs.declared.masker.Masker.{Masker}
use Rattle.jfr_mask.specs.declared.numbering.Numbering.{Numbering}
use Rattle.jfr_mask.specs.declared.texts.MaskedStrings.{MaskedStrings}
use Rattle.jfr_mask.specs.Fields.{masks_of}
use Rattle.jfr_mask.specs.Masked.{is_held_masked, is_masked_string, masking, node_texts, numbered_text}
use Rattle.jfr_mask.specs.MaskedLeaves.{leaf_text, leaf_texts}
use Rattle.jfr_mask.specs.MaskOf.{Masking}
use Rattle.jfr_mask.specs.Plain.{ArePlain}
use Rattle.jfr_mask.specs.Pseudonyms.{has_text, shown}
use Rattle.jfr_mask.specs.ReachBut.{remain_but}

-- Which holders' strings are masked.
abbrev pub held_by : MaskedStrings → Option Holder → Bool
held_by s = is_held_masked s.masked.now s.chunk.now.classes

-- The flags of the plain classes are right.
abbrev pub KnowsPlain : MaskedStrings → Type 0
KnowsPlain s = ArePlain s.masked.now s.chunk.now.classes s.plain.now.flags.items

-- The texts of a leaf, and of a node, that are numbered.
abbrev pub leaf_texts_by : Numbering → LeafAt → List (List ℕ)
leaf_texts_by n l = leaf_texts (held_by n.strings) (has_text n.known.now) n.strings.chunk.now l

-- Those of a leaf that is a masked string.
abbrev pub string_texts_by : Numbering → LeafAt → List (List ℕ)
string_texts_by n l = numbered_text (has_text n.known.now) (leaf_text n.strings.chunk.now l)

abbrev pub node_texts_by : Numbering → NodeAt → List (List ℕ)
node_texts_by n at = node_texts (held_by n.strings) (has_text n.known.now) n.strings.chunk.now at

-- The entries that are left if these events are kept.
abbrev pub entries_by : MaskedStrings → List EventAt → List EntryAt
entries_by s kept = remain_but (is_masked_string (held_by s)) s.chunk.now kept

-- The masking with these masked fields and these known texts.
pub record IsMaskingBy (n : Numbering) (m : Masking) : Type 0 where
  pub masks : n.strings.masked.now ≡ masks_of m.strings m.except n.strings.chunk.now.classes
  pub known : m.known ≡ has_text n.known.now

-- What is shown for a text.
abbrev pub shown_by : Masker → List ℕ → List ℕ
shown_by m = shown (has_text m.known.now) m.dictionary.now

-- What becomes of values.
abbrev pub change_by : Masker → Change
change_by m = masking (held_by m.strings) (shown_by m) m.strings.chunk.now

-- How a masker rewrites its chunk, but for the metadata record.
abbrev pub rewrite_by : Masker → Rewrite
rewrite_by m = record { change = change_by m; key = λ t. t.1; width = fewest_or_five; metadata = None }

-- The masking that these options ask for.
abbrev pub masking_of : MaskOptions → Masking
masking_of o = record { strings = o.strings.now; except = option_map_or (λ p. p.now) o.except []; known = has_text o.known.now; described = describes o.filter.now }

-- The entry's value is one of the chunk.
abbrev pub IsEntryValue : Parts → EntryAt → Type 0
IsEntryValue p e = (v : Value) × IsNode p.classes p.bytes (entry_node e) v
