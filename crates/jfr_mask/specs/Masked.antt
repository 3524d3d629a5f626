-- Masked values: each string in a masked field has another text.
use Rattle.std.specs.Prelude.{ℕ, zero, suc, Bool, true, false, ◌&&◌, List, [], ◌∷◌, ◌++◌, length, Option, Some, None, option_and_then, if◌then◌else◌}
use Rattle.std.specs.Option.{option_map, option_map_or}
use Rattle.jfr_base.specs.Formats.{run}
use Rattle.jfr_text.specs.Strings.{string_format}
use Rattle.jfr_text.specs.Strings as strings
use Rattle.jfr_layout.specs.Classes.{Classes, class_index}
use Rattle.jfr_meta.specs.Written.{text_bytes}
use Rattle.jfr_value.specs.declared.leaf.Holder.{Holder}
use Rattle.jfr_value.specs.declared.leaf.LeafKind.{LeafKind}
use Rattle.jfr_value.specs.declared.leaf.LeafKind.TheVariants as leaf_kinds
use Rattle.jfr_value.specs.Values.{Value, Values, Single, Group, Nil, Cons}
use Rattle.jfr_value.specs.Leaves.{part_holder}
use Rattle.jfr_value.specs.Nodes.{NodeAt, value_of}
use Rattle.jfr_pool.specs.Entries.{in_force, entry_node}
use Rattle.jfr_chunk.specs.Parts.{Parts}
use Rattle.jfr_chunk.specs.Paths.{always, content_in, follow_while, string_of}
use Rattle.jfr_rewrite.specs.Changed.{Change, plain, single_of}
use Rattle.jfr_mask.specs.Fields.{Masks, is_masked_field, is_text}
use Rattle.jfr_mask.specs.Pseudonyms.{is_unmasked}

-- Whether a string with this holder is masked: its holder is a masked field; or it has none, as the value of a
-- constant, and the constants are masked.
abbrev pub is_held_masked : Masks → Classes → Option Holder → Bool
is_held_masked masks k None = masks.constants
is_held_masked masks k (Some h) = option_map_or (λ index. is_masked_field masks index h.field) (class_index k h.class) false

-- The leaf is a string.
abbrev pub is_string_leaf : LeafKind → Bool
is_string_leaf (leaf_kinds.Base kind) = is_text kind
is_string_leaf (leaf_kinds.Key key) = false
is_string_leaf (leaf_kinds.Count n) = false

-- The value is a masked string, given its holder, and which holders' strings are masked.
abbrev pub is_masked_string : (Option Holder → Bool) → Option Holder → Value → Bool
is_masked_string masked h (Single s kind b key) = masked h && is_string_leaf kind
is_masked_string masked h (Group s head vs) = false

-- The text of the string with these bytes. A key has none of its own.
abbrev pub own_text : List ℕ → Option (List ℕ)
own_text b = option_and_then strings.text_of (content_in (run (string_format true) b (length b) 0))

-- The text to which a class and a key lead: from the value of the entry in force, references and keys are followed at
-- most 15 times more, which is 16 times with this one.
abbrev pub constant_text : Parts → ℕ × ℕ → Option (List ℕ)
constant_text p t = option_and_then (λ e. option_and_then strings.text_of (string_of p (follow_while 15 always p (entry_node e)))) (in_force p.entries t)

-- The text of a string of this class, by its bytes and its key, if it is one.
abbrev pub string_text : Parts → ℕ → List ℕ → Option ℕ → Option (List ℕ)
string_text p class b (Some key) = constant_text p (class, key)
string_text p class b None = own_text b

-- A string without a key: null if there is no text, the empty string, or the text in UTF-8 after its length.
abbrev pub string_bytes : Option (List ℕ) → List ℕ
string_bytes None = 0 ∷ []
string_bytes (Some t) = text_bytes t

-- Masking, given which holders' strings are masked, and what is shown for a text: a masked string becomes one with what
-- is shown for its text, or null if it has no text.
abbrev pub masking : (Option Holder → Bool) → (List ℕ → List ℕ) → Parts → Change
masking masked show p h s x =
    if is_masked_string masked h (single_of s x) then plain x.kind (string_bytes (option_map show (string_text p s.class x.bytes x.key))) None else x

-- The text, if there is one, unless it is shown as it is.
abbrev pub numbered_text : (List ℕ → Bool) → Option (List ℕ) → List (List ℕ)
numbered_text known None = []
numbered_text known (Some t) = if is_unmasked known t then [] else t ∷ []

-- The texts of the masked strings in a value, from left to right, without those that are shown as they are.
abbrev mutual
  pub masked_texts : (Option Holder → Bool) → (List ℕ → Bool) → Parts → Option Holder → Value → List (List ℕ)
  masked_texts masked known p h (Single s kind b key) = if is_masked_string masked h (Single s kind b key) then numbered_text known (string_text p s.class b key) else []
  masked_texts masked known p h (Group s head vs) = masked_texts_all masked known p (part_holder s h) vs

  pub masked_texts_all : (Option Holder → Bool) → (List ℕ → Bool) → Parts → (ℕ → Option Holder) → Values → List (List ℕ)
  masked_texts_all masked known p f Nil = []
  masked_texts_all masked known p f (Cons v vs) = masked_texts masked known p (f zero) v ++ masked_texts_all masked known p (λ n. f (suc n)) vs

-- Those of a node that is in no field, as an event's and an entry's are.
abbrev pub node_texts : (Option Holder → Bool) → (List ℕ → Bool) → Parts → NodeAt → List (List ℕ)
node_texts masked known p n = option_map_or (masked_texts masked known p None) (value_of p.classes p.bytes n) []
