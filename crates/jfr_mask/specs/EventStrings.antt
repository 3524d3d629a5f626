-- Where the masked strings of a chunk's events are.
use Rattle.std.specs.Prelude.{◌≡◌, ℕ, ◌+◌, ◌≤◌, Bool, List, ◌∷◌, get_or, length, nat_lt, Option, None, Some, slice_range, if◌then◌else◌}
use Rattle.std.specs.List.{filter_map}
use Rattle.jfr_layout.specs.declared.kind.Kind.TheVariants as kinds
use Rattle.jfr_value.specs.declared.leaf.Holder.{Holder}
use Rattle.jfr_value.specs.declared.leaf.LeafKind.TheVariants as leaf_kinds
use Rattle.jfr_value.specs.Leaves.{LeafAt, leaves}
use Rattle.jfr_value.specs.Nodes.{NodeAt}
use Rattle.jfr_chunk.specs.Parts.{EventAt, Parts, events_of}
use Rattle.jfr_mask.specs.declared.event_strings.StringAt.{StringAt}
use Rattle.jfr_mask.specs.MaskedLeaves.{is_masked_leaf}
use Rattle.jfr_mask.specs.Reaching.{marked_get}

-- Where a leaf is.
abbrev pub string_at : LeafAt → StringAt
string_at l = record { class = l.class; at = l.at; len = length l.spelled }

-- The string as a leaf, in a chunk with these bytes. Its holder doesn't matter any more.
abbrev pub string_leaf : List ℕ → StringAt → LeafAt
string_leaf c s = record { kind = leaf_kinds.Base kinds.Text; class = s.class; holder = None; at = s.at; spelled = slice_range c s.at (s.at + s.len) }

-- Where a leaf is, if it has more than one byte.
abbrev pub long_at : LeafAt → Option StringAt
long_at l = if nat_lt 1 (length l.spelled) then Some (string_at l) else None

-- Where a leaf is, if it is a masked string that may change. One of a single byte is null or empty, and stays so.
abbrev pub masked_at : (Option Holder → Bool) → LeafAt → Option StringAt
masked_at masked l = if is_masked_leaf masked l then long_at l else None

-- The masked strings in a node that may change, from left to right.
abbrev pub strings_in : (Option Holder → Bool) → Parts → NodeAt → List StringAt
strings_in masked p n = filter_map (masked_at masked) (leaves p.classes p.bytes n)

-- From one number up to another, these are the masked strings of an event.
pub record AreOfEvent (masked : Option Holder → Bool) (p : Parts) (e : EventAt) (strings : List StringAt) (start end : ℕ) : Type 0 where
  pub order : start ≤ end
  pub within : end ≤ length strings
  pub are : slice_range strings start end ≡ strings_in masked p e.node

-- Where the strings of an event start, given where those of each event end.
abbrev pub start_of : List ℕ → ℕ → ℕ
start_of ends number = get_or (0 ∷ ends) number 0

-- The masked strings of each kept event are listed.
abbrev pub AreListed : (Option Holder → Bool) → Parts → List Bool → List StringAt → List ℕ → Type 0
AreListed masked p flags strings ends =
    (number : ℕ) (e : EventAt) → marked_get flags (events_of p) number ≡ Some e → AreOfEvent masked p e strings (start_of ends number) (get_or ends number 0)
