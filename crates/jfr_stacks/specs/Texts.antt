-- The texts of call stacks, in UTF-8.
use Rattle.std.specs.Prelude.{ℕ, ◌/◌, ◌%◌, ◌||◌, ◌==◌, Bool, List, [], ◌∷◌, ◌++◌, codes, flat_map, map, nat_lt, reverse, Option, Some, None, option_and_then, slice_get, if◌then◌else◌}
use Rattle.std.specs.Option.{option_map, option_map_or}
use Rattle.std.specs.Char.{digit_char, encode_utf8}
use Rattle.jfr_value.specs.Nodes.{NodeAt}
use Rattle.jfr_pool.specs.Entries.{entry_node}
use Rattle.jfr_chunk.specs.Parts.{EventAt, Parts}
use Rattle.jfr_chunk.specs.Paths.{text_of}
use Rattle.jfr_path.specs.Places.{node_at}
use Rattle.jfr_stacks.specs.Frames.{after_references, frames_in, frames_of}

-- A character that has a meaning in a folded stack or doesn't print: the space, a semicolon, a backslash, a
-- character below U+0020, and U+007F.
abbrev pub is_special : ℕ → Bool
is_special c = nat_lt c 33 || (c == 59) || (c == 92) || (c == 127)

-- A special character is \u and its number in four hexadecimal digits; every other one is unchanged.
abbrev pub escaped : ℕ → List ℕ
escaped c = if is_special c then codes "\\u00" ++ digit_char (c / 16) ∷ digit_char (c % 16) ∷ [] else encode_utf8 c

-- The text to which names lead, with its special characters escaped; a question mark if there is none.
unfoldable pub name_text : Parts → NodeAt → List (List ℕ) → List ℕ
name_text p n names = option_map_or (flat_map escaped) (option_and_then (text_of p) (node_at p n names)) (codes "?")

-- The names of the fields that lead from a frame to the name of the method's class.
abbrev pub type_names : List (List ℕ)
type_names = codes "method" ∷ codes "type" ∷ codes "name" ∷ codes "string" ∷ []

-- The names of the fields that lead from a frame to the method's name.
abbrev pub method_names : List (List ℕ)
method_names = codes "method" ∷ codes "name" ∷ codes "string" ∷ []

-- A frame: the name of the method's class, a dot, and the method's name.
abbrev pub frame_text : Parts → NodeAt → List ℕ
frame_text p n = name_text p n type_names ++ codes "." ++ name_text p n method_names

-- Texts with a semicolon between them; (empty) if there are none.
abbrev pub joined : List (List ℕ) → List ℕ
joined [] = codes "(empty)"
joined (t ∷ ts) = t ++ flat_map (λ t. codes ";" ++ t) ts

-- The text of a stack with these frames, from the last frame to the first.
abbrev pub stack_text : Parts → List NodeAt → List ℕ
stack_text p frames = joined (reverse (map (frame_text p) frames))

-- The text of the stack of an event, if it has a stack.
unfoldable pub stack_of : Parts → EventAt → Option (List ℕ)
stack_of p e = option_map (stack_text p) (frames_of p e.node)

-- The text of the stack of a stack trace.
unfoldable pub trace_text : Parts → NodeAt → Option (List ℕ)
trace_text p n = option_map (stack_text p) (frames_in p n)

-- The text of the stack whose trace is the entry with this number. One reference has been followed to reach
-- the entry, so at most 15 more are.
unfoldable pub entry_text : Parts → ℕ → Option (List ℕ)
entry_text p number = option_and_then (λ e. trace_text p (after_references 15 p (entry_node e))) (slice_get p.entries number)

-- The text, if `is` says that one was written.
abbrev pub written : Bool → List ℕ → Option (List ℕ)
written is text = if is then Some text else None
