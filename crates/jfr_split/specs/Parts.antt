-- How chunks are assigned to parts.
use Rattle.std.specs.Prelude.{ℕ, ◌+◌, ◌==◌, ◌||◌, ◌≤◌, Bool, true, false, nat_le, nat_lt, List, [], ◌∷◌, length, Option, option_map, encode_utf8_all}
pub use Rattle.jfr_split.specs.declared.part.SplitRule.{SplitRule}
pub use Rattle.jfr_split.specs.declared.part.Part.{Part}

-- Each limit is at least 1, and six digits are enough for the numbers of all parts.
pub record IsUsable (rule : SplitRule) : Type 0 where
  pub chunks : 1 ≤ rule.max_chunks
  pub size : 1 ≤ rule.max_size
  pub some : 1 ≤ rule.max_parts
  pub numbered : rule.max_parts ≤ 999999

-- The bytes of the folder's name, if a folder is given.
abbrev pub folder_of : SplitRule → Option (List ℕ)
folder_of rule = option_map encode_utf8_all rule.folder

-- No part yet.
abbrev pub no_part : Part
no_part = record { number = 0; chunks = 0; bytes = 0 }

-- Whether a part is full for a chunk: it has the most chunks already, or too many bytes with this one.
abbrev pub is_full : SplitRule → Part → List ℕ → Bool
is_full rule part chunk = nat_le rule.max_chunks part.chunks || nat_lt rule.max_size (part.bytes + length chunk)

-- Whether the chunk starts a new part.
abbrev pub begins : SplitRule → Part → List ℕ → Bool
begins rule part chunk = (part.number == 0) || is_full rule part chunk

-- The part to which a chunk belongs, given whether the chunk starts it.
abbrev pub part_by : Bool → Part → List ℕ → Part
part_by true part chunk = record { number = part.number + 1; chunks = 1; bytes = length chunk }
part_by false part chunk = record { number = part.number; chunks = part.chunks + 1; bytes = part.bytes + length chunk }

-- The part to which the chunk belongs.
abbrev pub part_with : SplitRule → Part → List ℕ → Part
part_with rule part chunk = part_by (begins rule part chunk) part chunk

-- The current part after more chunks.
abbrev pub part_after : SplitRule → Part → List (List ℕ) → Part
part_after rule part [] = part
part_after rule part (c ∷ cs) = part_after rule (part_with rule part c) cs

-- The current part after these chunks.
unfoldable pub part_of : SplitRule → List (List ℕ) → Part
part_of rule chunks = part_after rule no_part chunks
