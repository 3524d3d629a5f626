-- The groups of chunks that are parts.
use Rattle.std.specs.Prelude.{◌≡◌, ℕ, ◌+◌, ◌≤◌, ◌||◌, Bool, true, false, nat_le, nat_lt, List, [], ◌∷◌, ◌++◌, length, map}
use Rattle.std.specs.List.{flat_map}
use Rattle.jfr_header.specs.Cuts.{joined}
use Rattle.jfr_plan.specs.Effects.{Effect, Create, Append, Finish, effects}
use Rattle.jfr_plan.specs.Rules.{cut_after}
use Rattle.jfr_split.specs.Parts.{SplitRule, folder_of}
use Rattle.jfr_split.specs.Names.{part_name}
use Rattle.jfr_split.specs.Laws.{split_plan}

-- Whether a group is full for a chunk: it has the most chunks already, or too many bytes with this one.
abbrev pub is_full_for : SplitRule → List (List ℕ) → List ℕ → Bool
is_full_for rule group chunk = nat_le rule.max_chunks (length group) || nat_lt rule.max_size (length (joined group) + length chunk)

-- The group was not full for any of these chunks, which come after others in it.
abbrev pub Fit : SplitRule → List (List ℕ) → List (List ℕ) → Type 0
Fit rule before [] = Unit {0}
Fit rule before (c ∷ cs) = (is_full_for rule before c ≡ false) × Fit rule (before ++ c ∷ []) cs

-- A group of one or more chunks, which was not full for any of them except the first.
abbrev pub IsPart : SplitRule → List (List ℕ) → Type 0
IsPart rule [] = ⊥
IsPart rule (c ∷ cs) = Fit rule (c ∷ []) cs

-- The next group, if there is one, starts with a chunk for which this group was full.
abbrev pub WasFull : SplitRule → List (List ℕ) → List (List (List ℕ)) → Type 0
WasFull rule group [] = Unit {0}
WasFull rule group ([] ∷ groups) = ⊥
WasFull rule group ((c ∷ cs) ∷ groups) = is_full_for rule group c ≡ true

-- Each group is a part, and was full for the first chunk of the next group.
abbrev pub AreParts : SplitRule → List (List (List ℕ)) → Type 0
AreParts rule [] = Unit {0}
AreParts rule (group ∷ groups) = IsPart rule group × WasFull rule group groups × AreParts rule groups

-- The effects that write parts one after another, numbered from n: each is created, its chunks are appended,
-- and it is finished.
abbrev pub written : (ℕ → List ℕ) → ℕ → List (List (List ℕ)) → List Effect
written name n [] = []
written name n (part ∷ parts) = Create (name n) ∷ (map (λ c. Append c) part ++ Finish ∷ written name (n + 1) parts)

-- The plan writes the chunks of a recording as parts, and there are not too many.
pub record AreWritten (rule : SplitRule) (file recording : List ℕ) : Type 0 where
  pub parts : List (List (List ℕ))
  pub are : AreParts rule parts
  pub chunks : flat_map (λ part. part) parts ≡ (cut_after [] recording).chunks
  pub few : length parts ≤ rule.max_parts
  pub effects : effects (split_plan rule file recording).steps ≡ written (part_name (folder_of rule) file) 1 parts
