-- The command `disassemble`, which splits a recording into parts.
use Rattle.std.specs.Prelude.{ℕ, ◌+◌, ◌==◌, Bool, true, false, nat_le, List, [], ◌∷◌, ◌++◌, if◌then◌else◌}
use Rattle.jfr_plan.specs.Ends.{TooMany}
use Rattle.jfr_plan.specs.Effects.{Effect, Create, Append, Finish}
use Rattle.jfr_plan.specs.Rules.{Rule, Asked, Stops, Goes, Parts}
use Rattle.jfr_split.specs.Parts.{SplitRule, Part, folder_of, begins, part_of}
use Rattle.jfr_split.specs.Names.{part_name}

-- The effects that finish the current part, if there is one.
abbrev pub closing : Part → List Effect
closing part = if part.number == 0 then [] else Finish ∷ []

-- The current part is finished and the next one created with this chunk; the command ends if there would be
-- too many.
abbrev pub asks_new : SplitRule → (ℕ → List ℕ) → Part → List ℕ → Asked
asks_new rule name part chunk =
    if nat_le rule.max_parts part.number then Stops TooMany
    else Goes (closing part ++ Create (name (part.number + 1)) ∷ Append chunk ∷ [])

-- What is done for a chunk, given whether it starts a part.
abbrev pub asks_part : SplitRule → (ℕ → List ℕ) → Bool → Part → List ℕ → Asked
asks_part rule name true part chunk = asks_new rule name part chunk
asks_part rule name false part chunk = Goes (Append chunk ∷ [])

-- The rule with these names of parts: each chunk is appended to its part, which its first chunk creates.
abbrev pub splitting_as : SplitRule → (ℕ → List ℕ) → Rule
splitting_as rule name = record {
  opens = [];
  asks = λ before c. asks_part rule name (begins rule (part_of rule before) c) (part_of rule before) c;
  ends = λ before. closing (part_of rule before);
  target = Parts;
}

-- The rule that splits a file into its parts.
abbrev pub splitting : SplitRule → List ℕ → Rule
splitting rule file = splitting_as rule (part_name (folder_of rule) file)
