-- When cutting and joining end well, and that a recording comes back from its parts.
use Rattle.std.specs.Prelude.{◌≡◌, ◌≤◌, List, ℕ, None, Some, [], ◌∷◌, ◌++◌}
use Rattle.std.specs.FinMap as fin
use Rattle.jfr_plan.specs.Ends.{Fine}
use Rattle.jfr_plan.specs.Effects.{Snapshot, Plan, done, effects}
use Rattle.jfr_plan.specs.Rules.{cut_after, plan_after}
use Rattle.jfr_split.specs.Parts.{SplitRule, part_of}
use Rattle.jfr_split.specs.Splits.{splitting}
use Rattle.jfr_split.specs.Joins.{assembling}

-- The plan that splits this recording, which is the contents of this file, into parts.
abbrev pub split_plan : SplitRule → List ℕ → List ℕ → Plan
split_plan rule file recording = plan_after (splitting rule file) [] (Some recording)

-- The state after the recording is split.
abbrev pub split : SplitRule → List ℕ → List ℕ → Snapshot → Snapshot
split rule file recording before = done (effects (split_plan rule file recording).steps) before

-- The plan of joining a folder's files ends well, and its output holds this recording.
pub record Returns (folder output recording : List ℕ) (s : Snapshot) : Type 0 where
  pub end : (assembling folder output s.files).end ≡ Some Fine
  pub is : fin.get (done (effects (assembling folder output s.files).steps) s).files output ≡ Some recording

-- The recording is cut into chunks without a flaw, and they need no more parts than there may be.
pub record FitsParts (rule : SplitRule) (recording : List ℕ) : Type 0 where
  pub flawless : (cut_after [] recording).flaw ≡ None
  pub few : (part_of rule (cut_after [] recording).chunks).number ≤ rule.max_parts

-- Each of these files, whose chunks come after those of earlier files, is cut into chunks without a flaw.
abbrev pub AreFlawless : List (List ℕ) → List (List ℕ) → Type 0
AreFlawless earlier [] = Unit {0}
AreFlawless earlier (x ∷ xs) = ((cut_after earlier x).flaw ≡ None) × AreFlawless (earlier ++ (cut_after earlier x).chunks) xs

-- There is a file, and all files are cut into chunks without a flaw.
abbrev pub AreJoinable : List (List ℕ) → Type 0
AreJoinable [] = ⊥
AreJoinable (x ∷ xs) = AreFlawless [] (x ∷ xs)
