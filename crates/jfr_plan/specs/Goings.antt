-- The state of a command between two chunks of its input.
use Rattle.std.specs.Prelude.{◌≡◌, ℕ, ◌+◌, Bool, not, List, ◌++◌, length, Option, Some, IfSome}
use Rattle.jfr_outside.specs.World.{World, file}
use Rattle.jfr_header.specs.Cuts.{Cuts, cut, joined}
use Rattle.jfr_plan.specs.Effects.{snapshot, done}
use Rattle.jfr_plan.specs.Rules.{Rule, cut_after, gone, AllGo}

-- The chunk after these starts at this byte of the recording and has this number.
abbrev pub IsAt : List (List ℕ) → ℕ → ℕ → Type 0
IsAt earlier start number = (start ≡ length (joined earlier)) × (number ≡ length earlier + 1)

-- The command did not end at any chunk so far. `left` is the unread part of the input, and starts at byte
-- `start` of the recording.
pub record Going (r : Rule) (earlier : List (List ℕ)) (input : List ℕ) (start number : ℕ) (given : Bool) (o p : Option (List ℕ)) (w v : World) : Type 0 where
  pub x : List ℕ
  pub file_is : file w input ≡ Some x
  pub before : List (List ℕ)
  pub left : List ℕ
  pub input_is : v.input ≡ Some left
  pub parts : x ≡ joined before ++ left
  pub cuts : Cuts
  pub cuts_are : cuts ≡ cut left start (not given)
  pub chunks : (cut_after earlier x).chunks ≡ before ++ cuts.chunks
  pub flaw : (cut_after earlier x).flaw ≡ cuts.flaw
  pub go : AllGo r earlier before
  pub number_is : number ≡ length (earlier ++ before) + 1
  pub start_is : start ≡ length (joined (earlier ++ before))
  pub holds : snapshot v p ≡ done (r.opens ++ gone r earlier before) (snapshot w o)

-- As `Going`, for a stage whose state is that after the chunks so far.
pub record Staged (r : Rule) (earlier : List (List ℕ)) (Seen : List (List ℕ) → Type 0) (input : List ℕ) (start number : ℕ) (given : Bool) (o p : Option (List ℕ)) (w v : World) : Type 0 where
  pub going : Going r earlier input start number given o p w v
  pub seen : Seen (earlier ++ going.before)

-- The input has been read to its end: the stage's state is that after its chunks, and the position is after
-- them.
abbrev pub IsPast : (List (List ℕ) → Type 0) → List (List ℕ) → List ℕ → ℕ → ℕ → World → Type 0
IsPast Seen earlier input start number w = IfSome (file w input) (λ x. Seen (earlier ++ (cut_after earlier x).chunks) × IsAt (earlier ++ (cut_after earlier x).chunks) start number)
