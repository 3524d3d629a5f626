-- Lines in order: each is for a different entry, and its parent comes before it.
use Rattle.std.specs.Prelude.{◌≡◌, ◌<◌, ℕ, Bool, true, false, List, [], ◌∷◌, length, slice_get, Option, Some, None, Contains, if◌then◌else◌, ⊤}
use Rattle.std.specs.List.{AllByRecursion}
use Rattle.std.specs.Option.{option_map_or}
use Rattle.std.specs.declared.vec.Vec.{Vec}
use Rattle.std.specs.declared.alloc.Global.{Global}
use Rattle.jfr_worklist.specs.Marks.{is_marked}
use Rattle.jfr_verify.specs.declared.line.Line.{Line}
use Rattle.jfr_verify.specs.declared.line.Parent.{Parent}
use Rattle.jfr_verify.specs.declared.line.Parent.TheVariants.{OfEvent, OfEntry}

-- A parent is an event, or an entry with an earlier line.
abbrev pub IsBefore : List ℕ → Parent → Type 0
IsBefore before (OfEvent n) = ⊤
IsBefore before (OfEntry n) = Contains before n

-- A line can follow lines for these entries: its entry is below the count and has no earlier line, and its
-- parent comes before.
pub record IsOrdered (count : ℕ) (before : List ℕ) (l : Line) : Type 0 where
  pub below : l.entry < count
  pub fresh : Contains before l.entry → ⊥
  pub parent : IsBefore before l.parent

-- Each line can follow lines for these entries and the lines before it.
abbrev pub AreOrdered : ℕ → List ℕ → List Line → Type 0
AreOrdered count before [] = ⊤
AreOrdered count before (l ∷ ls) = IsOrdered count before l × AreOrdered count (l.entry ∷ before) ls

-- The parent listed for each line's entry is the line's.
abbrev pub AreParentsOf : List Parent → List Line → Type 0
AreParentsOf parents ls = AllByRecursion (λ l. slice_get parents l.entry ≡ Some l.parent) ls

-- The parents of the lines, one for each entry, if the lines are in order; or the lines aren't in order.
abbrev pub ParentsOf : ℕ → List Line → Option (Vec Parent Global) → Type 0
ParentsOf count ls None = AreOrdered count [] ls → ⊥
ParentsOf count ls (Some parents) = AreOrdered count [] ls × AreParentsOf parents.items ls × (length parents.items ≡ count)

-- Whether a parent is an event, or an entry with a line. `seen` says which entries have one.
abbrev pub is_before : List Bool → Parent → Bool
is_before seen (OfEvent n) = true
is_before seen (OfEntry n) = is_marked seen n

-- Whether a line can follow lines for the entries in `seen`.
abbrev pub is_next : List Bool → Line → Bool
is_next seen l = option_map_or (λ flag. if flag then false else is_before seen l.parent) (slice_get seen l.entry) false
