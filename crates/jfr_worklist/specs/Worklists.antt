-- How many numbers are marked, and the order in which they were marked.
use Rattle.std.specs.Prelude.{ℕ, suc, Bool, true, false, List, [], ◌∷◌, ◌++◌, slice_set, if◌then◌else◌}
use Rattle.jfr_worklist.specs.Marks.{is_marked}

-- The number of marks.
abbrev pub marked_count : List Bool → ℕ
marked_count [] = 0
marked_count (true ∷ marks) = suc (marked_count marks)
marked_count (false ∷ marks) = marked_count marks

-- The order after a number is marked: the number is added at the end unless it was marked before.
abbrev pub ordered : List Bool → List ℕ → ℕ → List ℕ
ordered marks order i = if is_marked marks i then order else order ++ (i ∷ [])

-- The order after these numbers are marked, one by one.
abbrev pub ordered_all : List Bool → List ℕ → List ℕ → List ℕ
ordered_all marks order [] = order
ordered_all marks order (i ∷ is) = ordered_all (slice_set marks i true) (ordered marks order i) is
