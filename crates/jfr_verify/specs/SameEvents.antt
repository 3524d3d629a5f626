-- How it is computed whether two chunks have the same events.
use Rattle.std.specs.Prelude.{ℕ, ◌+◌, Bool, false, ◌&&◌, ◌==◌, List, slice_get, Option, Some, None, option_map, unwrap_or, if◌then◌else◌}
use Rattle.std.specs.Str.{bytes_eq}
use Rattle.jfr_chunk.specs.Parts.{Parts, events_of}
use Rattle.jfr_verify.specs.Checks.{content}

-- Whether two contents are equal.
abbrev pub same_content : ℕ × List ℕ → ℕ × List ℕ → Bool
same_content x y = (x.0 == y.0) && bytes_eq x.1 y.1

-- Whether both contents exist and are equal.
abbrev pub both_same : Option (ℕ × List ℕ) → Option (ℕ × List ℕ) → Bool
both_same (Some x) (Some y) = same_content x y
both_same (Some x) None = false
both_same None y = false

-- Whether event n of the input and event m of the output are there and have equal contents.
abbrev pub same_event : Parts → Parts → ℕ → ℕ → Bool
same_event p q n m = both_same (option_map (content p) (slice_get (events_of p) n)) (option_map (content q) (slice_get (events_of q) m))

-- The number of the event of the output to compare next, after event n of the input was compared with event m.
abbrev pub next_event : Parts → Parts → List Bool → ℕ → ℕ → Option ℕ
next_event p q flags n m = if unwrap_or (slice_get flags n) false then (if same_event p q n m then Some (m + 1) else None) else Some m
