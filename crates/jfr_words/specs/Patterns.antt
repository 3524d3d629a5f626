-- The options of a filter that have lists of patterns.
use Rattle.std.specs.Prelude.{ℕ, ◌||◌, List, Option, None, Some, if◌then◌else◌}
use Rattle.std.specs.Option.{is_some}
use Rattle.jfr_filter.specs.declared.side.Side.{Side}
use Rattle.jfr_filter.specs.Filters.{Given, given_at, with_patterns}
use Rattle.jfr_filter.specs.Patterns.{patterns_in, has_empty_part}

-- The options with this one set to a list of patterns; none if it was given before or a pattern is empty.
abbrev pub given_patterns : Side → List ℕ → Given → Option Given
given_patterns side list g = if is_some (given_at side g) || has_empty_part list then None else Some (with_patterns side (patterns_in list) g)
