-- The depth of a value in a text.
use Rattle.std.specs.Prelude.{ℕ, ◌+◌, ◌*◌, Bool, if◌then◌else◌}
use Rattle.jfr_show.specs.declared.depth.Depth.{Depth}

-- A bound on the levels of a value's parts: a composite value adds at most two levels, one for an array and
-- one for its fields, and the value of a constant adds fewer than a hundred.
abbrev pub deepest : Depth → Bool → ℕ
deepest d array = d.level + 100 * d.reach.references + 2 * d.reach.composites + (if array then 1 else 0)
