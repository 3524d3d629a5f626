-- Comparing a pattern with a text up to the pattern's first star.
use Rattle.std.specs.Prelude.{◌≡◌, ℕ, ◌<◌, ◌≤◌, List, length, true, false, ⊤}
use Rattle.std.specs.Str.{chars}
use Rattle.jfr_filter.specs.declared.pattern.Walk.{Walk}
use Rattle.jfr_filter.specs.declared.pattern.Walk.TheVariants.{Whole, Fails, Star}
use Rattle.jfr_filter.specs.Patterns.{glob, some_suffix}

-- The pattern matches the whole text, or it doesn't. Or a star was reached: then these are equal: whether the
-- pattern matches the text, whether it matches some suffix of the text, and whether the pattern after the
-- star matches some suffix of the rest of the text.
abbrev pub Goes : List ℕ → List ℕ → Walk → Type 0
Goes pattern text Whole = glob pattern text ≡ true
Goes pattern text Fails = glob pattern text ≡ false
Goes pattern text (Star later rest) =
    (glob pattern text ≡ some_suffix (glob (chars later.now)) (chars rest.now))
    × (some_suffix (glob pattern) text ≡ some_suffix (glob (chars later.now)) (chars rest.now))

-- At a star, less of the pattern is left than before, and no more of the text.
abbrev pub IsShorter : List ℕ → List ℕ → Walk → Type 0
IsShorter pattern text Whole = ⊤
IsShorter pattern text Fails = ⊤
IsShorter pattern text (Star later rest) = (length later.now < length pattern) × (length rest.now ≤ length text)
