-- A filter's verdicts on the strings that name classes.
use Rattle.std.specs.Prelude.{◌≡◌, ℕ, Bool, List, IfSome, map}
use Rattle.std.specs.BTreeMap as tree
use Rattle.std.specs.BTreeMap.{BTreeMap}
use Rattle.std.specs.Ordering.{nat_cmp}
use Rattle.jfr_filter.specs.declared.side.Side.{Side}
use Rattle.jfr_filter.specs.declared.side.Side.TheVariants.{IncludeEvents, ExcludeEvents, IncludeCategories, ExcludeCategories}
use Rattle.jfr_filter.specs.Filters.{Given, allows_class, some_matches}
use Rattle.jfr_layout.specs.Classes.{Class}
use Rattle.jfr_meta.specs.declared.named.ClassNames.{ClassNames}
use Rattle.jfr_meta.specs.Attributes.{text_at}

-- An include and an exclude option of a filter, and the table of the strings that they are matched with.
pub record Options : Type 0 where
  pub filter : Given
  pub include : Side
  pub exclude : Side
  pub strings : List (List ℕ)

-- The options on events.
abbrev pub over_events : Given → List (List ℕ) → Options
over_events g texts = record { filter = g; include = IncludeEvents; exclude = ExcludeEvents; strings = texts }

-- The options on categories.
abbrev pub over_categories : Given → List (List ℕ) → Options
over_categories g texts = record { filter = g; include = IncludeCategories; exclude = ExcludeCategories; strings = texts }

-- Whether a pattern of the include option, and whether one of the exclude option, matches the string with
-- this index.
abbrev pub matches_of : Options → ℕ → Bool × Bool
matches_of o i = (some_matches o.filter o.include (text_at o.strings i), some_matches o.filter o.exclude (text_at o.strings i))

-- Each pair in the map is right for the string with its index.
abbrev pub AreMatches : Options → BTreeMap ℕ (Bool × Bool) → Type 0
AreMatches o matches = (i : ℕ) → IfSome (tree.get nat_cmp matches i) (λ found. found ≡ matches_of o i)

-- Whether the filter allows a class.
abbrev pub is_allowed : Given → Class → Bool
is_allowed g class = allows_class g class.name class.categories

-- Whether the filter allows a class that has these strings as its names.
abbrev pub is_named_allowed : Given → List (List ℕ) → ClassNames → Bool
is_named_allowed g texts names = allows_class g (text_at texts names.name) (map (text_at texts) names.categories.items)
