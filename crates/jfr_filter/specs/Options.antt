-- What a filter's options say, from the entries of a map.
use Rattle.std.specs.Prelude.{ℕ, ℤ, List, Option}
use Rattle.std.specs.BTreeMap.{is_at}
use Rattle.std.specs.Map.{lookup}
use Rattle.std.specs.Ordering.{nat_cmp}
use Rattle.jfr_filter.specs.declared.side.Side.{Side}
use Rattle.jfr_filter.specs.declared.side.Side.TheVariants.{IncludeEvents, ExcludeEvents, IncludeCategories, ExcludeCategories, IncludeThreads, ExcludeThreads, Always, Describe}
use Rattle.jfr_filter.specs.Filters.{Given}

-- The place of an option in the order of options.
abbrev pub place_of : Side → ℕ
place_of IncludeEvents = 0
place_of ExcludeEvents = 1
place_of IncludeCategories = 2
place_of ExcludeCategories = 3
place_of IncludeThreads = 4
place_of ExcludeThreads = 5
place_of Always = 6
place_of Describe = 7

-- The patterns of an option.
abbrev pub patterns_at : List (Side × List (List ℕ)) → Side → Option (List (List ℕ))
patterns_at entries side = lookup (is_at (λ other. nat_cmp (place_of side) (place_of other))) entries

-- What the options say.
abbrev pub given_of : List (Side × List (List ℕ)) → Option ℤ → Option ℤ → Given
given_of entries from to = record {
  include_events = patterns_at entries IncludeEvents;
  exclude_events = patterns_at entries ExcludeEvents;
  include_categories = patterns_at entries IncludeCategories;
  exclude_categories = patterns_at entries ExcludeCategories;
  include_threads = patterns_at entries IncludeThreads;
  exclude_threads = patterns_at entries ExcludeThreads;
  from = from;
  to =
      to;
  always = patterns_at entries Always;
  describe = patterns_at entries Describe;
}
