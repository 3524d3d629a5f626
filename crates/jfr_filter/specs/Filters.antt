-- Which events a filter keeps, and which classes it describes.
use Rattle.std.specs.Prelude.{ℕ, ℤ, Bool, true, false, ◌&&◌, ◌||◌, not, List, Option, Some, None, is_some}
use Rattle.std.specs.Option.{option_map_or}
use Rattle.std.specs.List.{list_any}
use Rattle.jfr_filter.specs.declared.side.Side.{Side}
use Rattle.jfr_filter.specs.declared.side.Side.TheVariants.{IncludeEvents, ExcludeEvents, IncludeCategories, ExcludeCategories, IncludeThreads, ExcludeThreads, Always, Describe}
use Rattle.jfr_filter.specs.Patterns.{glob, simple_name}

-- What each option says that is given: its patterns, or a moment in nanoseconds since 1970.
pub record Given : Type 0 where
  pub include_events : Option (List (List ℕ))
  pub exclude_events : Option (List (List ℕ))
  pub include_categories : Option (List (List ℕ))
  pub exclude_categories : Option (List (List ℕ))
  pub include_threads : Option (List (List ℕ))
  pub exclude_threads : Option (List (List ℕ))
  pub from : Option ℤ
  pub to : Option ℤ
  pub always : Option (List (List ℕ))
  pub describe : Option (List (List ℕ))

-- No option is given.
abbrev pub nothing_given : Given
nothing_given = record {
  include_events = None;
  exclude_events = None;
  include_categories = None;
  exclude_categories = None;
  include_threads = None;
  exclude_threads = None;
  from = None;
  to = None;
  always = None;
  describe = None;
}

-- The patterns of an option.
abbrev pub given_at : Side → Given → Option (List (List ℕ))
given_at IncludeEvents g = g.include_events
given_at ExcludeEvents g = g.exclude_events
given_at IncludeCategories g = g.include_categories
given_at ExcludeCategories g = g.exclude_categories
given_at IncludeThreads g = g.include_threads
given_at ExcludeThreads g = g.exclude_threads
given_at Always g = g.always
given_at Describe g = g.describe

-- The filter in which this option has these patterns.
abbrev pub with_patterns : Side → List (List ℕ) → Given → Given
with_patterns IncludeEvents patterns g = record g { include_events = Some patterns }
with_patterns ExcludeEvents patterns g = record g { exclude_events = Some patterns }
with_patterns IncludeCategories patterns g = record g { include_categories = Some patterns }
with_patterns ExcludeCategories patterns g = record g { exclude_categories = Some patterns }
with_patterns IncludeThreads patterns g = record g { include_threads = Some patterns }
with_patterns ExcludeThreads patterns g = record g { exclude_threads = Some patterns }
with_patterns Always patterns g = record g { always = Some patterns }
with_patterns Describe patterns g = record g { describe = Some patterns }

-- An event pattern matches the class name, or the simple name.
abbrev pub event_matches : List ℕ → List ℕ → Bool
event_matches name pattern = glob pattern name || glob pattern (simple_name name)

-- A time window is given: its first moment, the first one after it, or both.
abbrev pub has_window : Given → Bool
has_window g = is_some g.from || is_some g.to

-- The events of a class with this name are kept whatever the window.
abbrev pub is_always : Given → List ℕ → Bool
is_always g name = option_map_or (list_any (event_matches name)) g.always false

-- A class with this name is described even if no event of it is kept.
abbrev pub describes : Given → List ℕ → Bool
describes g name = option_map_or (list_any (event_matches name)) g.describe false

-- A category pattern matches one of the categories.
abbrev pub category_matches : List (List ℕ) → List ℕ → Bool
category_matches categories pattern = list_any (glob pattern) categories

-- A thread pattern matches the thread text, if there is one.
abbrev pub thread_matches : Option (List ℕ) → List ℕ → Bool
thread_matches thread pattern = option_map_or (glob pattern) thread false

-- An include option allows an event if one of its patterns matches, an exclude option if none does.
abbrev pub allows : (List ℕ → Bool) → Option (List (List ℕ)) → Option (List (List ℕ)) → Bool
allows matches include exclude = option_map_or (list_any matches) include true && not (option_map_or (list_any matches) exclude false)

-- The options for events allow the class name, and those for categories the class's categories.
unfoldable pub allows_class : Given → List ℕ → List (List ℕ) → Bool
allows_class g name categories =
    allows (event_matches name) g.include_events g.exclude_events
    && allows (category_matches categories) g.include_categories g.exclude_categories

-- The options for threads allow the thread text, or that there is none.
unfoldable pub allows_thread : Given → Option (List ℕ) → Bool
allows_thread g thread = allows (thread_matches thread) g.include_threads g.exclude_threads

-- An event is kept if every given option allows it, the time window aside.
unfoldable pub keeps : Given → List ℕ → List (List ℕ) → Option (List ℕ) → Bool
keeps g name categories thread =
    allows (event_matches name) g.include_events g.exclude_events
    && (allows (category_matches categories) g.include_categories g.exclude_categories
    && allows (thread_matches thread) g.include_threads g.exclude_threads)

-- A pattern of an option matches a text: a category or a thread text for the options for these, a class name for
-- the others.
abbrev pub side_matches : Side → List ℕ → List ℕ → Bool
side_matches IncludeEvents name pattern = event_matches name pattern
side_matches ExcludeEvents name pattern = event_matches name pattern
side_matches Always name pattern = event_matches name pattern
side_matches Describe name pattern = event_matches name pattern
side_matches _ text pattern = glob pattern text

-- Some pattern of the option matches the text.
abbrev pub some_matches : Given → Side → List ℕ → Bool
some_matches g side text = option_map_or (list_any (side_matches side text)) (given_at side g) false

-- An include and an exclude option allow these texts: the first, if it is given, matches one of them, and the
-- second none.
abbrev pub allows_texts : Given → Side → Side → List (List ℕ) → Bool
allows_texts g include exclude texts =
    (not (is_some (given_at include g)) || list_any (some_matches g include) texts) && not (list_any (some_matches g exclude) texts)
