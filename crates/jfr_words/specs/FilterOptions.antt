-- The options of a filter, each by itself.
use Rattle.std.specs.Prelude.{ℕ, ℤ, pos, List, Option, None, Some, option_map, if◌then◌else◌, codes}
use Rattle.std.specs.Option.{is_some}
use Rattle.std.specs.Str.{bytes_eq}
use Rattle.jfr_filter.specs.declared.side.Side.TheVariants.{IncludeEvents, ExcludeEvents, IncludeCategories, ExcludeCategories, IncludeThreads, ExcludeThreads, Always, Describe}
use Rattle.jfr_filter.specs.Filters.{Given}
pub use Rattle.jfr_words.specs.declared.filter_option.FilterOption.{FilterOption}
use Rattle.jfr_words.specs.declared.filter_option.FilterOption.TheVariants.{Patterns, From, To}
use Rattle.jfr_words.specs.Numbers.{number_in}
use Rattle.jfr_words.specs.Patterns.{given_patterns}

-- The option about a time window that a word names.
abbrev pub window_option_of : List ℕ → Option FilterOption
window_option_of word =
    if bytes_eq word (codes "--from") then Some From else
    if bytes_eq word (codes "--to") then Some To else
    if bytes_eq word (codes "--always") then Some (Patterns Always) else
    None

-- The option of a filter that a word names in `scrub`, `receipt`, `verify` and `mask`.
abbrev pub filter_option_of : List ℕ → Option FilterOption
filter_option_of word =
    if bytes_eq word (codes "--include-events") then Some (Patterns IncludeEvents) else
    if bytes_eq word (codes "--exclude-events") then Some (Patterns ExcludeEvents) else
    if bytes_eq word (codes "--include-categories") then Some (Patterns IncludeCategories) else
    if bytes_eq word (codes "--exclude-categories") then Some (Patterns ExcludeCategories) else
    if bytes_eq word (codes "--include-threads") then Some (Patterns IncludeThreads) else
    if bytes_eq word (codes "--exclude-threads") then Some (Patterns ExcludeThreads) else
    if bytes_eq word (codes "--describe") then Some (Patterns Describe) else
    window_option_of word

-- The option of a filter that a word names in `print` and `stacks`, which show an event if its name, or its
-- category, is included.
abbrev pub shown_option_of : List ℕ → Option FilterOption
shown_option_of word =
    if bytes_eq word (codes "--events") then Some (Patterns IncludeEvents) else
    if bytes_eq word (codes "--categories") then Some (Patterns IncludeCategories) else
    window_option_of word

-- The moment that a word spells, in nanoseconds since 1970: one to nineteen digits, below 2 ^ 63.
abbrev pub moment_in : List ℕ → Option ℤ
moment_in word = option_map (λ n. pos n) (number_in 0 9223372036854775807 word)

-- The options with this one set to the word; none if it was given before or the word is not a value of it.
abbrev pub given_with : FilterOption → List ℕ → Given → Option Given
given_with (Patterns side) word g = given_patterns side word g
given_with From word g = if is_some g.from then None else option_map (λ moment. record g { from = Some moment }) (moment_in word)
given_with To word g = if is_some g.to then None else option_map (λ moment. record g { to = Some moment }) (moment_in word)
