-- The words after `scrub`.
use Rattle.std.specs.Prelude.{ℕ, Bool, true, false, List, ◌∷◌, Option, None, Some, option_map, option_and_then, unwrap_or, if◌then◌else◌, codes}
use Rattle.std.specs.Option.{is_some, option_map_or}
use Rattle.std.specs.Str.{bytes_eq}
use Rattle.jfr_filter.specs.Filters.{nothing_given}
use Rattle.jfr_words.specs.declared.order.Order.{Order}
use Rattle.jfr_words.specs.declared.order.Order.TheVariants.{Scrub}
pub use Rattle.jfr_words.specs.declared.scrub.ScrubOption.{ScrubOption}
use Rattle.jfr_words.specs.declared.scrub.ScrubOption.TheVariants.{Filter, Renumber}
pub use Rattle.jfr_words.specs.declared.scrub.ScrubSettings.{ScrubSettings}
use Rattle.jfr_words.specs.FilterOptions.{filter_option_of, given_with}
use Rattle.jfr_words.specs.Names.{two_names}

-- The option of `scrub` that a word names: an option of its filter, or `--renumber`.
abbrev pub scrub_option_of : List ℕ → Option ScrubOption
scrub_option_of word = if bytes_eq word (codes "--renumber") then Some Renumber else option_map (λ option. Filter option) (filter_option_of word)

-- No options given.
abbrev pub no_scrub_option : ScrubSettings
no_scrub_option = record { filter = nothing_given; renumber = None }

-- The answer that a word gives.
abbrev pub yes_or_no : List ℕ → Option Bool
yes_or_no word =
    if bytes_eq word (codes "yes") then Some true else
    if bytes_eq word (codes "no") then Some false else
    None

-- The options with this one set to the next word; none if it was given before or the word is not a value of
-- it.
abbrev pub scrub_with : ScrubOption → List ℕ → ScrubSettings → Option ScrubSettings
scrub_with (Filter option) next g = option_map (λ h. record g { filter = h }) (given_with option next g.filter)
scrub_with Renumber next g = if is_some g.renumber then None else option_map (λ b. record g { renumber = Some b }) (yes_or_no next)

-- The order with these options, if the input and the output are the only words left. Without `--renumber` the
-- keys of constants stay.
abbrev pub scrub_named : ScrubSettings → List (List ℕ) → Option Order
scrub_named g words = option_map (λ names. Scrub g.filter (unwrap_or g.renumber false) names.0 names.1) (two_names words)

-- The order of the words after `scrub`, with these options given so far: an option takes the next word,
-- whatever it is, as its value; after the options come the names.
abbrev pub scrub_from : ScrubSettings → List (List ℕ) → Option Order
scrub_from g (word ∷ next ∷ rest) = option_map_or (λ option. option_and_then (λ h. scrub_from h rest) (scrub_with option next g)) (scrub_option_of word) (scrub_named g (word ∷ next ∷ rest))
scrub_from g words = scrub_named g words
