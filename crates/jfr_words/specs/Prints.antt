-- The words after `print`.
use Rattle.std.specs.Prelude.{ℕ, true, false, List, ◌∷◌, Option, None, Some, option_map, option_and_then, unwrap_or, if◌then◌else◌, codes}
use Rattle.std.specs.Option.{is_some, option_map_or}
use Rattle.std.specs.Str.{bytes_eq}
use Rattle.jfr_filter.specs.Filters.{nothing_given}
use Rattle.jfr_words.specs.declared.order.Order.{Order}
use Rattle.jfr_words.specs.declared.order.Order.TheVariants.{Print}
pub use Rattle.jfr_words.specs.declared.print.PrintOption.{PrintOption}
use Rattle.jfr_words.specs.declared.print.PrintOption.TheVariants.{Filter, Depth, Json}
pub use Rattle.jfr_words.specs.declared.print.PrintSettings.{PrintSettings}
use Rattle.jfr_words.specs.FilterOptions.{shown_option_of, given_with}
use Rattle.jfr_words.specs.Names.{only_name}
use Rattle.jfr_words.specs.Numbers.{number_in}

-- The option of `print` that a word names.
abbrev pub print_option_of : List ℕ → Option PrintOption
print_option_of word =
    if bytes_eq word (codes "--depth") then Some Depth else
    if bytes_eq word (codes "--json") then Some Json else
    option_map (λ option. Filter option) (shown_option_of word)

-- No options given.
abbrev pub no_print_option : PrintSettings
no_print_option = record { filter = nothing_given; depth = None; json = false }

-- The options with this one set to the next word; none if it was given before or the word is not a value of
-- it. `--json` doesn't look at the word.
abbrev pub print_with : PrintOption → List ℕ → PrintSettings → Option PrintSettings
print_with (Filter option) next g = option_map (λ h. record g { filter = h }) (given_with option next g.filter)
print_with Depth next g = if is_some g.depth then None else option_map (λ d. record g { depth = Some d }) (number_in 0 8 next)
print_with Json next g = if g.json then None else Some (record g { json = true })

-- Reading continues at the next word after `--json`, and after the next word for every other option, which
-- takes it as its value.
abbrev pub print_goes_on : {X : Type 0} → PrintOption → X → X → X
print_goes_on Json at_next after_it = at_next
print_goes_on _ at_next after_it = after_it

-- The order with these options, if the file is the only word left. Without `--depth` the depth is 2.
abbrev pub print_named : PrintSettings → List (List ℕ) → Option Order
print_named g words = option_map (λ file. Print g.filter (unwrap_or g.depth 2) g.json file) (only_name words)

-- The order of the words after `print`, with these options given so far: options come first, whose values may
-- be any words, then the name.
abbrev pub print_from : PrintSettings → List (List ℕ) → Option Order
print_from g (word ∷ next ∷ rest) =
    option_map_or (λ option. option_and_then (λ h. print_goes_on option (print_from h (next ∷ rest)) (print_from h rest)) (print_with option next g))
    (print_option_of word)
    (print_named g (word ∷ next ∷ rest))
print_from g words = print_named g words
