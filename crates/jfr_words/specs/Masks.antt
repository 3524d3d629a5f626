-- The words after `mask`.
use Rattle.std.specs.Prelude.{ℕ, Bool, false, List, ◌∷◌, Option, None, Some, option_map, option_and_then, if◌then◌else◌, codes}
use Rattle.std.specs.Option.{is_some, option_map_or}
use Rattle.std.specs.Str.{bytes_eq}
use Rattle.jfr_filter.specs.Filters.{nothing_given}
use Rattle.jfr_filter.specs.Patterns.{patterns_in, has_empty_part}
use Rattle.jfr_words.specs.declared.order.Order.{Order}
use Rattle.jfr_words.specs.declared.order.Order.TheVariants.{Mask}
pub use Rattle.jfr_words.specs.declared.mask.MaskOption.{MaskOption}
use Rattle.jfr_words.specs.declared.mask.MaskOption.TheVariants.{Filter, Strings, Except, Known, Table}
pub use Rattle.jfr_words.specs.declared.mask.MaskSettings.{MaskSettings}
use Rattle.jfr_words.specs.FilterOptions.{filter_option_of, given_with}
use Rattle.jfr_words.specs.Names.{name_in, two_names}

-- The option of `mask` that a word names: one of its own, or an option of its filter.
abbrev pub mask_option_of : List ℕ → Option MaskOption
mask_option_of word =
    if bytes_eq word (codes "--strings") then Some Strings else
    if bytes_eq word (codes "--except") then Some Except else
    if bytes_eq word (codes "--known") then Some Known else
    if bytes_eq word (codes "--table") then Some Table else
    option_map (λ option. Filter option) (filter_option_of word)

-- No options given.
abbrev pub no_mask_option : MaskSettings
no_mask_option = record { filter = nothing_given; strings = None; except = None; known = None; table = None }

-- The patterns in a list, if none of them is empty.
abbrev pub list_in : List ℕ → Option (List (List ℕ))
list_in list = if has_empty_part list then None else Some (patterns_in list)

-- Whether an option has been given. False for those of the filter, for which `given_with` looks.
abbrev pub is_mask_given : MaskOption → MaskSettings → Bool
is_mask_given (Filter option) g = false
is_mask_given Strings g = is_some g.strings
is_mask_given Except g = is_some g.except
is_mask_given Known g = is_some g.known
is_mask_given Table g = is_some g.table

-- The options with this one set to the word, if the word is a value of it.
abbrev pub mask_set : MaskOption → List ℕ → MaskSettings → Option MaskSettings
mask_set (Filter option) value g = option_map (λ h. record g { filter = h }) (given_with option value g.filter)
mask_set Strings value g = option_map (λ list. record g { strings = Some list }) (list_in value)
mask_set Except value g = option_map (λ list. record g { except = Some list }) (list_in value)
mask_set Known value g = option_map (λ name. record g { known = Some name }) (name_in value)
mask_set Table value g = option_map (λ name. record g { table = Some name }) (name_in value)

-- The options with this one set to the word; none if it was given before or the word is not a value of it.
abbrev pub mask_with : MaskOption → List ℕ → MaskSettings → Option MaskSettings
mask_with option value g = if is_mask_given option g then None else mask_set option value g

-- The order with these options, if `--strings` is one of them, and the input and the output are the only words
-- left.
abbrev pub mask_named : MaskSettings → List (List ℕ) → Option Order
mask_named g words = option_and_then (λ strings. option_map (λ names. Mask g.filter strings g.except g.known g.table names.0 names.1) (two_names words)) g.strings

-- The order of the words after `mask`, with these options given so far: an option takes the next word, whatever
-- it is, as its value; after the options come the names.
abbrev pub mask_from : MaskSettings → List (List ℕ) → Option Order
mask_from g (word ∷ next ∷ rest) = option_map_or (λ option. option_and_then (λ h. mask_from h rest) (mask_with option next g)) (mask_option_of word) (mask_named g (word ∷ next ∷ rest))
mask_from g words = mask_named g words
