-- The words after `stacks`.
use Rattle.std.specs.Prelude.{ℕ, List, ◌∷◌, Option, option_map, option_and_then}
use Rattle.std.specs.Option.{option_map_or}
use Rattle.jfr_filter.specs.Filters.{Given}
use Rattle.jfr_words.specs.declared.order.Order.{Order}
use Rattle.jfr_words.specs.declared.order.Order.TheVariants as orders
pub use Rattle.jfr_words.specs.declared.stacks.StacksOption.{StacksOption}
use Rattle.jfr_words.specs.FilterOptions.{shown_option_of, given_with}
use Rattle.jfr_words.specs.Names.{only_name}

-- The option of `stacks` that a word names.
abbrev pub stacks_option_of : List ℕ → Option StacksOption
stacks_option_of word = option_map (λ option. record { 0 = option }) (shown_option_of word)

-- The options with this one set to the word; none if it was given before or the word is not a value of it.
abbrev pub stacks_with : StacksOption → List ℕ → Given → Option Given
stacks_with option word g = given_with option.0 word g

-- The order with these options, if the file is the only word left.
abbrev pub stacks_named : Given → List (List ℕ) → Option Order
stacks_named g words = option_map (λ file. orders.Stacks g file) (only_name words)

-- The order of the words after `stacks`, with these options given so far: an option takes the next word,
-- whatever it is, as its value; after the options comes the name.
abbrev pub stacks_from : Given → List (List ℕ) → Option Order
stacks_from g (word ∷ next ∷ rest) = option_map_or (λ option. option_and_then (λ h. stacks_from h rest) (stacks_with option next g)) (stacks_option_of word) (stacks_named g (word ∷ next ∷ rest))
stacks_from g words = stacks_named g words
