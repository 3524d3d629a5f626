-- The words after a command whose options are those of a filter.
use Rattle.std.specs.Prelude.{◌≡◌, ℕ, List, [], ◌∷◌, Option, None, option_and_then, Result, Ok, Err, ⊤}
use Rattle.std.specs.Option.{option_map_or}
use Rattle.jfr_filter.specs.Filters.{Given, nothing_given}
use Rattle.jfr_words.specs.declared.order.Order.{Order}
use Rattle.jfr_words.specs.declared.order.WordsFault.{WordsFault}
use Rattle.jfr_words.specs.declared.order.WordsFault.TheVariants.{Usage, Memory}
use Rattle.jfr_words.specs.FilterOptions.{filter_option_of, given_with}

-- What the words give, with these options of the filter given so far: an option takes the next word, whatever
-- it is, as its value; after the options come the names.
abbrev pub filtered_from : (Given → List (List ℕ) → Option Order) → Given → List (List ℕ) → Option Order
filtered_from named g [] = named g []
filtered_from named g (word ∷ []) = option_map_or (λ option. None) (filter_option_of word) (named g (word ∷ []))
filtered_from named g (word ∷ next ∷ rest) =
    option_map_or (λ option. option_and_then (λ h. filtered_from named h rest) (given_with option next g)) (filter_option_of word) (named g (word ∷ next ∷ rest))

-- After a success the words give what the filter and the words left give as names; a usage fault means that
-- they give nothing; running out of memory says nothing.
abbrev pub IsFiltered : List (List ℕ) → Result Given WordsFault → List (List ℕ) → Type 0
IsFiltered before (Ok filter) unread = (named : Given → List (List ℕ) → Option Order) → filtered_from named nothing_given before ≡ named filter unread
IsFiltered before (Err Usage) unread = (named : Given → List (List ℕ) → Option Order) → filtered_from named nothing_given before ≡ None
IsFiltered before (Err Memory) unread = ⊤
