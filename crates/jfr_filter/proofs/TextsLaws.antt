-- What is asked of a class, text by text.
use Rattle.std.specs.Prelude.{◌≡◌, ℕ, Bool, true, false, ◌&&◌, ◌||◌, not, List, [], ◌∷◌, Option, Some, None, is_some}
use Rattle.std.specs.List.{list_any}
use Rattle.std.specs.Option.{option_map_or}
use Rattle.std.proofs.Common.{ap, refl, sym, ◌∙◌}
use Rattle.jfr_filter.specs.declared.side.Side.TheVariants.{IncludeEvents, ExcludeEvents, IncludeCategories, ExcludeCategories}
use Rattle.jfr_filter.specs.Patterns.{glob}
use Rattle.jfr_filter.specs.Filters.{Given, event_matches, category_matches, allows, allows_class, allows_texts}
use Rattle.jfr_filter.proofs.AnyLaws.{any_swap}

-- Some pattern of an option matches the text, if the option is given.
abbrev given_matches : (List ℕ → List ℕ → Bool) → Option (List (List ℕ)) → List ℕ → Bool
given_matches matches patterns text = option_map_or (list_any (matches text)) patterns false

-- Both options by their texts.
abbrev text_by_text : (List ℕ → List ℕ → Bool) → Option (List (List ℕ)) → Option (List (List ℕ)) → List (List ℕ) → Bool
text_by_text matches include exclude texts =
    (not (is_some include) || list_any (given_matches matches include) texts) && not (list_any (given_matches matches exclude) texts)

-- No pattern of an option that isn't given matches a text.
none_given : (matches : List ℕ → List ℕ → Bool) (texts : List (List ℕ)) → list_any (given_matches matches None) texts ≡ false
none_given matches [] = refl
none_given matches (text ∷ texts) = none_given matches texts

or_false : (b : Bool) → (b || false) ≡ b
or_false true = refl
or_false false = refl

-- The options over events, for one name.
of_name : (name : List ℕ) (include exclude : Option (List (List ℕ))) → allows (event_matches name) include exclude ≡ text_by_text event_matches include exclude (name ∷ [])
of_name name None None = refl
of_name name None (Some xs) = ap not (sym (or_false (list_any (event_matches name) xs)))
of_name name (Some is) None = ap (λ b. b && true) (sym (or_false (list_any (event_matches name) is)))
of_name name (Some is) (Some xs) = ap (λ b. b && not (list_any (event_matches name) xs)) (sym (or_false (list_any (event_matches name) is)))
    ∙ ap (λ b. (list_any (event_matches name) is || false) && not b) (sym (or_false (list_any (event_matches name) xs)))

abbrev glob_of : List ℕ → List ℕ → Bool
glob_of text pattern = glob pattern text

swapped : (texts patterns : List (List ℕ)) → list_any (category_matches texts) patterns ≡ list_any (given_matches glob_of (Some patterns)) texts
swapped texts patterns = sym (any_swap glob patterns texts)

-- The options over categories, for a list of them.
of_categories : (texts : List (List ℕ)) (include exclude : Option (List (List ℕ))) → allows (category_matches texts) include exclude ≡ text_by_text glob_of include exclude texts
of_categories texts None None = ap not (sym (none_given glob_of texts))
of_categories texts None (Some xs) = ap not (swapped texts xs)
of_categories texts (Some is) None = ap (λ b. b && true) (swapped texts is) ∙ ap (λ b. list_any (given_matches glob_of (Some is)) texts && not b) (sym (none_given glob_of texts))
of_categories texts (Some is) (Some xs) =
    ap (λ b. b && not (list_any (category_matches texts) xs)) (swapped texts is) ∙ ap (λ b. list_any (given_matches glob_of (Some is)) texts && not b) (swapped texts xs)

-- A class is allowed by its name and by its categories, each by itself.
pub class_by_texts : (g : Given) (name : List ℕ) (categories : List (List ℕ))
    → allows_class g name categories ≡ (allows_texts g IncludeEvents ExcludeEvents (name ∷ []) && allows_texts g IncludeCategories ExcludeCategories categories)
unfolding allows_class
class_by_texts g name categories =
    ap (λ b. b && allows (category_matches categories) g.include_categories g.exclude_categories) (of_name name g.include_events g.exclude_events)
    ∙ ap (λ b. text_by_text event_matches g.include_events g.exclude_events (name ∷ []) && b) (of_categories categories g.include_categories g.exclude_categories)
