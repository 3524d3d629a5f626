-- Options that take the next word.
use Rattle.std.specs.Prelude.{◌≡◌, ℕ, List, [], ◌∷◌, drop, Option, Some, option_and_then, slice_get}
use Rattle.std.specs.Option.{option_map_or}
use Rattle.std.proofs.Common.{ap, refl, sym, ◌∙◌}
use Rattle.jfr_filter.specs.Filters.{Given}
use Rattle.jfr_words.specs.declared.order.Order.{Order}
use Rattle.jfr_words.specs.FilterOptions.{FilterOption, filter_option_of, given_with}
use Rattle.jfr_words.specs.Filtered.{filtered_from}

-- How a command's words are read, from what is given so far.
pub record Reads {G O X : Type 0} (from : G → List (List ℕ) → Option X) (option : List ℕ → Option O) (given : O → List ℕ → G → Option G) (named : G → List (List ℕ) → Option X) : Type 0 where
  pub on : (g : G) (word next : List ℕ) (rest : List (List ℕ))
      → from g (word ∷ next ∷ rest) ≡ option_map_or (λ o. option_and_then (λ h. from h rest) (given o next g)) (option word) (named g (word ∷ next ∷ rest))

-- Where an option took the next word, the words after it give what all gave.
pub option_taken : {G O X : Type 0} (from : G → List (List ℕ) → Option X) (option : List ℕ → Option O) (given : O → List ℕ → G → Option G) (named : G → List (List ℕ) → Option X)
    → Reads from option given named
    → (g h : G) (o : O) (next : List ℕ) (before unread rest : List (List ℕ)) → Some o ≡ option_and_then option (slice_get before 0) → unread ≡ drop 1 before → unread ≡ next ∷ rest
    → given o next g ≡ Some h → from h rest ≡ from g before
option_taken from option given named reads g h o next [] unread rest e l m f = cc
option_taken from option given named reads g h o next (word ∷ []) unread rest e l m f = cc
option_taken {G = G} from option given named reads g h o next (word ∷ second ∷ others) unread rest e l m f =
    let s : second ≡ next = cc in
    let r : others ≡ rest = cc in
    sym
    (reads.on g word second others
    ∙ ap (λ z. option_map_or (λ p. option_and_then (λ k. from k others) (given p second g)) z (named g (word ∷ second ∷ others))) (sym e)
    ∙ ap (λ z. option_and_then (λ k. from k others) (given o z g)) s
    ∙ ap (λ z. option_and_then (λ k. from k others) z) f
    ∙ ap (from h) r)

module _ (named : Given → List (List ℕ) → Option Order) where
  reads_filter : Reads (filtered_from named) filter_option_of given_with named
  reads_filter = record { on = λ g word next rest. refl }

  -- An option took the next word as its value.
  pub filter_taken : (g h : Given) (option : FilterOption) (next : List ℕ) (before unread rest : List (List ℕ)) → Some option ≡ option_and_then filter_option_of (slice_get before 0)
      → unread ≡ drop 1 before → unread ≡ next ∷ rest → given_with option next g ≡ Some h → filtered_from named h rest ≡ filtered_from named g before
  filter_taken = option_taken (filtered_from named) filter_option_of given_with named reads_filter
