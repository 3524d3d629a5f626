-- The options of a filter, each of which sets a field of its own.
use Rattle.std.specs.Prelude.{◌≡◌, ◌≢◌, ◌⊎◌, ℕ, ℤ, ◌==◌, Bool, true, false, ◌||◌, if◌then◌else◌, List, [], ◌∷◌, Option, None, Some, option_map, is_some}
use Rattle.std.proofs.Common.{refl, sym, ap, ◌∙◌, inl, inr, arith}
use Rattle.std.proofs.Math.ListN.{get_or, set as set_at}
use Rattle.std.proofs.lemmas.Bool.Decides.{nat_tests}
use Rattle.std.proofs.lemmas.List.{get_or-set_other, set_comm}
use Rattle.jfr_filter.specs.declared.side.Side.TheVariants.{IncludeEvents, ExcludeEvents, IncludeCategories, ExcludeCategories, IncludeThreads, ExcludeThreads, Always, Describe}
use Rattle.jfr_filter.specs.Filters.{Given, given_at, with_patterns}
use Rattle.jfr_filter.specs.Patterns.{patterns_in, has_empty_part}
use Rattle.jfr_words.specs.declared.filter_option.FilterOption.{FilterOption}
use Rattle.jfr_words.specs.declared.filter_option.FilterOption.TheVariants.{Patterns, From, To}
use Rattle.jfr_words.specs.FilterOptions.{moment_in, given_with}
use Rattle.jfr_words.proofs.Settings.{set, Apart, Settles, settles}

-- The value of an option.
abbrev pub FilterValue : FilterOption → Type 0
FilterValue (Patterns side) = List (List ℕ)
FilterValue From = ℤ
FilterValue To = ℤ

abbrev pub has_filter : FilterOption → Given → Bool
has_filter (Patterns side) g = is_some (given_at side g)
has_filter From g = is_some g.from
has_filter To g = is_some g.to

abbrev pub put_filter : (o : FilterOption) → FilterValue o → Given → Given
put_filter (Patterns side) patterns g = with_patterns side patterns g
put_filter From moment g = record g { from = Some moment }
put_filter To moment g = record g { to = Some moment }

abbrev pub filter_value : (o : FilterOption) → List ℕ → Option (FilterValue o)
filter_value (Patterns side) list = if has_empty_part list then None else Some (patterns_in list)
filter_value From word = moment_in word
filter_value To word = moment_in word

pub filter_set : (o : FilterOption) (v : List ℕ) (g : Given) → given_with o v g ≡ set (has_filter o) (put_filter o) (filter_value o v) g
filter_set (Patterns side) list g = by_tests (has_filter (Patterns side) g) (has_empty_part list)
  where
    by_tests : (s t : Bool)
        → (if s || t then None else Some (with_patterns side (patterns_in list) g)) ≡ (if s then None else option_map (λ x. with_patterns side x g) (if t then None else Some (patterns_in list)))
    by_tests true t = refl
    by_tests false true = refl
    by_tests false false = refl
filter_set From word g = refl
filter_set To word g = refl

-- A field: patterns or a moment, if given.
abbrev Field : Type 0
Field = Option (List (List ℕ)) ⊎ Option ℤ

abbrev is_given : Field → Bool
is_given (inl patterns) = is_some patterns
is_given (inr moment) = is_some moment

abbrev patterns_at : Field → Option (List (List ℕ))
patterns_at (inl patterns) = patterns
patterns_at (inr moment) = None

abbrev moment_at : Field → Option ℤ
moment_at (inl patterns) = None
moment_at (inr moment) = moment

-- The fields in a list, and back.
abbrev fields : Given → List Field
fields g = inl g.include_events ∷ inl g.exclude_events ∷ inl g.include_categories ∷ inl g.exclude_categories ∷ inl g.include_threads ∷ inl g.exclude_threads ∷ inr g.from ∷ inr g.to ∷ inl g.always
    ∷ inl g.describe ∷ []

abbrev field_at : ℕ → List Field → Field
field_at i fs = get_or fs i (inl None)

abbrev of_fields : List Field → Given
of_fields fs = record {
  include_events = patterns_at (field_at 0 fs);
  exclude_events = patterns_at (field_at 1 fs);
  include_categories = patterns_at (field_at 2 fs);
  exclude_categories = patterns_at
      (field_at 3 fs);
  include_threads = patterns_at (field_at 4 fs);
  exclude_threads = patterns_at (field_at 5 fs);
  from = moment_at (field_at 6 fs);
  to = moment_at (field_at 7 fs);
  always =
      patterns_at (field_at 8 fs);
  describe = patterns_at (field_at 9 fs);
}

same_given : (g h : Given) → fields g ≡ fields h → g ≡ h
same_given g h e = ap of_fields e

-- The field that an option sets, and the option that sets a field.
abbrev place : FilterOption → ℕ
place (Patterns IncludeEvents) = 0
place (Patterns ExcludeEvents) = 1
place (Patterns IncludeCategories) = 2
place (Patterns ExcludeCategories) = 3
place (Patterns IncludeThreads) = 4
place (Patterns ExcludeThreads) = 5
place From = 6
place To = 7
place (Patterns Always) = 8
place (Patterns Describe) = 9

abbrev option_at : ℕ → FilterOption
option_at i = get_or (Patterns IncludeEvents ∷ Patterns ExcludeEvents ∷ Patterns IncludeCategories ∷ Patterns ExcludeCategories ∷ Patterns IncludeThreads ∷ Patterns ExcludeThreads ∷ From ∷ To
    ∷ Patterns Always ∷ Patterns Describe ∷ []) i To

abbrev field_of : (o : FilterOption) → FilterValue o → Field
field_of (Patterns side) patterns = inl (Some patterns)
field_of From moment = inr (Some moment)
field_of To moment = inr (Some moment)

-- An option sets its own field.
record SetsField (o : FilterOption) : Type 0 where
  only : option_at (place o) ≡ o
  has : (g : Given) → has_filter o g ≡ is_given (field_at (place o) (fields g))
  put : (x : FilterValue o) (g : Given) → fields (put_filter o x g) ≡ set_at (fields g) (place o) (field_of o x)
  is : (x : FilterValue o) (g : Given) → has_filter o (put_filter o x g) ≡ true

sets_field : (o : FilterOption) → SetsField o
sets_field (Patterns IncludeEvents) = record { only = refl; has = λ g. refl; put = λ x g. refl; is = λ x g. refl }
sets_field (Patterns ExcludeEvents) = record { only = refl; has = λ g. refl; put = λ x g. refl; is = λ x g. refl }
sets_field (Patterns IncludeCategories) = record { only = refl; has = λ g. refl; put = λ x g. refl; is = λ x g. refl }
sets_field (Patterns ExcludeCategories) = record { only = refl; has = λ g. refl; put = λ x g. refl; is = λ x g. refl }
sets_field (Patterns IncludeThreads) = record { only = refl; has = λ g. refl; put = λ x g. refl; is = λ x g. refl }
sets_field (Patterns ExcludeThreads) = record { only = refl; has = λ g. refl; put = λ x g. refl; is = λ x g. refl }
sets_field From = record { only = refl; has = λ g. refl; put = λ x g. refl; is = λ x g. refl }
sets_field To = record { only = refl; has = λ g. refl; put = λ x g. refl; is = λ x g. refl }
sets_field (Patterns Always) = record { only = refl; has = λ g. refl; put = λ x g. refl; is = λ x g. refl }
sets_field (Patterns Describe) = record { only = refl; has = λ g. refl; put = λ x g. refl; is = λ x g. refl }

pub filter_is : (o : FilterOption) (x : FilterValue o) (g : Given) → has_filter o (put_filter o x g) ≡ true
filter_is o = (sets_field o).is

-- The field of another option stays as it is.
stays : (o p : FilterOption) → (place p ≢ place o) → (x : FilterValue o) (g : Given) → has_filter p (put_filter o x g) ≡ has_filter p g
stays o p n x g =
    (sets_field p).has (put_filter o x g)
    ∙ ap (λ fs. is_given (field_at (place p) fs)) ((sets_field o).put x g)
    ∙ ap is_given (get_or-set_other (fields g) (place o) (place p) (field_of o x) (inl None) n)
    ∙ sym ((sets_field p).has g)

both_set : (o p : FilterOption) (x : FilterValue o) (y : FilterValue p) (g : Given)
    → fields (put_filter p y (put_filter o x g)) ≡ set_at (set_at (fields g) (place o) (field_of o x)) (place p) (field_of p y)
both_set o p x y g = (sets_field p).put y (put_filter o x g) ∙ ap (λ fs. set_at fs (place p) (field_of p y)) ((sets_field o).put x g)

apart : (o p : FilterOption) → (place o ≢ place p) → Apart (has_filter o) (put_filter o) (has_filter p) (put_filter p)
apart o p n = record {
  on = stays o p (λ e. n (sym e));
  back = stays p o n;
  both = λ x y g. same_given _ _ (both_set o p x y g ∙ set_comm (fields g) (place o) (place p) (field_of o x) (field_of p y) n ∙ sym (both_set p o y x g));
}

pub which_filter : (o p : FilterOption) → (o ≡ p) ⊎ Apart (has_filter o) (put_filter o) (has_filter p) (put_filter p)
which_filter o p = by_test (place o == place p) refl
  where
    by_test : (t : Bool) → (place o == place p) ≡ t → (o ≡ p) ⊎ Apart (has_filter o) (put_filter o) (has_filter p) (put_filter p)
    by_test true e = let same : place o ≡ place p = grind (arith, nat_tests) in inl (sym (sets_field o).only ∙ ap option_at same ∙ (sets_field p).only)
    by_test false e = inr (apart o p (λ f. (let g : (place o == place p) ≡ true = grind (arith, nat_tests) in cc)))

pub filters_settle : Settles given_with
filters_settle = settles given_with FilterValue has_filter put_filter filter_value filter_set filter_is which_filter
