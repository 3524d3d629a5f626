-- The patterns of an option, in the map that has them.
use Rattle.std.specs.Prelude.{◌≡◌, ℕ, ℤ, Bool, cond, List, [], ◌∷◌, Option, Some}
use Rattle.std.specs.BTreeMap.{is_at}
use Rattle.std.specs.Map.{lookup}
use Rattle.std.specs.Ordering.{nat_cmp, is_eq}
use Rattle.std.proofs.Common.{refl, ap, sym, ◌∙◌}
use Rattle.jfr_filter.specs.contracts.side.SideOrd.TheImpl.{cmp-value}
use Rattle.jfr_filter.specs.declared.side.Side.{Side}
use Rattle.jfr_filter.specs.declared.side.Side.TheVariants.{IncludeEvents, ExcludeEvents, IncludeCategories, ExcludeCategories, IncludeThreads, ExcludeThreads, Always, Describe}
use Rattle.jfr_filter.specs.Filters.{Given, given_at, with_patterns}
use Rattle.jfr_filter.specs.Options.{place_of, patterns_at, given_of}

-- Options are ordered by their places.
by_place : (a b : Side) → cmp-value.it a b ≡ nat_cmp (place_of a) (place_of b)
by_place IncludeEvents IncludeEvents = refl
by_place IncludeEvents ExcludeEvents = refl
by_place IncludeEvents IncludeCategories = refl
by_place IncludeEvents ExcludeCategories = refl
by_place IncludeEvents IncludeThreads = refl
by_place IncludeEvents ExcludeThreads = refl
by_place IncludeEvents Always = refl
by_place IncludeEvents Describe = refl
by_place ExcludeEvents IncludeEvents = refl
by_place ExcludeEvents ExcludeEvents = refl
by_place ExcludeEvents IncludeCategories = refl
by_place ExcludeEvents ExcludeCategories = refl
by_place ExcludeEvents IncludeThreads = refl
by_place ExcludeEvents ExcludeThreads = refl
by_place ExcludeEvents Always = refl
by_place ExcludeEvents Describe = refl
by_place IncludeCategories IncludeEvents = refl
by_place IncludeCategories ExcludeEvents = refl
by_place IncludeCategories IncludeCategories = refl
by_place IncludeCategories ExcludeCategories = refl
by_place IncludeCategories IncludeThreads = refl
by_place IncludeCategories ExcludeThreads = refl
by_place IncludeCategories Always = refl
by_place IncludeCategories Describe = refl
by_place ExcludeCategories IncludeEvents = refl
by_place ExcludeCategories ExcludeEvents = refl
by_place ExcludeCategories IncludeCategories = refl
by_place ExcludeCategories ExcludeCategories = refl
by_place ExcludeCategories IncludeThreads = refl
by_place ExcludeCategories ExcludeThreads = refl
by_place ExcludeCategories Always = refl
by_place ExcludeCategories Describe = refl
by_place IncludeThreads IncludeEvents = refl
by_place IncludeThreads ExcludeEvents = refl
by_place IncludeThreads IncludeCategories = refl
by_place IncludeThreads ExcludeCategories = refl
by_place IncludeThreads IncludeThreads = refl
by_place IncludeThreads ExcludeThreads = refl
by_place IncludeThreads Always = refl
by_place IncludeThreads Describe = refl
by_place ExcludeThreads IncludeEvents = refl
by_place ExcludeThreads ExcludeEvents = refl
by_place ExcludeThreads IncludeCategories = refl
by_place ExcludeThreads ExcludeCategories = refl
by_place ExcludeThreads IncludeThreads = refl
by_place ExcludeThreads ExcludeThreads = refl
by_place ExcludeThreads Always = refl
by_place ExcludeThreads Describe = refl
by_place Always IncludeEvents = refl
by_place Always ExcludeEvents = refl
by_place Always IncludeCategories = refl
by_place Always ExcludeCategories = refl
by_place Always IncludeThreads = refl
by_place Always ExcludeThreads = refl
by_place Always Always = refl
by_place Always Describe = refl
by_place Describe IncludeEvents = refl
by_place Describe ExcludeEvents = refl
by_place Describe IncludeCategories = refl
by_place Describe ExcludeCategories = refl
by_place Describe IncludeThreads = refl
by_place Describe ExcludeThreads = refl
by_place Describe Always = refl
by_place Describe Describe = refl

lookup_same : {X : Type 0} (f g : Side → Bool) → ((side : Side) → f side ≡ g side) → (entries : List (Side × X)) → lookup f entries ≡ lookup g entries
lookup_same f g h [] = refl
lookup_same f g h (e ∷ es) = ap (λ b. cond b (Some e.1) (lookup f es)) (h e.0) ∙ ap (cond (g e.0) (Some e.1)) (lookup_same f g h es)

looked_up : (entries : List (Side × List (List ℕ))) (side : Side) → lookup (is_at (cmp-value.it side)) entries ≡ patterns_at entries side
looked_up entries side = lookup_same _ _ (λ other. ap is_eq (by_place side other)) entries

-- A look-up in the map gives the patterns of the option.
pub patterns_found : (entries : List (Side × List (List ℕ))) (from to : Option ℤ) (side : Side) → lookup (is_at (cmp-value.it side)) entries ≡ given_at side (given_of entries from to)
patterns_found entries from to IncludeEvents = looked_up entries IncludeEvents
patterns_found entries from to ExcludeEvents = looked_up entries ExcludeEvents
patterns_found entries from to IncludeCategories = looked_up entries IncludeCategories
patterns_found entries from to ExcludeCategories = looked_up entries ExcludeCategories
patterns_found entries from to IncludeThreads = looked_up entries IncludeThreads
patterns_found entries from to ExcludeThreads = looked_up entries ExcludeThreads
patterns_found entries from to Always = looked_up entries Always
patterns_found entries from to Describe = looked_up entries Describe

-- A filter whose options have these patterns.
abbrev given_by : (Side → Option (List (List ℕ))) → Option ℤ → Option ℤ → Given
given_by f from to = record {
  include_events = f IncludeEvents;
  exclude_events = f ExcludeEvents;
  include_categories = f IncludeCategories;
  exclude_categories = f ExcludeCategories;
  include_threads =
      f IncludeThreads;
  exclude_threads = f ExcludeThreads;
  from = from;
  to = to;
  always = f Always;
  describe = f Describe;
}

same_given : (f g : Side → Option (List (List ℕ))) (from to : Option ℤ) → ((side : Side) → f side ≡ g side) → given_by f from to ≡ given_by g from to
same_given f g from to h =
    let e0 : f IncludeEvents ≡ g IncludeEvents = h IncludeEvents in
    let e1 : f ExcludeEvents ≡ g ExcludeEvents = h ExcludeEvents in
    let e2 : f IncludeCategories ≡ g IncludeCategories = h IncludeCategories in
    let e3 : f ExcludeCategories ≡ g ExcludeCategories = h ExcludeCategories in
    let e4 : f IncludeThreads ≡ g IncludeThreads = h IncludeThreads in
    let e5 : f ExcludeThreads ≡ g ExcludeThreads = h ExcludeThreads in
    let e6 : f Always ≡ g Always = h Always in
    let e7 : f Describe ≡ g Describe = h Describe in
    cc

with_one : (f : Side → Option (List (List ℕ))) (from to : Option ℤ) (side : Side) (patterns : List (List ℕ))
    → given_by (λ other. cond (is_at (cmp-value.it side) other) (Some patterns) (f other)) from to ≡ with_patterns side patterns (given_by f from to)
with_one f from to IncludeEvents patterns = refl
with_one f from to ExcludeEvents patterns = refl
with_one f from to IncludeCategories patterns = refl
with_one f from to ExcludeCategories patterns = refl
with_one f from to IncludeThreads patterns = refl
with_one f from to ExcludeThreads patterns = refl
with_one f from to Always patterns = refl
with_one f from to Describe patterns = refl

-- An option that is set in the map has these patterns, and the others have theirs.
pub patterns_set : (old new : List (Side × List (List ℕ))) (from to : Option ℤ) (side : Side) (patterns : List (List ℕ))
    → ((other : Side) → lookup (is_at (cmp-value.it other)) new ≡ cond (is_at (cmp-value.it side) other) (Some patterns) (lookup (is_at (cmp-value.it other)) old))
    → given_of new from to ≡ with_patterns side patterns (given_of old from to)
patterns_set old new from to side patterns h =
    same_given (patterns_at new) (λ other. cond (is_at (cmp-value.it side) other) (Some patterns) (patterns_at old other)) from to
    (λ other. sym (looked_up new other) ∙ h other ∙ ap (cond (is_at (cmp-value.it side) other) (Some patterns)) (looked_up old other))
    ∙ with_one (patterns_at old) from to side patterns
