-- The definitions computed on patterns and texts from outside.
use Rattle.std.specs.Prelude.{◌≡◌, [], ◌∷◌, None, true, false, refl}
use Rattle.std.specs.Prelude.{codes}
use Rattle.jfr_filter.specs.Patterns.{glob, simple_name, patterns_in, has_empty_part}
use Rattle.jfr_filter.specs.Filters.{Given, nothing_given, keeps, with_patterns}
use Rattle.jfr_filter.specs.declared.side.Side.TheVariants.{IncludeEvents, ExcludeEvents, IncludeCategories, IncludeThreads, ExcludeThreads}

star_at_end : glob (codes "jdk.*") (codes "jdk.ThreadPark") ≡ true
unfolding glob
star_at_end = refl

question_mark : glob (codes "worker-?") (codes "worker-1") ≡ true
unfolding glob
question_mark = refl

star_of_nothing : glob (codes "*") (codes "") ≡ true
unfolding glob
star_of_nothing = refl

no_character : glob (codes "?") (codes "") ≡ false
unfolding glob
no_character = refl

no_more : glob (codes "jdk") (codes "jdk.A") ≡ false
unfolding glob
no_more = refl

many_stars : glob (codes "*a*a*a*a*b") (codes "aaaaaaaa") ≡ false
unfolding glob
many_stars = refl

later_piece : glob (codes "*ab*c") (codes "aabxabc") ≡ true
unfolding glob
later_piece = refl

case_kept : glob (codes "JDK.*") (codes "jdk.A") ≡ false
unfolding glob
case_kept = refl

-- A character beyond ASCII is one.
one_character : glob (codes "a?c") (97 ∷ 0x1F600 ∷ 99 ∷ []) ≡ true
unfolding glob
one_character = refl

simple : simple_name (codes "jdk.internal.Park") ≡ codes "Park"
simple = refl

whole : simple_name (codes "Park") ≡ codes "Park"
whole = refl

nothing_after : simple_name (codes "jdk.") ≡ []
nothing_after = refl

two_parts : patterns_in (codes "A,B") ≡ codes "A" ∷ codes "B" ∷ []
two_parts = refl

empty_part : has_empty_part (codes "A,,B") ≡ true
empty_part = refl

empty_list : has_empty_part (codes "") ≡ true
empty_list = refl

nothing_trimmed : patterns_in (codes "A, B") ≡ codes "A" ∷ codes " B" ∷ []
nothing_trimmed = refl

-- The class name or the simple name, and both options together.
abbrev parks_but_not_internal : Given
parks_but_not_internal = with_patterns IncludeEvents (codes "*Park" ∷ []) (with_patterns ExcludeEvents (codes "jdk.internal.*" ∷ []) nothing_given)

park_kept : keeps parks_but_not_internal (codes "jdk.ThreadPark") [] None ≡ true
unfolding keeps glob
park_kept = refl

internal_dropped : keeps parks_but_not_internal (codes "jdk.internal.Park") [] None ≡ false
unfolding keeps glob
internal_dropped = refl

other_dropped : keeps parks_but_not_internal (codes "jdk.Sleep") [] None ≡ false
unfolding keeps glob
other_dropped = refl

-- One of the categories.
category_kept : keeps (with_patterns IncludeCategories (codes "Operating*" ∷ []) nothing_given) (codes "t.A") (codes "Java" ∷ codes "Operating System" ∷ []) None ≡ true
unfolding keeps glob
category_kept = refl

-- Without a thread text nothing is included, and nothing is excluded.
no_thread_included : keeps (with_patterns IncludeThreads (codes "*" ∷ []) nothing_given) (codes "t.A") [] None ≡ false
unfolding keeps glob
no_thread_included = refl

no_thread_excluded : keeps (with_patterns ExcludeThreads (codes "*" ∷ []) nothing_given) (codes "t.A") [] None ≡ true
unfolding keeps glob
no_thread_excluded = refl
