-- What is asked of an event: its class, and its thread.
use Rattle.std.specs.Prelude.{◌≡◌, ℕ, Bool, true, false, ◌&&◌, List, Option}
use Rattle.std.proofs.Common.{refl}
use Rattle.jfr_filter.specs.Filters.{Given, event_matches, category_matches, thread_matches, allows, allows_class, allows_thread, keeps}

and_assoc : (a b c : Bool) → (a && (b && c)) ≡ ((a && b) && c)
and_assoc true b c = refl
and_assoc false b c = refl

-- An event is kept if the filter allows its class and its thread.
pub keeps_by_parts : (g : Given) (name : List ℕ) (categories : List (List ℕ)) (thread : Option (List ℕ)) → keeps g name categories thread ≡ (allows_class g name categories && allows_thread g thread)
unfolding keeps allows_class allows_thread
keeps_by_parts g name categories thread = and_assoc (allows (event_matches name) g.include_events g.exclude_events) (allows (category_matches categories) g.include_categories g.exclude_categories)
    (allows (thread_matches thread) g.include_threads g.exclude_threads)
