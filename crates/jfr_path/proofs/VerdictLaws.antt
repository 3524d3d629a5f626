-- What a filter says of a class holds of each of its events.
use Rattle.std.specs.Prelude.{◌≡◌, ℕ, Bool, true, false, ◌&&◌, ◌||◌, List, [], ◌∷◌, Option, Some, None, is_some, codes, if◌then◌else◌}
use Rattle.std.specs.Option.{option_map_or, option_and_then}
use Rattle.std.proofs.Common.{ap, refl, sym, ◌∙◌}
use Rattle.jfr_filter.specs.Filters.{Given, keeps, allows, allows_class, allows_thread, thread_matches}
use Rattle.jfr_filter.proofs.KeepLaws.{keeps_by_parts}
use Rattle.jfr_layout.specs.Classes.{Class, field_number}
use Rattle.jfr_layout.specs.declared.shape.Shape.{Shape}
use Rattle.jfr_value.specs.declared.node.Step.TheVariants as steps
use Rattle.jfr_value.specs.Nodes.{NodeAt, child}
use Rattle.jfr_chunk.specs.Parts.{Parts, EventAt, events_of}
use Rattle.jfr_chunk.specs.Paths.{follow_while, is_reference, named_field, named_text}
use Rattle.jfr_chunk.specs.Chosen.{is_chosen, or_else, thread_text}
use Rattle.jfr_chunk.specs.Windows.{allows_time}
use Rattle.jfr_worklist.specs.Members.{In}
use Rattle.jfr_worklist.proofs.Members.{contains_in}
use Rattle.jfr_path.specs.declared.verdict.ClassVerdict.TheVariants.{Kept, Dropped, Asked}
use Rattle.jfr_path.specs.declared.times.Times.{Times}
use Rattle.jfr_path.specs.Threads.{allows_thread_at, thread_text_at}
use Rattle.jfr_path.specs.Times.{is_timely, is_untimed, times_of}
use Rattle.jfr_path.specs.Verdicts.{AllowsThreads, AllowsTimes, IsOfClass, IsVerdict}
use Rattle.jfr_path.proofs.EventLaws.{event_shape, event_field}
use Rattle.jfr_path.proofs.FollowLaws.{stays}
use Rattle.jfr_path.proofs.NameLaws.{named_next}
use Rattle.jfr_path.proofs.TimeLaws.{same_class, time_is}

-- Where no option on threads is given, every thread is allowed.
unasked : (g : Given) (text : Option (List ℕ)) → (is_some g.include_threads || is_some g.exclude_threads) ≡ false → allows_thread g text ≡ true
unfolding allows_thread
unasked g text e = by_options g.include_threads g.exclude_threads e
  where
    by_options : (i x : Option (List (List ℕ))) → (is_some i || is_some x) ≡ false → allows (thread_matches text) i x ≡ true
    by_options None None e = refl
    by_options None (Some x) e = cc
    by_options (Some i) x e = cc

-- One of two that both are asked of a value.
either_then : {A : Type 0} (f g : A → Option (List ℕ)) (o : Option A) → or_else (option_and_then f o) (option_and_then g o) ≡ option_and_then (λ m. or_else (f m) (g m)) o
either_then f g None = refl
either_then f g (Some m) = refl

and_false : (b : Bool) → (b && false) ≡ false
and_false true = refl
and_false false = refl

and_comm : (a b : Bool) → (a && b) ≡ (b && a)
and_comm true true = refl
and_comm true false = refl
and_comm false true = refl
and_comm false false = refl

abbrev thread_number : Class → Option ℕ
thread_number c = field_number c.fields (codes "eventThread")

module _ (p : Parts) (c : Class) (e : EventAt) (o : IsOfClass p c e) where
  abbrev listed : In (events_of p) e
  listed = contains_in (events_of p) e o.listed

  alone : is_reference e.node ≡ false
  alone = ap (λ (z : Shape). if z.array then false else z.constant) (event_shape p o.parts e listed)

  -- The name of an event's thread is the one that the thread's field leads to.
  there : thread_text p e ≡ option_and_then (thread_text_at p) (option_and_then (λ i. child p.classes p.bytes e.node (steps.Field i)) (thread_number c))
  there =
      (λ i. or_else (named_next p (codes "eventThread") (codes "javaName" ∷ []) e.node i) (named_next p (codes "eventThread") (codes "osName" ∷ []) e.node i))
      ∙ (either_then (λ m. named_text p m (codes "javaName" ∷ [])) (λ m. named_text p m (codes "osName" ∷ [])) (named_field p (codes "eventThread") (follow_while 16 is_reference p e.node))
      ∙ (ap (λ z. option_and_then (thread_text_at p) (named_field p (codes "eventThread") z)) (stays is_reference p 16 e.node alone)
      ∙ ap (λ z. option_and_then (thread_text_at p) (option_and_then (λ (d : Class). option_and_then (λ i. child p.classes p.bytes e.node (steps.Field i)) (thread_number d)) z)) (same_class p c e o)))

  none_there : thread_number c ≡ None → thread_text p e ≡ None
  none_there f = there ∙ ap (λ z. option_and_then (thread_text_at p) (option_and_then (λ i. child p.classes p.bytes e.node (steps.Field i)) z)) f

  one_there : (i : ℕ) (n : NodeAt) → thread_number c ≡ Some i → child p.classes p.bytes e.node (steps.Field i) ≡ Some n → thread_text p e ≡ thread_text_at p n
  one_there i n f h = there ∙ (ap (λ z. option_and_then (thread_text_at p) (option_and_then (λ i. child p.classes p.bytes e.node (steps.Field i)) z)) f ∙ ap (option_and_then (thread_text_at p)) h)

  module _ (g : Given) where
    by_parts : is_chosen g p e ≡ ((allows_class g c.name c.categories && allows_thread g (thread_text p e)) && allows_time g p e)
    by_parts =
        ap (λ z. option_map_or (λ (c : Class). keeps g c.name c.categories (thread_text p e)) z false && allows_time g p e) o.class
        ∙ ap (λ z. z && allows_time g p e) (keeps_by_parts g c.name c.categories (thread_text p e))

    refused_class : allows_class g c.name c.categories ≡ false → is_chosen g p e ≡ false
    refused_class a = by_parts ∙ ap (λ z. (z && allows_thread g (thread_text p e)) && allows_time g p e) a

    refused_time : allows_time g p e ≡ false → is_chosen g p e ≡ false
    refused_time t = let others : Bool = allows_class g c.name c.categories && allows_thread g (thread_text p e) in by_parts ∙ (ap (λ z. others && z) t ∙ and_false others)

    refused_thread : allows_thread g (thread_text p e) ≡ false → is_chosen g p e ≡ false
    refused_thread t =
        let class : Bool = allows_class g c.name c.categories in
        by_parts ∙ (ap (λ z. (class && z) && allows_time g p e) t ∙ ap (λ z. z && allows_time g p e) (and_false class))

    asked_both : allows_class g c.name c.categories ≡ true → is_chosen g p e ≡ (allows_time g p e && allows_thread g (thread_text p e))
    asked_both a =
        by_parts ∙ (ap (λ z. (z && allows_thread g (thread_text p e)) && allows_time g p e) a ∙ and_comm (allows_thread g (thread_text p e)) (allows_time g p e))

-- What the parts of a filter say of the events of a class.
module _ (g : Given) (c : Class) where
  pub untimed : is_untimed g c ≡ true → AllowsTimes g c (Some None)
  untimed u = record { each = λ p e o. time_is p c e o g ∙ ap (λ z. z || option_map_or (is_timely g p e.node) (times_of c) false) u }

  pub timed_none : is_untimed g c ≡ false → times_of c ≡ None → AllowsTimes g c None
  timed_none u t = record {
    each = λ p e o.
        time_is p c e o g
        ∙ (ap (λ z. z || option_map_or (is_timely g p e.node) (times_of c) false) u ∙ ap (λ z. option_map_or (is_timely g p e.node) z false) t);
  }

  pub timed_by : (times : Times) → is_untimed g c ≡ false → times_of c ≡ Some times → AllowsTimes g c (Some (Some times))
  timed_by times u t = record {
    each = λ p e o.
        time_is p c e o g
        ∙ (ap (λ z. z || option_map_or (is_timely g p e.node) (times_of c) false) u ∙ ap (λ z. option_map_or (is_timely g p e.node) z false) t);
  }

  pub unasked_threads : (is_some g.include_threads || is_some g.exclude_threads) ≡ false → AllowsThreads g c (Some None)
  unasked_threads n = record { each = λ p e o. unasked g (thread_text p e) n }

  -- Without a field of the thread there is no thread text.
  pub threadless : thread_number c ≡ None → allows_thread g None ≡ true → AllowsThreads g c (Some None)
  threadless f t = record { each = λ p e o. ap (allows_thread g) (none_there p c e o f) ∙ t }

  pub threadless_none : thread_number c ≡ None → allows_thread g None ≡ false → AllowsThreads g c None
  threadless_none f t = record { each = λ p e o. ap (allows_thread g) (none_there p c e o f) ∙ t }

  pub asked_thread : (i : ℕ) → thread_number c ≡ Some i → AllowsThreads g c (Some (Some i))
  asked_thread i f = record {
    each = λ p e o.
        (let n = event_field p o.parts e (listed p c e o) c (codes "eventThread") i o.class f in
        ap (allows_thread g) (one_there p c e o i n.0 f n.1) ∙ sym (ap (λ z. option_map_or (allows_thread_at g p) z false) n.1));
  }

  pub dropped : allows_class g c.name c.categories ≡ false → IsVerdict g c Dropped
  dropped a = record { each = λ p e o. refused_class p c e o g a }

  pub dropped_by_time : AllowsTimes g c None → IsVerdict g c Dropped
  dropped_by_time t = record { each = λ p e o. refused_time p c e o g (t.each p e o) }

  pub dropped_by_thread : AllowsThreads g c None → IsVerdict g c Dropped
  dropped_by_thread t = record { each = λ p e o. refused_thread p c e o g (t.each p e o) }

  pub asked : (times : Option Times) (thread : Option ℕ) → allows_class g c.name c.categories ≡ true → AllowsTimes g c (Some times) → AllowsThreads g c (Some thread)
      → IsVerdict g c (Asked times thread)
  asked times thread a t h = record {
    each = λ p e o.
        asked_both p c e o g a
        ∙ (ap (λ z. z && allows_thread g (thread_text p e)) (t.each p e o) ∙ ap (λ z. option_map_or (is_timely g p e.node) times true && z) (h.each p e o));
  }

  pub kept : allows_class g c.name c.categories ≡ true → AllowsTimes g c (Some None) → AllowsThreads g c (Some None) → IsVerdict g c Kept
  kept a t h = record { each = λ p e o. (asked None None a t h).each p e o }
