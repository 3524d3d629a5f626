-- A list of classes agrees with one that has its classes, and a sound one with itself.
use Rattle.std.specs.Prelude.{◌≡◌, ℕ, zero, suc, Bool, true, false, ◌==◌, ◌&&◌, nat_lt, slice_get, Option, Some, None, is_some, option_and_then}
use Rattle.std.specs.Option.{option_map_or}
use Rattle.std.proofs.Common.{ap, refl, ◌∙◌}
use Rattle.jfr_layout.specs.Classes.{Class, Classes, Field, Sound, Agree, AgreeWithin, find_class, is_event_class, extends_event}
use Rattle.jfr_layout.proofs.SoundLaws.{are_known}
use Rattle.jfr_worklist.proofs.Members.{all_from_get, found_get}

-- Two lists agree on a class of the second if it and all classes inside it are the same in the first.
pub agree_within : (k m : Classes) → Sound m → ((id : ℕ) (d : Class) → find_class m id ≡ Some d → find_class k id ≡ Some d) → (n id : ℕ) (d : Class) → find_class m id ≡ Some d → AgreeWithin n k m id
agree_within k m r same zero id d e = tt
agree_within k m r same (suc n) id d e = (
  d,
  d,
  same id d e,
  e,
  refl,
  refl,
  refl,
  all_from_get (λ f. AgreeWithin n k m f.shape.class) d.fields
      (λ j f g. known f (find_class m f.shape.class) refl ((are_known m r).class place.0 j f (ap (option_and_then (λ c. slice_get c.fields j)) place.1 ∙ g)) (agree_within k m r same n f.shape.class)),
)
  where
    place : (i : ℕ) × (slice_get m i ≡ Some d)
    place = found_get (λ c. c.id == id) m d e

    known : (f : Field) (o : Option Class) → find_class m f.shape.class ≡ o → is_some o ≡ true → ((c : Class) → find_class m f.shape.class ≡ Some c → AgreeWithin n k m f.shape.class)
        → AgreeWithin n k m f.shape.class
    known f None q h g = cc
    known f (Some c) q h g = g c q

-- On each class of events.
pub agree_on_event : (k : Classes) (id : ℕ) → Sound k → is_event_class k id ≡ true → Agree k k id
unfolding is_event_class
agree_on_event k id s e = by_class (find_class k id) refl e
  where
    by_class : (o : Option Class) → find_class k id ≡ o → (nat_lt 1 id && option_map_or extends_event o false) ≡ true → Agree k k id
    by_class (Some c) q e = λ n. agree_within k k s (λ id d e. e) n id c q
    by_class None q e = absurd (never (nat_lt 1 id) e)
      where
        never : (t : Bool) → (t && false) ≡ true → ⊥
        never true e = cc
        never false e = cc
