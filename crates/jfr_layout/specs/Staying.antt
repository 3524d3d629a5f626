-- The classes of a list that are left when only those with ids in a set stay.
use Rattle.std.specs.Prelude.{◌≡◌, ℕ, Bool, true, ◌&&◌, Some, None, filter, slice_get, if◌then◌else◌}
use Rattle.std.specs.List.{AllByRecursion}
use Rattle.jfr_layout.specs.Classes.{Class, Classes, Sound, Agree, find_class, is_event_class}

-- The classes whose ids are in a set, in order.
abbrev pub staying : (ℕ → Bool) → Classes → Classes
staying stays k = filter (λ c. stays c.id) k

-- If the set has a class, it has the classes of that class's fields.
pub record IsClosed (k : Classes) (stays : ℕ → Bool) : Type 0 where
  pub fields : (i : ℕ) (c : Class) → slice_get k i ≡ Some c → stays c.id ≡ true → AllByRecursion (λ f. stays f.shape.class ≡ true) c.fields

-- The classes that stay are sound; each is found by its id, as before, and both lists agree on it.
pub record IsSoundSubset (k : Classes) (stays : ℕ → Bool) : Type 0 where
  pub sound : Sound (staying stays k)
  pub found : (id : ℕ) → find_class (staying stays k) id ≡ (if stays id then find_class k id else None)
  pub events : (id : ℕ) → is_event_class (staying stays k) id ≡ (stays id && is_event_class k id)
  pub agree : (id : ℕ) (c : Class) → find_class k id ≡ Some c → stays id ≡ true → Agree k (staying stays k) id
