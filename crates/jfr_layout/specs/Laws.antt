-- Laws of sound lists, and of lists that agree.
use Rattle.std.specs.Prelude.{◌≡◌, ℕ, ◌<◌, length, IsSome, Some, false, slice_get}
use Rattle.std.specs.List.{AllByRecursion}
use Rattle.jfr_layout.specs.Classes.{Class, Classes, Field, find_class, class_index, field_at, field_number, step_class, begins_chain, Agree}

-- Each class is found by its id, and each field of a class by its name.
pub record AreFound (k : Classes) : Type 0 where
  pub id : (i : ℕ) (c : Class) → slice_get k i ≡ Some c → (class_index k c.id ≡ Some i) × (find_class k c.id ≡ Some c)
  pub name : (i j : ℕ) (c : Class) (f : Field) → slice_get k i ≡ Some c → slice_get c.fields j ≡ Some f → field_number c.fields f.name ≡ Some j

-- Each field's class is known, and the class to which an inline step goes has fields.
pub record AreKnown (k : Classes) : Type 0 where
  pub class : (i j : ℕ) (f : Field) → field_at k i j ≡ Some f → IsSome (find_class k f.shape.class)
  pub filled : (i j : ℕ) (f : Field) (d : Class) → field_at k i j ≡ Some f → step_class k f ≡ Some d → 0 < length d.fields

-- No class begins a chain of more than 32 inline steps.
pub record EndsInline (k : Classes) : Type 0 where
  pub class : (id : ℕ) (c : Class) → find_class k id ≡ Some c → begins_chain 33 k c ≡ false

-- Lists that agree on a class agree on the classes of its fields.
pub record AgreeOnFields (k m : Classes) : Type 0 where
  pub field : (id : ℕ) (c : Class) → Agree k m id → find_class k id ≡ Some c → AllByRecursion (λ f. Agree k m f.shape.class) c.fields
