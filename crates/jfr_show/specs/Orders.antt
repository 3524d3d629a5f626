-- The members of an object in the order of their keys, given by the numbers of the fields.
use Rattle.std.specs.Prelude.{◌≡◌, ℕ, zero, suc, ◌+◌, ◌<◌, List, [], ◌∷◌, ◌++◌, length, map, slice_get, string_bytes, unwrap_or, option_and_then, Bool, true, false, Option, Some}
use Rattle.std.specs.List.{AllByRecursion}
use Rattle.serde_json.specs.Data.{Data, null, number, string, unsigned, Members, no_members, member}
use Rattle.serde_json.specs.Find.{as_number, as_u64}
use Rattle.serde_json.specs.Written.{comma_if, compact_text, members_text}
use Rattle.jfr_layout.specs.Classes.{Class, Classes, Field, Sound}
use Rattle.jfr_value.specs.Values.{Values, Nil, Cons, bytes_of}
use Rattle.jfr_show.specs.declared.json.order.Lead.{Lead}
use Rattle.jfr_show.specs.declared.json.order.MemberOrder.{MemberOrder}
use Rattle.jfr_show.specs.declared.json.offsets.FieldOffsets.{FieldOffsets}
use Rattle.jfr_show.specs.declared.json.source.JsonSource.{JsonSource}
use Rattle.jfr_show.specs.Json.{members_with}

-- The value with this index, or null past the end.
abbrev pub nth : List Data → ℕ → Data
nth [] n = null
nth (d ∷ ds) zero = d
nth (d ∷ ds) (suc n) = nth ds n

-- The text of these members, each a text followed by the value with its index, and the brace that closes the
-- object.
abbrev pub laid_out : List (List ℕ × ℕ) → List Data → List ℕ
laid_out [] ds = 125 ∷ []
laid_out (m ∷ ms) ds = m.0 ++ (compact_text (nth ds m.1) ++ laid_out ms ds)

-- Laid out in this order, the values of all fields give the text of the object's members.
pub record IsOrder (fs : List Field) (ms : List (List ℕ × ℕ)) : Type 0 where
  pub within : AllByRecursion (λ m. m.1 < length fs) ms
  pub exact : (ds : List Data) → length ds ≡ length fs → members_text false (members_with no_members fs ds) ≡ laid_out ms ds

-- A member as the code keeps it.
abbrev pub lead_of : Lead → List ℕ × ℕ
lead_of m = (string_bytes m.text, m.field)

-- The members of a class as the code keeps them.
abbrev pub leads_of : MemberOrder → List (List ℕ × ℕ)
leads_of o = map lead_of o.leads.items

-- The order is one for the class with this index.
abbrev pub IsOrderAt : Classes → ℕ → MemberOrder → Type 0
IsOrderAt k place o = (c : Class) → slice_get k place ≡ Some c → IsOrder c.fields (leads_of o)

-- The classes are sound, and each order that is kept is that of the class with the same index.
pub record AreOrders (k : Classes) (os : List (Option MemberOrder)) : Type 0 where
  pub sound : Sound k
  pub count : length os ≡ length k
  pub each : (place : ℕ) (o : MemberOrder) → slice_get os place ≡ Some (Some o) → IsOrderAt k place o

-- The orders of a source are those of its chunk's classes.
abbrev pub IsSource : JsonSource → Type 0
IsSource s = AreOrders s.chunk.now.classes s.orders.now

-- The numbers of these fields as values, counted from n.
abbrev pub numbers : ℕ → List Field → List Data
numbers n [] = []
numbers n (f ∷ fs) = number (unsigned n) ∷ numbers (suc n) fs

-- The number that is this value; 0 if it isn't one.
abbrev pub number_in : Data → ℕ
number_in d = unwrap_or (option_and_then as_u64 (as_number d)) 0

-- For each member the text before its value, and the number that is its value.
abbrev pub leads : Bool → Members → List (List ℕ × ℕ)
leads later no_members = []
leads later (member key d ms) = (comma_if later ++ (compact_text (string key) ++ 58 ∷ []), number_in d) ∷ leads true ms

-- Where each of these values starts, if they follow one another from `at`.
abbrev pub starts : ℕ → Values → List ℕ
starts at Nil = []
starts at (Cons v vs) = at ∷ starts (at + length (bytes_of v)) vs

-- These values start at these offsets, from `at` on, and end at `to`.
abbrev pub AreOffsets : FieldOffsets → ℕ → ℕ → Values → Type 0
AreOffsets p at to vs = (p.end ≡ to) × (p.starts.items ≡ starts at vs)
