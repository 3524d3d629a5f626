-- The hash table of the entries in force that no direct table has, by class and key.
use Rattle.std.specs.Prelude.{◌≡◌, ℕ, zero, suc, ◌+◌, ◌-◌, ◌*◌, ◌/◌, ◌%◌, ◌^◌, ◌&&◌, ◌==◌, nat_lt, Bool, true, List, length, Option, Some, None, IsSome, bit_xor, slice_index_or, option_map, if◌then◌else◌}
use Rattle.std.specs.declared.cmp.Ordering.{Ordering}
use Rattle.std.specs.Ordering.{nat_cmp, ordering_then}
use Rattle.std.specs.BTreeMap.{get}
use Rattle.jfr_pool.specs.declared.entry.EntryAt.{EntryAt}
use Rattle.jfr_pool.specs.declared.index.Index.{Index}
use Rattle.jfr_pool.specs.declared.index.Slot.{Slot}
use Rattle.jfr_pool.specs.declared.index.TheConstants.{REACH, CLASS_AT, MIX}
use Rattle.jfr_pool.specs.declared.table.Table.{Table}
use Rattle.jfr_pool.specs.Tables.{ordinal_at}
use Rattle.jfr_pool.specs.Entries.{number_in_force}

-- The order of pairs: by class, and then by key.
abbrev pub target_cmp : ℕ × ℕ → ℕ × ℕ → Ordering
target_cmp s t = ordering_then (nat_cmp s.0 t.0) (nat_cmp s.1 t.1)

-- A class and key in a slot, with the number of their entry.
pub record Placed : Type 0 where
  pub class : ℕ
  pub key : ℕ
  pub number : ℕ

-- What a slot holds: nothing if its ordinal is 0.
abbrev pub held : Slot → Option Placed
held s = if s.ordinal == 0 then None else Some (record { class = s.class; key = s.key; number = s.ordinal - 1 })

-- The number in a slot, if the slot isn't empty.
abbrev pub number_in : Slot → Option ℕ
number_in s = option_map (λ (p : Placed). p.number) (held s)

-- The slot has this class and key.
abbrev pub is_of : Slot → ℕ × ℕ → Bool
is_of s t = (s.class == t.0) && (s.key == t.1)

-- A slot is open to a class and key if it is empty or has them.
abbrev pub is_open : Option Placed → ℕ × ℕ → Bool
is_open None t = true
is_open (Some p) t = (p.class == t.0) && (p.key == t.1)

-- The slot with this index.
abbrev pub slot_at : List Slot → ℕ → Slot
slot_at slots place = slice_index_or slots place (record { key = 0; class = 0; ordinal = 0 })

-- The index of the first open slot, of n slots from an index on.
abbrev pub open_slot_from : ℕ → ℕ → List Slot → ℕ × ℕ → Option ℕ
open_slot_from zero place slots t = None
open_slot_from (suc n) place slots t = if is_open (held (slot_at slots place)) t then Some place else open_slot_from n (place + 1) slots t

-- The slot where the search for a class and key starts. The two are mixed into a number of 64 bits, which is
-- scaled to the slots that have at least REACH others after them.
unfoldable pub home : List Slot → ℕ × ℕ → ℕ
home slots t = bit_xor t.1 (t.0 * 2 ^ CLASS_AT % 2 ^ 64) * MIX % 2 ^ 64 * (length slots - REACH) / 2 ^ 64

-- The index of the first open slot within reach, if there is one. A class that is too large for a slot has
-- none.
unfoldable pub open_slot : List Slot → ℕ × ℕ → Option ℕ
open_slot slots t = if nat_lt t.0 (2 ^ 32) then open_slot_from REACH (home slots t) slots t else None

-- The number in the slot with this index; without an index, the one in the map of the others.
abbrev pub number_at : Index → ℕ × ℕ → Option ℕ → Option ℕ
number_at index t (Some place) = number_in (slot_at index.slots.items place)
number_at index t None = get target_cmp index.others t

-- The number that the index has for a class and key.
abbrev pub number_of : Index → ℕ × ℕ → Option ℕ
number_of index t = number_at index t (open_slot index.slots.items t)

-- For each class and key that no table has, the index has the number of the entry in force, if there is one;
-- and it has only classes and keys of entries.
pub record Indexes (by_class : List Table) (index : Index) (es : List EntryAt) : Type 0 where
  pub leads : (t : ℕ × ℕ) → ordinal_at by_class t ≡ None → number_of index t ≡ number_in_force es t
  pub in_slots : (place : ℕ) (p : Placed) → held (slot_at index.slots.items place) ≡ Some p → IsSome (number_in_force es (p.class, p.key))
  pub in_others : (t : ℕ × ℕ) → IsSome (get target_cmp index.others t) → IsSome (number_in_force es t)
