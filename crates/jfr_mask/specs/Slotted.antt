-- A hash table of numbers: in which slots a number may be, and in which it is found.
use Rattle.std.specs.Prelude.{◌≡◌, ◌≢◌, ℕ, ◌+◌, ◌-◌, ◌*◌, ◌/◌, ◌%◌, ◌^◌, ◌<◌, ◌==◌, Bool, nat_le, List, [], Some, drop, length, slice_get, take, if◌then◌else◌}
use Rattle.jfr_mask.specs.declared.slots.Slot.{Slot}

-- The first slot for a tag, which has 32 bits, in a table of this many slots.
abbrev pub first_slot : ℕ → ℕ → ℕ
first_slot slots tag = ((tag * (slots - 64)) % 2 ^ 64) / 2 ^ 32

-- The slots for a tag.
abbrev pub window : List Slot → ℕ → List Slot
window slots tag = if nat_le (first_slot (length slots) tag + 64) (length slots) then take 64 (drop (first_slot (length slots) tag) slots) else []

abbrev pub is_empty : Slot → Bool
is_empty slot = slot.number == 0

-- One of the slots for the tag has the tag and the number, and no slot before it is empty.
pub record HasSlot (slots : List Slot) (tag number : ℕ) : Type 0 where
  pub step : ℕ
  pub slot : Slot
  pub there : slice_get (window slots tag) step ≡ Some slot
  pub tagged : slot.tag ≡ tag
  pub numbered : slot.number ≡ number
  pub before : (k : ℕ) (other : Slot) → k < step → slice_get (window slots tag) k ≡ Some other → other.number ≢ 0

-- Each number that has a slot in one table has one in the other.
abbrev pub AreKept : List Slot → List Slot → Type 0
AreKept old new = (tag number : ℕ) → number ≢ 0 → HasSlot old tag number → HasSlot new tag number

-- Each of these slots that isn't empty has its like in the table.
abbrev pub AreSlotted : List Slot → List Slot → Type 0
AreSlotted these slots = (k : ℕ) (slot : Slot) → slice_get these k ≡ Some slot → slot.number ≢ 0 → HasSlot slots slot.tag slot.number
