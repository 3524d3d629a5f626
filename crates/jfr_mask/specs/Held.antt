-- What the fields of a dictionary and of a set of known texts keep.
use Rattle.std.specs.Prelude.{◌≡◌, ◌⊎◌, ◌-◌, ◌/◌, ◌^◌, ◌≤◌, ℕ, cond, List, map, Option, Some, String, string_bytes, IsUtf8, fold, slice_get}
use Rattle.std.specs.Hash as fed
use Rattle.std.specs.Hash.FoldHasher as folding
use Rattle.std.specs.BTreeMap.{BTreeMap, get_by}
use Rattle.std.specs.BTreeSet.{BTreeSet}
use Rattle.std.specs.Cmp.Lexicographic.{slice_cmp}
use Rattle.std.specs.Ordering.{nat_cmp}
use Rattle.std.specs.Rc.{rc_str_bytes}
use Rattle.std.specs.declared.rc.RcStr.{RcStr}
use Rattle.std.specs.Str.{bytes_eq, chars}
use Rattle.std.specs.declared.alloc.Global.{Global}
use Rattle.jfr_mask.specs.Pseudonyms.{IsDictionary}
use Rattle.jfr_mask.specs.Slotted.{HasSlot}
use Rattle.jfr_mask.specs.declared.slots.Slot.{Slot}

-- The number under a text, given by its bytes.
abbrev pub number_under : BTreeMap (RcStr Global) ℕ → List ℕ → Option ℕ
number_under numbers bytes = get_by (λ k. slice_cmp nat_cmp bytes (rc_str_bytes k)) numbers

-- The map has got this number under a text, given by its bytes. The other numbers are as before.
abbrev pub HasNumber : BTreeMap (RcStr Global) ℕ → BTreeMap (RcStr Global) ℕ → List ℕ → ℕ → Type 0
HasNumber old new text number = (bytes : List ℕ) → number_under new bytes ≡ cond (bytes_eq text bytes) (Some number) (number_under old bytes)

-- The tag of a text, given by its bytes: the upper half of its hash.
unfoldable pub text_tag : List ℕ → ℕ
text_tag bytes = folding.finish (fold folding.write folding.initial (fed.str bytes)) / 2 ^ 32

-- The text with this number, from 1, is this one.
abbrev pub IsNumber : List (List ℕ) → List ℕ → ℕ → Type 0
IsNumber texts text number = (1 ≤ number) × (slice_get texts (number - 1) ≡ Some text)

-- No slot has the number of the text.
abbrev pub LacksSlot : List (List ℕ) → List Slot → List ℕ → ℕ → Type 0
LacksSlot texts slots text tag = (number : ℕ) → IsNumber texts text number → ¬ (HasSlot slots tag number)

-- The map doesn't have the number of the text, given by its bytes.
abbrev pub LacksOther : List (List ℕ) → BTreeMap (RcStr Global) ℕ → List ℕ → Type 0
LacksOther texts others bytes = (number : ℕ) → IsNumber texts (chars bytes) number → ¬ (number_under others bytes ≡ Some number)

-- The list is a dictionary, and the number of each text is in a slot or in the map. These may have other numbers too.
pub record IsComplete (texts : List (List ℕ)) (slots : List Slot) (others : BTreeMap (RcStr Global) ℕ) : Type 0 where
  pub distinct : IsDictionary texts
  pub each : (bytes : List ℕ) (number : ℕ) → IsUtf8 bytes → IsNumber texts (chars bytes) number → HasSlot slots (text_tag bytes) number ⊎ (number_under others bytes ≡ Some number)

-- The texts of a set, in the order of their bytes.
abbrev pub texts_of : BTreeSet (String Global) → List (List ℕ)
texts_of set = map (λ t. chars (string_bytes t)) set.keys
