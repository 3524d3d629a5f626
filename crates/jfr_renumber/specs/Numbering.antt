-- How the keys of a class are numbered: in the order of the keys, each group at its first key.
use Rattle.std.specs.Prelude.{◌≡◌, ◌↔◌, ◌⊎◌, ℕ, Bool, true, List, Option, Some, map, Contains}
use Rattle.std.specs.Option.{option_map}
use Rattle.std.specs.Borrow.{Bor}
use Rattle.std.specs.BTreeMap.{BTreeMap, get_by}
use Rattle.std.specs.Cmp.Lexicographic.{slice_cmp}
use Rattle.std.specs.Ordering.{nat_cmp}
use Rattle.jfr_value.specs.Nodes.{node_bytes}
use Rattle.jfr_pool.specs.Entries.{entry_node, in_force}
use Rattle.jfr_chunk.specs.Parts.{Parts}
use Rattle.jfr_renumber.specs.declared.numbering.UsedKey.{UsedKey}
use Rattle.jfr_renumber.specs.Keys.{group_number}
use Rattle.jfr_renumber.specs.Missing.{IsRising}

-- The number that was given to the bytes of a value, if they have one.
abbrev pub number_under : BTreeMap (Bor (List ℕ)) ℕ → List ℕ → Option ℕ
number_under firsts value = get_by (λ k. slice_cmp nat_cmp value k.now) firsts

-- The bytes of the value of a used key, if it has one.
abbrev pub value_of_key : UsedKey → Option (List ℕ)
value_of_key k = option_map (λ v. v.now) k.value

-- Two keys have the same value.
pub record SameValue (k l : UsedKey) : Type 0 where
  pub value : List ℕ
  pub here : value_of_key k ≡ Some value
  pub there : value_of_key l ≡ Some value

-- These are all keys of a class in the list `us`, rising. Two are together exactly if they are equal or
-- have the same value.
pub record AreKeysOf (together : ℕ × ℕ → ℕ × ℕ → Bool) (us : List (ℕ × ℕ)) (class : ℕ) (ks : List UsedKey) : Type 0 where
  pub rising : IsRising (map (λ k. (class, k.key)) ks)
  pub used : (k : UsedKey) → Contains ks k → Contains us (class, k.key)
  pub all : (key : ℕ) → Contains us (class, key) → (k : UsedKey) × Contains ks k × (k.key ≡ key)
  pub alike : (k l : UsedKey) → Contains ks k → Contains ks l → (together (class, k.key) (class, l.key) ≡ true) ↔ ((k.key ≡ l.key) ⊎ SameValue k l)

-- The numbers of the groups of these keys.
abbrev pub group_numbers : (ℕ × ℕ → ℕ × ℕ → Bool) → List (ℕ × ℕ) → ℕ → List UsedKey → List ℕ
group_numbers together us class ks = map (λ k. group_number together us (class, k.key)) ks

-- The class and the key.
abbrev pub pair_at : UsedKey → ℕ × ℕ
pair_at k = (k.class, k.key)

-- These are all the classes and keys in the list `us`, rising. Two are together exactly if they have the same
-- class, and the same key or the same value.
pub record ArePairsOf (together : ℕ × ℕ → ℕ × ℕ → Bool) (us : List (ℕ × ℕ)) (ks : List UsedKey) : Type 0 where
  pub rising : IsRising (map pair_at ks)
  pub used : (k : UsedKey) → Contains ks k → Contains us (pair_at k)
  pub all : (t : ℕ × ℕ) → Contains us t → (k : UsedKey) × Contains ks k × (pair_at k ≡ t)
  pub alike : (k l : UsedKey) → Contains ks k → Contains ks l → (together (pair_at k) (pair_at l) ≡ true) ↔ ((k.class ≡ l.class) × ((k.key ≡ l.key) ⊎ SameValue k l))

-- The numbers of the groups of all of them.
abbrev pub pair_numbers : (ℕ × ℕ → ℕ × ℕ → Bool) → List (ℕ × ℕ) → List UsedKey → List ℕ
pair_numbers together us ks = map (λ k. group_number together us (pair_at k)) ks

-- The bytes of the value of the entry in force for a class and a key, if there is one.
abbrev pub value_in_force : Parts → ℕ × ℕ → Option (List ℕ)
value_in_force p t = option_map (λ e. node_bytes p.bytes (entry_node e)) (in_force p.entries t)

-- A used key has the value of its entry in force.
abbrev pub HasValue : Parts → UsedKey → Type 0
HasValue p k = value_of_key k ≡ value_in_force p (pair_at k)
