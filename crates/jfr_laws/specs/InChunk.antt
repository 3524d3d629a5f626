-- Where an entry, a checkpoint and its pools are in the bytes of a chunk, and what spells them there.
use Rattle.std.specs.Prelude.{◌≡◌, ℕ, ◌+◌, ◌≤◌, List, [], ◌∷◌, length, slice_range, None}
use Rattle.std.specs.Int.{cast_signed, w64}
use Rattle.std.specs.List.{AllByRecursion}
use Rattle.jfr_base.specs.Integer.{IntAt}
use Rattle.jfr_base.specs.Formats.{Exactly}
use Rattle.jfr_layout.specs.Classes.{Classes}
use Rattle.jfr_frame.specs.Records.{IsRecord}
use Rattle.jfr_value.specs.Values.{Value}
use Rattle.jfr_value.specs.Reading.{value_format}
use Rattle.jfr_pool.specs.declared.link.Link.{Link}
use Rattle.jfr_pool.specs.declared.entry.EntryAt.{EntryAt}
use Rattle.jfr_pool.specs.Entries.{inline, pool_check, Constant, PoolAt}
use Rattle.jfr_chunk.specs.Written.{Group}

-- The entry is in the chunk: its class is known, and its key and its value are at its offsets.
pub record IsEntryIn (c : List ℕ) (k : Classes) (e : EntryAt) : Type 0 where
  pub value : Value
  pub known : pool_check k e.class ≡ None
  pub key : IntAt c e.key_at e.value_at e.key
  pub order : e.value_at ≤ e.end
  pub within : e.end ≤ length c
  pub exact : Exactly (value_format k (inline e.class)) (slice_range c e.value_at e.end) value

-- The entries of a group are in the chunk, and have its class.
abbrev pub IsGroupIn : List ℕ → Classes → Group → Type 0
IsGroupIn c k g = (pool_check k g.class ≡ None) × AllByRecursion (λ e. IsEntryIn c k e × (e.class ≡ g.class)) g.entries

-- The link is in the chunk: its record, and the integers of its head.
pub record IsLinkIn (c : List ℕ) (l : Link) : Type 0 where
  pub record_stands : IsRecord c l.frame
  pub is_checkpoint : l.frame.type_id ≡ 1
  pub middle : ℕ
  pub start : ℕ
  pub duration : ℕ
  pub word : ℕ
  pub start_spelled : IntAt c l.frame.body middle start
  pub duration_spelled : IntAt c middle l.delta_at duration
  pub delta_spelled : IntAt c l.delta_at l.delta_end word
  pub delta_is : l.delta ≡ cast_signed w64 word
  pub kind_within : l.delta_end + 1 ≤ length c

-- The bytes from an offset up to another spell a constant of the class.
pub record ConstantStands (c : List ℕ) (k : Classes) (class at : ℕ) (x : Constant) : Type 0 where
  pub begins : x.key_at ≡ at
  pub key : IntAt c x.key_at x.value_at x.key
  pub order : x.value_at ≤ x.end
  pub within : x.end ≤ length c
  pub exact : Exactly (value_format k (inline class)) (slice_range c x.value_at x.end) x.value

-- The bytes spell constants, one after another.
abbrev pub AreConstants : List ℕ → Classes → ℕ → ℕ → List Constant → ℕ → Type 0
AreConstants c k class at [] to = to ≡ at
AreConstants c k class at (x ∷ xs) to = ConstantStands c k class at x × AreConstants c k class x.end xs to

-- The bytes from an offset up to another spell a pool: its class and its count, then its constants.
pub record PoolStands (c : List ℕ) (k : Classes) (at : ℕ) (p : PoolAt) (to : ℕ) : Type 0 where
  pub count_at : ℕ
  pub first : ℕ
  pub class : IntAt c at count_at p.class
  pub known : pool_check k p.class ≡ None
  pub count : IntAt c count_at first (length p.constants)
  pub constants : AreConstants c k p.class first p.constants to

-- The bytes spell pools, one after another.
abbrev pub ArePools : List ℕ → Classes → ℕ → List PoolAt → ℕ → Type 0
ArePools c k at [] to = to ≡ at
ArePools c k at (p ∷ ps) to = (m : ℕ) × PoolStands c k at p m × ArePools c k m ps to

-- The bytes from an offset up to an end spell a checkpoint's body.
pub record BodyStands (c : List ℕ) (k : Classes) (end at : ℕ) (pools : List PoolAt) : Type 0 where
  pub middle : ℕ
  pub delta_at : ℕ
  pub delta_end : ℕ
  pub first : ℕ
  pub start : ℕ
  pub duration : ℕ
  pub word : ℕ
  pub start_spelled : IntAt c at middle start
  pub duration_spelled : IntAt c middle delta_at duration
  pub delta_spelled : IntAt c delta_at delta_end word
  pub kind_within : delta_end + 1 ≤ end
  pub count : IntAt c (delta_end + 1) first (length pools)
  pub rest : ArePools c k first pools end
