-- The entries of the chained checkpoints, in the order of the file, and which of them are in force.
use Rattle.std.specs.Prelude.{◌≡◌, ◌⊎◌, ℕ, ◌+◌, ◌&&◌, ◌==◌, Bool, false, List, [], ◌∷◌, ◌++◌, map, Option, Some, None, is_some, Result, Ok, Err, if◌then◌else◌, option_and_then, slice_get}
use Rattle.jfr_base.specs.declared.reason.Reason.{Reason}
use Rattle.jfr_base.specs.declared.reason.Reason.TheVariants.{PoolType}
use Rattle.jfr_base.specs.declared.flaw.Flaw.{Flaw}
use Rattle.jfr_base.specs.declared.flaw.ReadFault.{ReadFault}
use Rattle.jfr_base.specs.declared.flaw.ReadFault.TheVariants.{Flawed, Memory}
use Rattle.jfr_base.specs.Formats.{Format, Done, Stop, Int, Run, Here, ◌>>=◌, times, Reads, Fails, Answer, run, integer}
use Rattle.jfr_layout.specs.declared.shape.Shape.{Shape}
use Rattle.jfr_layout.specs.Classes.{Classes, find_class}
use Rattle.jfr_frame.specs.Records.{record_end}
use Rattle.jfr_value.specs.Values.{Value}
use Rattle.jfr_value.specs.Reading.{value_format}
use Rattle.jfr_value.specs.Nodes.{NodeAt}
use Rattle.jfr_pool.specs.declared.link.Link.{Link}
use Rattle.jfr_pool.specs.declared.entry.EntryAt.{EntryAt}

-- The shape of an inline value.
abbrev pub inline : ℕ → Shape
inline class = record { class = class; constant = false; array = false }

-- An entry in its pool: its key, the offsets of key and value, the offset after it, and the value.
pub record Constant : Type 0 where
  pub key : ℕ
  pub key_at : ℕ
  pub value_at : ℕ
  pub end : ℕ
  pub value : Value

-- A key, and an inline value of the class.
abbrev pub constant_format : Classes → ℕ → Format Constant
constant_format k class =
    Here λ key_at. integer >>= λ key. Here λ value_at. value_format k (inline class) >>= λ value. Here λ end.
    Done (record { key = key; key_at = key_at; value_at = value_at; end = end; value = value })

-- A pool: its class, and its entries in order.
pub record PoolAt : Type 0 where
  pub class : ℕ
  pub constants : List Constant

-- A pool is refused if its class isn't known.
abbrev pub pool_check : Classes → ℕ → Option Reason
pool_check k class = if is_some (find_class k class) then None else Some PoolType

-- A pool: a class id, a count, and this many entries.
abbrev pub pool_format : Classes → Format PoolAt
pool_format k = Int (pool_check k) λ class spelled. integer >>= λ n. times n (constant_format k class) >>= λ constants. Done (record { class = class; constants = constants })

-- A checkpoint's body: start, duration, delta, a type byte, a count, this many pools, and nothing more.
unfoldable pub checkpoint_format : Classes → Format (List PoolAt)
checkpoint_format k =
    integer >>= λ start. integer >>= λ duration. integer >>= λ delta. Run 1 λ kind. integer >>= λ n. times n (pool_format k) >>= λ pools. Stop (Done pools)

-- The entry of a pool, by the numbers of its checkpoint and of the pool and by the pool's class.
abbrev pub entry_of : ℕ → ℕ → ℕ → Constant → EntryAt
entry_of checkpoint pool class e = record { class = class; key = e.key; key_at = e.key_at; value_at = e.value_at; end = e.end; checkpoint = checkpoint; pool = pool }

-- The entries of a checkpoint's pools, the first of which has the number `pool`.
abbrev pub entries_from : ℕ → ℕ → List PoolAt → List EntryAt
entries_from checkpoint pool [] = []
entries_from checkpoint pool (p ∷ ps) = map (entry_of checkpoint pool p.class) p.constants ++ entries_from checkpoint (pool + 1) ps

-- The entries of checkpoints in the order of the file, the first of which has this number: each body is read
-- whole.
abbrev pub AreEntries : List ℕ → Classes → ℕ → List Link → List EntryAt → Type 0
AreEntries c k number [] es = es ≡ []
AreEntries c k number (l ∷ ls) es =
    (pools : List PoolAt) × Reads (checkpoint_format k) c (record_end l.frame) l.frame.body pools (record_end l.frame)
    × (later : List EntryAt) × (es ≡ entries_from number 0 pools ++ later) × AreEntries c k (number + 1) ls later

-- One body is faulty, and those before it are read whole.
abbrev pub EntriesFlaw : List ℕ → Classes → List Link → ℕ → Reason → Type 0
EntriesFlaw c k [] o why = ⊥
EntriesFlaw c k (l ∷ ls) o why =
    Fails (checkpoint_format k) c (record_end l.frame) l.frame.body o why
    ⊎ ((pools : List PoolAt) × Reads (checkpoint_format k) c (record_end l.frame) l.frame.body pools (record_end l.frame) × EntriesFlaw c k ls o why)

-- The entries are refused for the flaw of the first faulty body. Running out of memory says nothing about the
-- chunk.
abbrev pub IsRefusedEntries : List ℕ → Classes → List Link → ReadFault → Type 0
IsRefusedEntries c k ls (Flawed flaw) = EntriesFlaw c k ls flaw.offset flaw.reason
IsRefusedEntries c k ls Memory = Unit {0}

-- These entries followed by the later ones, or the flaw of the later ones.
abbrev pub before_entries : List EntryAt → Result (List EntryAt) Flaw → Result (List EntryAt) Flaw
before_entries es (Ok later) = Ok (es ++ later)
before_entries es (Err flaw) = Err flaw

-- The entries of a checkpoint's pools followed by those of later checkpoints, or the first flaw.
abbrev pub entries_by : ℕ → Answer (List PoolAt) → Result (List EntryAt) Flaw → Result (List EntryAt) Flaw
entries_by number (Err flaw) later = Err flaw
entries_by number (Ok g) later = before_entries (entries_from number 0 g.value) later

-- The entries of checkpoints in the order of the file, the first of which has this number, or the first flaw,
-- by computing.
abbrev pub entries_of : List ℕ → Classes → ℕ → List Link → Result (List EntryAt) Flaw
entries_of c k number [] = Ok []
entries_of c k number (l ∷ ls) = entries_by number (run (checkpoint_format k) c (record_end l.frame) l.frame.body) (entries_of c k (number + 1) ls)

-- The later number, if there is one; otherwise n, if the test of entry n holds.
abbrev pub or_later : ℕ → Bool → Option ℕ → Option ℕ
or_later n this (Some later) = Some later
or_later n this None = if this then Some n else None

-- The number of the last entry with this class and key, of entries numbered from n on.
abbrev pub last_from : ℕ → List EntryAt → ℕ × ℕ → Option ℕ
last_from n [] target = None
last_from n (e ∷ es) target = or_later n ((e.class == target.0) && (e.key == target.1)) (last_from (n + 1) es target)

-- The number of the entry in force for a class and a key: the last one with both.
unfoldable pub number_in_force : List EntryAt → ℕ × ℕ → Option ℕ
number_in_force es target = last_from 0 es target

-- The entry in force for a class and a key.
abbrev pub in_force : List EntryAt → ℕ × ℕ → Option EntryAt
in_force es target = option_and_then (λ n. slice_get es n) (number_in_force es target)

-- The entry with this number is the one in force for its class and key.
pub record IsInForce (es : List EntryAt) (number : ℕ) : Type 0 where
  pub entry : EntryAt
  pub holds : slice_get es number ≡ Some entry
  pub last : number_in_force es (entry.class, entry.key) ≡ Some number

-- The node of an entry's value.
abbrev pub entry_node : EntryAt → NodeAt
entry_node e = record { shape = inline e.class; at = e.value_at; end = e.end }
