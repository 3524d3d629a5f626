-- The records of a chunk: each is a size, a type and a body, one after another from byte 68 to the chunk's
-- end.
use Rattle.std.specs.Prelude.{◌≡◌, ℕ, zero, suc, ◌+◌, ◌<◌, ◌≤◌, List, [], ◌∷◌, length, Bool, ◌==◌, ◌&&◌, nat_le, Option, None, Some, Result, Ok, Err, slice_range, if◌then◌else◌, ⊤, map, find}
use Rattle.std.specs.List.{list_any}
use Rattle.jfr_base.specs.Integer.{IntAt}
use Rattle.jfr_base.specs.Formats.{int_at}
use Rattle.jfr_base.specs.declared.flaw.Flaw.{Flaw}
use Rattle.jfr_base.specs.declared.integer.Var.{Var}
use Rattle.jfr_base.specs.declared.reason.Reason.TheVariants.{RecordSize}
use Rattle.jfr_frame.specs.declared.framed.Framed.{Framed}

-- A record: it starts with its size, and the type follows the size; the size counts the whole record, and the
-- record lies in the chunk.
pub record IsRecord (c : List ℕ) (r : Framed) : Type 0 where
  pub size_spelled : IntAt c r.at r.type_at r.size
  pub type_spelled : IntAt c r.type_at r.body r.type_id
  pub covers : r.body ≤ r.at + r.size
  pub within : r.at + r.size ≤ length c

-- The offset after a record.
abbrev pub record_end : Framed → ℕ
record_end r = r.at + r.size

-- These records, one after another, cover the bytes from p up to q, without gaps.
abbrev pub Tiles : List ℕ → ℕ → List Framed → ℕ → Type 0
Tiles c p [] q = p ≡ q
Tiles c p (r ∷ rs) q = (r.at ≡ p) × IsRecord c r × Tiles c (record_end r) rs q

-- These are the records of the chunk.
abbrev pub AreRecords : List ℕ → List Framed → Type 0
AreRecords c rs = Tiles c 68 rs (length c)

-- No record starts at this offset.
abbrev pub NoRecord : List ℕ → ℕ → Type 0
NoRecord c at = (r : Framed) → r.at ≡ at → IsRecord c r → ⊥

-- Records cover the bytes up to o, and none starts at o, which is before the chunk's end.
pub record FrameFlaw (c : List ℕ) (o : ℕ) : Type 0 where
  pub before : (rs : List Framed) × Tiles c 68 rs o
  pub more : o < length c
  pub none : NoRecord c o

-- A record of this type starts at this offset.
abbrev pub starts_at : List Framed → ℕ → ℕ → Bool
starts_at rs at type_id = list_any (λ r. (r.at == at) && (r.type_id == type_id)) rs

-- The record of this type that starts at this offset, if there is one.
abbrev pub record_there : List Framed → ℕ → ℕ → Option Framed
record_there rs at type_id = find (λ r. (r.at == at) && (r.type_id == type_id)) rs

-- The offsets at which the records start.
abbrev pub places_of : List Framed → List ℕ
places_of rs = map (λ r. r.at) rs

-- The bytes of a record.
abbrev pub record_bytes : List ℕ → Framed → List ℕ
record_bytes c r = slice_range c r.at (record_end r)

-- The bytes after a record's size and type.
abbrev pub body_bytes : List ℕ → Framed → List ℕ
body_bytes c r = slice_range c r.body (record_end r)

-- Each record starts at a larger offset than the one before it, and the first at p or later.
abbrev pub Rising : ℕ → List Framed → Type 0
Rising p [] = ⊤
Rising p (r ∷ rs) = (p ≤ r.at) × Rising (r.at + 1) rs

-- The record with this size and this type, if it covers both and ends within the chunk.
abbrev pub covering : List ℕ → ℕ → Var → Var → Option Framed
covering c at size id =
    if nat_le id.end (at + size.value) && nat_le (at + size.value) (length c)
    then Some (record { at = at; size = size.value; type_at = size.end; type_id = id.value; body = id.end })
    else None

-- The record with this size, if there is a type.
abbrev pub with_type : List ℕ → ℕ → Var → Option Var → Option Framed
with_type c at size None = None
with_type c at size (Some id) = covering c at size id

-- The record, if there is a size: its type is read after the size.
abbrev pub with_size : List ℕ → ℕ → Option Var → Option Framed
with_size c at None = None
with_size c at (Some size) = with_type c at size (int_at c size.end (length c))

-- The record that starts at this offset, if one does, by computing.
unfoldable pub record_at : List ℕ → ℕ → Option Framed
record_at c at = with_size c at (int_at c at (length c))

-- This record followed by the others, if these have no flaw.
abbrev pub before_records : Framed → Result (List Framed) Flaw → Result (List Framed) Flaw
before_records r (Ok rs) = Ok (r ∷ rs)
before_records r (Err flaw) = Err flaw

-- The records from an offset on: the one that starts there and those from its end on; a flaw if none starts
-- there.
abbrev pub records_by : ℕ → Option Framed → (ℕ → Result (List Framed) Flaw) → Result (List Framed) Flaw
records_by at None next = Err (record { offset = at; reason = RecordSize })
records_by at (Some r) next = before_records r (next (record_end r))

-- The records from an offset to the chunk's end, or the flaw at the first offset where none starts. Each
-- takes at least a byte, so a bound of the chunk's length is enough.
abbrev pub records_within : ℕ → List ℕ → ℕ → Result (List Framed) Flaw
records_within zero c at = Ok []
records_within (suc n) c at = if nat_le (length c) at then Ok [] else records_by at (record_at c at) (records_within n c)

-- The records of a chunk, or its flaw, by computing.
unfoldable pub records_of : List ℕ → Result (List Framed) Flaw
records_of c = records_within (length c) c 68
