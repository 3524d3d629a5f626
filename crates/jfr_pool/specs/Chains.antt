-- The chain of checkpoints: from the last one by deltas to the oldest, whose delta is 0.
use Rattle.std.specs.Prelude.{◌≡◌, ◌≢◌, ℕ, zero, suc, ◌<◌, ℤ, pos, negsuc, ◌+ℤ◌, ◌&&◌, ◌==◌, nat_lt, List, [], ◌∷◌, length, reverse, find, Option, Some, None, Result, Ok, Err, if◌then◌else◌, IsTrue, ◌⊎◌, Contains}
use Rattle.std.specs.Int.{cast_signed, w64}
use Rattle.jfr_base.specs.declared.reason.Reason.{Reason}
use Rattle.jfr_base.specs.declared.reason.Reason.TheVariants.{ChainDelta}
use Rattle.jfr_base.specs.declared.flaw.Flaw.{Flaw}
use Rattle.jfr_base.specs.declared.flaw.ReadFault.{ReadFault}
use Rattle.jfr_base.specs.declared.flaw.ReadFault.TheVariants.{Flawed, Memory}
use Rattle.jfr_base.specs.Formats.{Format, Done, Here, ◌>>=◌, Reads, Fails, Answer, run, integer}
use Rattle.jfr_frame.specs.declared.framed.Framed.{Framed}
use Rattle.jfr_frame.specs.Records.{AreRecords, starts_at, record_end}
use Rattle.jfr_pool.specs.declared.link.Link.{Link}

-- The offset of a checkpoint's delta, the offset after it, and the delta as a signed number.
pub record Delta : Type 0 where
  pub at : ℕ
  pub end : ℕ
  pub value : ℤ

-- A checkpoint's body starts with its start, its duration and its delta.
abbrev pub head_format : Format Delta
head_format = integer >>= λ start. integer >>= λ duration. Here λ at. integer >>= λ value. Here λ end. Done (record { at = at; end = end; value = cast_signed w64 value })

-- A checkpoint of these records, read up to its delta.
pub record IsLink (c : List ℕ) (rs : List Framed) (l : Link) : Type 0 where
  pub framed : Contains rs l.frame
  pub checkpoint : l.frame.type_id ≡ 1
  pub head : Reads head_format c (record_end l.frame) l.frame.body (record { at = l.delta_at; end = l.delta_end; value = l.delta }) l.delta_end

-- A delta that isn't 0 leads from an offset to an earlier one.
pub record StepsTo (at : ℕ) (delta : ℤ) (to : ℕ) : Type 0 where
  pub moves : delta ≢ pos 0
  pub lands : pos at +ℤ delta ≡ pos to
  pub earlier : to < at

-- The checkpoints of the chain from an offset on, newest first: each delta leads to the next checkpoint, and
-- only the last is 0.
abbrev pub IsChain : List ℕ → List Framed → ℕ → List Link → Type 0
IsChain c rs at [] = ⊥
IsChain c rs at (l ∷ []) = IsLink c rs l × (l.frame.at ≡ at) × (l.delta ≡ pos 0)
IsChain c rs at (l ∷ m ∷ ls) = IsLink c rs l × (l.frame.at ≡ at) × StepsTo at l.delta m.frame.at × IsChain c rs m.frame.at (m ∷ ls)

-- A delta is faulty if it is neither 0 nor leads to the start of an earlier checkpoint.
pub record LeadsAstray (rs : List Framed) (at : ℕ) (delta : ℤ) : Type 0 where
  pub moves : delta ≢ pos 0
  pub nowhere : (to : ℕ) → StepsTo at delta to → IsTrue (starts_at rs to 1) → ⊥

-- The flaw of the checkpoint at an offset: an integer that doesn't end within the record, or a faulty delta.
abbrev pub LinkFlaw : List ℕ → List Framed → ℕ → ℕ → Reason → Type 0
LinkFlaw c rs at o why = (r : Framed) × Contains rs r × (r.at ≡ at) ×
    (Fails head_format c (record_end r) r.body o why
    ⊎ ((d : Delta) × Reads head_format c (record_end r) r.body d d.end × (o ≡ d.at) × (why ≡ ChainDelta) × LeadsAstray rs at d.value))

-- The checkpoints of the chain from an offset on are read one after another, and the one after them is
-- faulty.
abbrev pub ChainFlaw : List ℕ → List Framed → ℕ → List Link → ℕ → Reason → Type 0
ChainFlaw c rs at [] o why = LinkFlaw c rs at o why
ChainFlaw c rs at (l ∷ ls) o why = IsLink c rs l × (l.frame.at ≡ at) × (to : ℕ) × StepsTo at l.delta to × IsTrue (starts_at rs to 1) × ChainFlaw c rs to ls o why

-- The chain from an offset on is refused for the flaw of one of its checkpoints. Running out of memory says
-- nothing about the chunk.
abbrev pub IsRefusedChain : List ℕ → List Framed → ℕ → ReadFault → Type 0
IsRefusedChain c rs at (Flawed flaw) = (before : List Link) × ChainFlaw c rs at before flaw.offset flaw.reason
IsRefusedChain c rs at Memory = Unit {0}

-- These checkpoints, oldest first, are the chain from some offset on, among the records of the chunk.
pub record IsReadFrom (c : List ℕ) (links : List Link) : Type 0 where
  pub records : List Framed
  pub last : ℕ
  pub cover : AreRecords c records
  pub chain : IsChain c records last (reverse links)

-- The offset to which a delta leads, if it is an earlier one.
abbrev pub earlier_place : ℕ → ℤ → Option ℕ
earlier_place at (pos to) = if nat_lt to at then Some to else None
earlier_place at (negsuc n) = None

-- The checkpoint that starts at this offset, if there is one.
abbrev pub checkpoint_at : List Framed → ℕ → Option Framed
checkpoint_at rs at = find (λ r. (r.at == at) && (r.type_id == 1)) rs

-- The link of a checkpoint and its delta.
abbrev pub link_of : Framed → Delta → Link
link_of r d = record { frame = r; delta_at = d.at; delta_end = d.end; delta = d.value }

-- This link followed by the others, or the flaw of the others.
abbrev pub before_links : Link → Result (List Link) Flaw → Result (List Link) Flaw
before_links l (Ok ls) = Ok (l ∷ ls)
before_links l (Err flaw) = Err flaw

-- The links after one with this delta, given the checkpoint to which the delta leads. `next` gives its chain.
abbrev pub links_after : Delta → ℤ → Option Framed → (Framed → Result (List Link) Flaw) → Result (List Link) Flaw
links_after d (pos zero) earlier next = Ok []
links_after d delta None next = Err (record { offset = d.at; reason = ChainDelta })
links_after d delta (Some r) next = next r

-- The checkpoint that starts at this offset, if there is an offset and a checkpoint starts there.
abbrev pub earlier_checkpoint : List Framed → Option ℕ → Option Framed
earlier_checkpoint rs None = None
earlier_checkpoint rs (Some to) = checkpoint_at rs to

-- What the delta at an offset gives, if `earlier` is the checkpoint that starts where it leads: this
-- checkpoint, none if the delta is 0, or the flaw of the delta.
abbrev pub older_by : ℕ → ℤ → Option Framed → Result (Option Framed) Flaw
older_by at (pos zero) earlier = Ok None
older_by at delta None = Err (record { offset = at; reason = ChainDelta })
older_by at delta (Some r) = Ok (Some r)

-- The checkpoint to which a link's delta leads, none after the oldest, or the flaw of the delta.
abbrev pub older_of : List Framed → Link → Result (Option Framed) Flaw
older_of rs l = older_by l.delta_at l.delta (earlier_checkpoint rs (earlier_place l.frame.at (pos l.frame.at +ℤ l.delta)))

-- The link of a checkpoint whose head is read, or the flaw of its head.
abbrev pub linked : Framed → Answer Delta → Result Link Flaw
linked r (Err flaw) = Err flaw
linked r (Ok g) = Ok (link_of r g.value)

-- The chain from a checkpoint on, given what was read of its head. `next` gives the chain from an earlier one
-- on.
abbrev pub links_by : List Framed → Framed → Answer Delta → (Framed → Result (List Link) Flaw) → Result (List Link) Flaw
links_by rs r (Err flaw) next = Err flaw
links_by rs r (Ok g) next = before_links (link_of r g.value) (links_after g.value g.value.value (earlier_checkpoint rs (earlier_place r.at (pos r.at +ℤ g.value.value))) next)

-- The chain from a checkpoint on, newest first, or its flaw. Each step goes to an earlier record, so the
-- number of records is a large enough bound.
abbrev pub chain_within : ℕ → List ℕ → List Framed → Framed → Result (List Link) Flaw
chain_within zero c rs r = Ok []
chain_within (suc n) c rs r = links_by rs r (run head_format c (record_end r) r.body) (chain_within n c rs)

-- The chain from the last checkpoint on, newest first, or its flaw, by computing.
unfoldable pub chain_of : List ℕ → List Framed → Framed → Result (List Link) Flaw
chain_of c rs last = chain_within (length rs) c rs last
