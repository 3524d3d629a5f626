-- What each answer of a cutter says.
use Rattle.std.specs.Prelude.{◌≡◌, ℕ, ◌+◌, ◌<◌, ◌≤◌, ◌^◌, Bool, true, false, not, List, [], length, Some}
use Rattle.jfr_base.specs.declared.flaw.Flaw.{Flaw}
use Rattle.jfr_base.specs.declared.flaw.Refusal.{Refusal}
use Rattle.jfr_base.specs.declared.reason.Reason.{Reason}
use Rattle.jfr_base.specs.declared.reason.Reason.TheVariants.{Magic, Version, Unfinished, NotCompact, ChunkSize}
use Rattle.jfr_outside.specs.World.{World}
use Rattle.jfr_outside.specs.Counts.{Rose}
use Rattle.jfr_header.specs.Fronts as fronts
use Rattle.jfr_header.specs.Fronts.{front, reach, Whole}
use Rattle.jfr_header.specs.Taking.{Took, Takes}
use Rattle.jfr_header.specs.Cutters.{Cutter}
use Rattle.jfr_header.specs.declared.cutter.Cut.{Cut}
use Rattle.jfr_header.specs.declared.cutter.Cut.TheVariants.{Chunk, End, Refused, Failed, Memory}

-- A refusal without the chunk's number.
abbrev pub flaw_of : Refusal → Flaw
flaw_of r = record { offset = r.offset; reason = r.reason }

-- The refusal with this chunk number and this flaw.
abbrev pub at_chunk : ℕ → Flaw → Refusal
at_chunk number f = record { chunk = number; offset = f.offset; reason = f.reason }

-- What is at the front of the bytes that a cutter has left.
abbrev pub ahead_of : Cutter → List ℕ → fronts.Front
ahead_of c rest = front rest c.start (not c.given)

-- A chunk was given: it is whole, it starts below byte 2^40, and the cutter continues after it.
pub record GaveChunk (old new : Cutter) : Type 0 where
  pub whole : Whole new.bytes
  pub early : old.start < 2 ^ 40
  pub start : new.start ≡ old.start + length new.bytes
  pub number : new.number ≡ old.number + 1
  pub given : new.given ≡ true
  pub live : new.live ≡ true

-- No chunk was given: the cutter is closed, with its start and its number unchanged.
pub record Closed (old new : Cutter) : Type 0 where
  pub start : new.start ≡ old.start
  pub number : new.number ≡ old.number
  pub given : new.given ≡ old.given
  pub live : new.live ≡ false

-- What an answer says about the cutter, on any place.
abbrev pub CutOf : Cut → Cutter → Cutter → Type 0
CutOf Chunk old new = GaveChunk old new
CutOf End old new = (old.given ≡ true) × Closed old new
CutOf (Refused r) old new = (r.chunk ≡ old.number) × Closed old new
CutOf Failed old new = Closed old new
CutOf Memory old new = Closed old new

-- The count of failed reads rises if the answer is Failed, and is unchanged otherwise.
abbrev pub Counted : Cut → ℕ → ℕ → Type 0
Counted Chunk before now = now ≡ before
Counted End before now = now ≡ before
Counted (Refused r) before now = now ≡ before
Counted Failed before now = (before ≤ now) × Rose before now
Counted Memory before now = now ≡ before

-- The answer for what is at the front, if the next chunk has this number.
abbrev pub answer_to : ℕ → fronts.Front → Cut
answer_to number (fronts.Bad f) = Refused (at_chunk number f)
answer_to number fronts.End = End
answer_to number (fronts.Chunk c) = Chunk

-- The answer is the expected one, unless a read failed or memory ran out.
abbrev pub IsDue : Cut → Cut → Type 0
IsDue Failed due = Unit {0}
IsDue Memory due = Unit {0}
IsDue answer due = answer ≡ due

-- Whether a reason is one that is found in the bytes of a header.
abbrev pub is_header : Reason → Bool
is_header Magic = true
is_header Version = true
is_header Unfinished = true
is_header NotCompact = true
is_header ChunkSize = true
is_header _ = false

-- A claim about the refusal, if the answer is one.
abbrev pub IfRefused : Cut → (Refusal → Type 0) → Type 0
IfRefused (Refused r) P = P r
IfRefused _ P = Unit {0}

-- These bytes of the open input were read, and this was at the front of what was left before.
pub record Found (c : Cutter) (f : fronts.Front) (bytes : List ℕ) (w v : World) : Type 0 where
  pub rest : List ℕ
  pub input : w.input ≡ Some rest
  pub took : Took bytes w v
  pub is : ahead_of c rest ≡ f

-- This flaw was at the front of what was left; no byte past the header and its chunk was read, and exactly 68
-- bytes if the flaw is one of the header.
pub record Refuses (c : Cutter) (r : Refusal) (w v : World) : Type 0 where
  pub bytes : List ℕ
  pub found : Found c (fronts.Bad (flaw_of r)) bytes w v
  pub within : length bytes ≤ reach found.rest
  pub exact : is_header r.reason ≡ true → length bytes ≡ 68

-- What an answer says about a place whose content contracts see.
abbrev pub NextOf : Cut → Cutter → Cutter → World → World → Type 0
NextOf Chunk old new w v = Found old (fronts.Chunk new.bytes) new.bytes w v
NextOf End old new w v = Found old fronts.End [] w v
NextOf (Refused r) old new w v = Refuses old r w v
NextOf Failed old new w v = Takes (λ taken most. taken < most) w v
NextOf Memory old new w v = Takes (λ taken most. taken ≤ most) w v
