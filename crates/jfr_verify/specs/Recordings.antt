-- A recording as it is read: the chunks before its end or its first refused chunk.
use Rattle.std.specs.Prelude.{◌≡◌, ℕ, ◌+◌, true, not, List, [], ◌∷◌, map, Option, Some, None, option_map, Result, Ok, Err}
use Rattle.std.specs.List.{AllByRecursion}
use Rattle.jfr_base.specs.declared.flaw.Flaw.{Flaw}
use Rattle.jfr_base.specs.declared.flaw.Refusal.{Refusal}
use Rattle.jfr_outside.specs.World.{World}
use Rattle.jfr_header.specs.Cuts.{Cuts, cut}
use Rattle.jfr_header.specs.Cutters.{Cutter}
use Rattle.jfr_header.specs.Fronts.{Whole}
use Rattle.jfr_header.specs.Nexts.{at_chunk}
use Rattle.jfr_header.specs.Taking.{IsKept}
use Rattle.jfr_chunk.specs.Parts.{Parts, AreParts}
use Rattle.jfr_chunk.specs.Refusal.{read_parts}

-- The parts of the chunks that are read, and the refusal of the next one, if it is refused.
pub record Recording : Type 0 where
  pub parts : List Parts
  pub refusal : Option Refusal

-- Chunk number n, followed by what comes after it; or its refusal.
abbrev pub read_on : ℕ → Result Parts Flaw → Recording → Recording
read_on n (Ok p) later = record { parts = p ∷ later.parts; refusal = later.refusal }
read_on n (Err flaw) later = record { parts = []; refusal = Some (at_chunk n flaw) }

-- These chunks, of which the first has number n, up to the end or this flaw of what follows them.
abbrev pub recording_from : ℕ → List (List ℕ) → Option Flaw → Recording
recording_from n [] flaw = record { parts = []; refusal = option_map (at_chunk n) flaw }
recording_from n (c ∷ cs) flaw = read_on n (read_parts c) (recording_from (n + 1) cs flaw)

-- The chunks that are cut, of which the first has number n.
abbrev pub recording_in : ℕ → Cuts → Recording
recording_in n cuts = recording_from n cuts.chunks cuts.flaw

-- The recording with these bytes.
unfoldable pub recording_of : List ℕ → Recording
recording_of x = recording_in 1 (cut x 0 true)

-- Each chunk that is read is whole and has these parts. If none is refused, they are all chunks, and the bytes
-- end after them.
pub record IsRead (x : List ℕ) : Type 0 where
  pub whole : AllByRecursion (λ p. Whole p.bytes) (recording_of x).parts
  pub parts : AllByRecursion AreParts (recording_of x).parts
  pub all : (recording_of x).refusal ≡ None → cut x 0 true ≡ record { chunks = map (λ p. p.bytes) (recording_of x).parts; flaw = None }

-- The recording that a cutter has yet to cut, from the bytes that weren't read yet.
abbrev pub unread_recording : Cutter → List ℕ → Recording
unread_recording c unread = recording_in c.number (cut unread c.start (not c.given))

-- A claim about the chunks of the open input that a cutter has yet to cut. The files and the output are
-- unchanged.
pub record HasUnread (c : Cutter) (Claim : Recording → Type 0) (w v : World) : Type 0 where
  pub same : IsKept w v
  pub unread : List ℕ
  pub input : v.input ≡ Some unread
  pub claim : Claim (unread_recording c unread)
