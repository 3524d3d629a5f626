-- Recordings that are read chunk by chunk.
use Rattle.std.specs.Prelude.{◌≡◌, ◌+◌, ℕ, Bool, true, false, not, List, [], ◌∷◌, ◌++◌, length, map, Option, Some, None, option_map, Result, Ok, Err, IsSomeAnd}
use Rattle.std.specs.List.{AllByRecursion}
use Rattle.std.proofs.Common.{ap, refl, sym, ◌∙◌, subst}
use Rattle.jfr_base.specs.declared.flaw.Flaw.{Flaw}
use Rattle.jfr_base.specs.declared.flaw.Refusal.{Refusal}
use Rattle.jfr_outside.specs.World.{World, file, opened}
use Rattle.jfr_header.specs.Cuts.{Cuts, cut}
use Rattle.jfr_header.specs.Cutters.{Cutter}
use Rattle.jfr_header.specs.Fronts as fronts
use Rattle.jfr_header.specs.Fronts.{front, Whole}
use Rattle.jfr_header.specs.Nexts.{Found, GaveChunk, Refuses, flaw_of, at_chunk}
use Rattle.jfr_header.specs.Taking.{IsKept, Takes}
use Rattle.jfr_header.proofs.Cutting.{cut_chunk, cut_end, cut_bad}
use Rattle.jfr_header.proofs.CutLaws.{all_whole, are_cut}
use Rattle.jfr_header.proofs.Steps.{some_ahead, same_some, split}
use Rattle.jfr_chunk.specs.Parts.{Parts, AreParts}
use Rattle.jfr_chunk.specs.Refusal.{read_parts}
use Rattle.jfr_chunk.proofs.ChainAnswers.{is_computed}
use Rattle.jfr_verify.specs.Recordings.{Recording, read_on, recording_from, recording_in, recording_of, unread_recording, HasUnread, IsRead}

same_left : (later : List ℕ) (n m s t : ℕ) (b : Bool) → m ≡ n → t ≡ s → b ≡ false → recording_in n (cut later s false) ≡ recording_in m (cut later t b)
same_left later n m s t b e f h =
    sym (ap (λ k. recording_in k (cut later t b)) e ∙ ap (λ k. recording_in n (cut later k b)) f ∙ ap (λ k. recording_in n (cut later s k)) h)

-- A chunk at the front is read, and then what follows it.
chunk_left : (c d : Cutter) (left later : List ℕ) → front left c.start (not c.given) ≡ fronts.Chunk d.bytes → left ≡ d.bytes ++ later → GaveChunk c d
    → unread_recording c left ≡ read_on c.number (read_parts d.bytes) (unread_recording d later)
chunk_left c d left later f p gave =
    ap (recording_in c.number) (cut_chunk left d.bytes later c.start (not c.given) f p)
    ∙ ap (read_on c.number (read_parts d.bytes)) (same_left later (c.number + 1) d.number (c.start + length d.bytes) d.start (not d.given) gave.number gave.start (ap not gave.given))

module _ (c d : Cutter) (Claim : Recording → Type 0) (w v u : World) (h : HasUnread c Claim w v) where
  -- The cutter gave a chunk.
  pub next_left : GaveChunk c d → Found c (fronts.Chunk d.bytes) d.bytes v u → HasUnread d (λ k. Claim (read_on c.number (read_parts d.bytes) k)) w u
  next_left gave n =
      let o = some_ahead (λ (l : List ℕ). d.bytes ++ l) u.input v.input n.rest n.took.input n.input in
      let p = split d.bytes v u o n.took in
      let first : h.unread ≡ n.rest = same_some h.unread n.rest (sym h.input ∙ n.input) in
      let whole : h.unread ≡ p.rest = same_some h.unread p.rest (sym h.input ∙ p.before) in
      record {
        same = (n.took.files ∙ h.same.0, n.took.output ∙ h.same.1);
        unread = p.left;
        input = p.after;
        claim = subst Claim (chunk_left c d h.unread p.left (ap (λ (l : List ℕ). front l c.start (not c.given)) first ∙ n.is) (whole ∙ p.parts) gave) h.claim;
      }

  -- The cutter is at the end.
  pub end_left : Found c fronts.End [] v u → IsKept w u × Claim (record { parts = []; refusal = None })
  end_left n =
      let first : h.unread ≡ n.rest = same_some h.unread n.rest (sym h.input ∙ n.input) in (
        (n.took.files ∙ h.same.0, n.took.output ∙ h.same.1),
        subst Claim (ap (recording_in c.number) (cut_end h.unread c.start (not c.given) (ap (λ (l : List ℕ). front l c.start (not c.given)) first ∙ n.is))) h.claim,
      )

  -- The cutter refused what follows.
  pub refused_left : (r : Refusal) → r.chunk ≡ c.number → Refuses c r v u → IsKept w u × Claim (record { parts = []; refusal = Some r })
  refused_left r e n =
      let first : h.unread ≡ n.found.rest = same_some h.unread n.found.rest (sym h.input ∙ n.found.input) in
      let flawed = cut_bad h.unread c.start (not c.given) (flaw_of r) (ap (λ (l : List ℕ). front l c.start (not c.given)) first ∙ n.found.is) in
      let numbered : recording_in c.number (record { chunks = []; flaw = Some (flaw_of r) }) ≡ record { parts = []; refusal = Some r } =
      sym (ap (λ (k : ℕ). record { parts = []; refusal = Some (at_chunk k (flaw_of r)) }) e) in
      ((n.found.took.files ∙ h.same.0, n.found.took.output ∙ h.same.1), subst Claim (ap (recording_in c.number) flawed ∙ numbered) h.claim)

  -- Nothing but the input has changed.
  pub taken_left : (Fits : ℕ → ℕ → Type 0) → Takes Fits v u → IsKept w u
  taken_left Fits n = (n.1.files ∙ h.same.0, n.1.output ∙ h.same.1)

-- One claim about the chunks that are left from another.
pub map_left : (c : Cutter) (Claim More : Recording → Type 0) (w v : World) → ((k : Recording) → Claim k → More k) → HasUnread c Claim w v → HasUnread c More w v
map_left c Claim More w v f h = record { same = h.same; unread = h.unread; input = h.input; claim = f (unread_recording c h.unread) h.claim }

-- A claim about what is there, and what is there.
pub from_some : {X : Type 0} (o : Option X) (P : X → Type 0) → IsSomeAnd o P → (x : X) × (o ≡ Some x) × P x
from_some None P h = absurd h
from_some (Some x) P h = (x, refl, h)

pub some_at : {X : Type 0} (o : Option X) (x : X) (P : X → Type 0) → o ≡ Some x → P x → IsSomeAnd o P
some_at o x P e h = subst (λ z. IsSomeAnd z P) (sym e) h

-- These chunks, followed by later ones.
abbrev pub after_parts : List Parts → Recording → Recording
after_parts ps later = record { parts = ps ++ later.parts; refusal = later.refusal }

-- The chunks that follow, after one more.
pub one_more : (n : ℕ) (ps : List Parts) (p : Parts) (x : List ℕ) (k : Recording) → recording_of x ≡ after_parts ps (read_on n (Ok p) k) → recording_of x ≡ after_parts (ps ++ p ∷ []) k
one_more n ps p x k e = e ∙ ap (λ (z : List Parts). record { parts = z; refusal = k.refusal }) (shift ps)
  where
    shift : (ps : List Parts) → ps ++ p ∷ k.parts ≡ (ps ++ p ∷ []) ++ k.parts
    shift [] = refl
    shift (q ∷ ps) = ap (λ z. q ∷ z) (shift ps)

-- A file that was opened has all its chunks left.
pub opened_left : (c : Cutter) (x : List ℕ) (name : List ℕ) (w : World) → c.start ≡ 0 → c.number ≡ 1 → c.given ≡ false → file w name ≡ Some x → HasUnread c (λ k. recording_of x ≡ k) w (opened name w)
unfolding recording_of
opened_left c x name w s n g e = record {
  same = (refl, refl);
  unread = x;
  input = e;
  claim = sym (ap (λ k. recording_in k (cut x c.start (not c.given))) n ∙ ap (λ k. recording_in 1 (cut x k (not c.given))) s ∙ ap (λ k. recording_in 1 (cut x 0 (not k))) g);
}

-- ---- what is read

-- The chunks that are read are whole, have these parts, and are all if none is refused.
record IsReadFrom (k : Recording) (cs : List (List ℕ)) (flaw : Option Flaw) : Type 0 where
  whole : AllByRecursion (λ p. Whole p.bytes) k.parts
  parts : AllByRecursion AreParts k.parts
  all : k.refusal ≡ None → (cs ≡ map (λ p. p.bytes) k.parts) × (flaw ≡ None)

no_flaw : (n : ℕ) (o : Option Flaw) → option_map (at_chunk n) o ≡ None → o ≡ None
no_flaw n None e = refl
no_flaw n (Some f) e = cc

read_from : (n : ℕ) (cs : List (List ℕ)) (flaw : Option Flaw) → AllByRecursion Whole cs → IsReadFrom (recording_from n cs flaw) cs flaw
read_from n [] flaw w = record { whole = tt; parts = tt; all = λ e. (refl, no_flaw n flaw e) }
read_from n (c ∷ cs) flaw w = by_parts (read_parts c) refl (read_from (n + 1) cs flaw w.1)
  where
    by_parts : (r : Result Parts Flaw) → read_parts c ≡ r → IsReadFrom (recording_from (n + 1) cs flaw) cs flaw → IsReadFrom (read_on n r (recording_from (n + 1) cs flaw)) (c ∷ cs) flaw
    by_parts (Ok p) e later =
        let h : (p.bytes ≡ c) × AreParts p = ((is_computed c w.0.long).parts p).1 e in
        record {
          whole = (subst Whole (sym h.0) w.0, later.whole);
          parts = (h.1, later.parts);
          all = λ f. (let t = later.all f in (ap (λ z. z ∷ cs) (sym h.0) ∙ ap (λ z. p.bytes ∷ z) t.0, t.1));
        }
    by_parts (Err f) e later = record { whole = tt; parts = tt; all = λ h. cc }

-- What is read of a recording.
pub is_read : (x : List ℕ) → IsRead x
unfolding recording_of
is_read x =
    let k : Cuts = cut x 0 true in
    let r = read_from 1 k.chunks k.flaw (all_whole k.chunks k.flaw x 0 true (are_cut x 0 true)) in
    record {
      whole = r.whole;
      parts = r.parts;
      all = λ e. (let t = r.all e in ap (λ (z : List (List ℕ)). record { chunks = z; flaw = k.flaw }) t.0
          ∙ ap (λ (z : Option Flaw). record { chunks = map (λ p. p.bytes) (recording_in 1 k).parts; flaw = z }) t.1);
    }
