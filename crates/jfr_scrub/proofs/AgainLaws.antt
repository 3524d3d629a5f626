-- What a recording becomes is a recording: it is cut into the chunks that were written, and scrubbed again
-- it stays the same.
use Rattle.std.specs.Prelude.{◌≡◌, ℕ, ◌≤◌, List, [], ◌∷◌, map, length, true, Option, Some, None, Result, Ok, Err}
use Rattle.std.specs.List.{AllByRecursion}
use Rattle.std.proofs.Common.{ap, arith, refl, sym, subst, ◌∙◌}
use Rattle.jfr_base.specs.declared.flaw.Flaw.{Flaw}
use Rattle.jfr_base.specs.declared.reason.Reason.TheVariants.{NoChunk}
use Rattle.jfr_header.specs.Fronts.{Whole, flaw_at, front}
use Rattle.jfr_header.specs.Cuts.{Cuts, cut, joined}
use Rattle.jfr_header.proofs.CutLaws.{all_whole, are_cut}
use Rattle.jfr_header.proofs.Cutting.{cut_bad}
use Rattle.jfr_filter.specs.Filters.{Given, describes}
use Rattle.jfr_chunk.specs.Parts.{Parts, AreParts}
use Rattle.jfr_chunk.specs.Chosen.{kept_of}
use Rattle.jfr_chunk.specs.Scrub.{scrub_of}
use Rattle.jfr_chunk.specs.Refusal.{flaw_in, read_parts, refusal_of}
use Rattle.jfr_chunk.proofs.ChainAnswers.{is_computed}
use Rattle.jfr_laws.proofs.Settled.{settled}
use Rattle.jfr_output.specs.Recordings.{AreChunksOf, AreOutputs, before_refused, unless_refused}
use Rattle.jfr_output.proofs.RecordingLaws.{written_chunks}
use Rattle.jfr_scrub.specs.Headline.{IsScrubbed, IsScrubOf, recording_scrubbed}
use Rattle.jfr_scrub.specs.Scrubs.{scrubbed, scrubbed_by}

-- ---- one chunk

scrubbed_one : (g : Given) (c : List ℕ) (r : Result Parts Flaw) → Whole c → read_parts c ≡ r → flaw_in r ≡ None → IsScrubbed g c (scrubbed_by g r)
scrubbed_one g c (Ok p) w e n =
    let h : (p.bytes ≡ c) × AreParts p = ((is_computed c w.long).parts p).1 e in
    record {
      parts = p;
      bytes = h.0;
      valid = h.1;
      becomes = refl;
      settled = settled g p (subst Whole (sym h.0) w) h.1;
    }
scrubbed_one g c (Err flaw) w e n = cc

-- A chunk that isn't refused is scrubbed.
pub is_scrubbed : (g : Given) (c : List ℕ) → Whole c → refusal_of c ≡ None → IsScrubbed g c (scrubbed g c)
unfolding refusal_of scrubbed
is_scrubbed g c w n = scrubbed_one g c (read_parts c) w refl n

-- And in no other way.
one_scrubbed : (g : Given) (c b : List ℕ) → Whole c → IsScrubbed g c b → (refusal_of c ≡ None) × (b ≡ scrubbed g c)
unfolding refusal_of scrubbed
one_scrubbed g c b w s =
    let e : read_parts c ≡ Ok s.parts = ((is_computed c w.long).parts s.parts).0 (s.bytes, s.valid) in
    (ap flaw_in e, s.becomes ∙ sym (ap (scrubbed_by g) e))

-- What a chunk becomes is whole, and no longer than the chunk.
becomes_whole : (g : Given) (c b : List ℕ) → IsScrubbed g c b → Whole b
becomes_whole g c b s = subst Whole (sym s.becomes) s.settled.kept.whole

becomes_short : (g : Given) (c b : List ℕ) → IsScrubbed g c b → length b ≤ length c
becomes_short g c b s =
    let k : length (scrub_of (describes g) s.parts (kept_of g s.parts)) ≤ length s.parts.bytes = s.settled.kept.size in
    let m : length b ≡ length (scrub_of (describes g) s.parts (kept_of g s.parts)) = ap (λ (z : List ℕ). length z) s.becomes in
    let n : length s.parts.bytes ≡ length c = ap (λ (z : List ℕ). length z) s.bytes in
    omega arith

-- It is accepted, and scrubbed once more it stays the same.
again_of : (g : Given) (c b : List ℕ) (s : IsScrubbed g c b) → read_parts b ≡ Ok s.settled.kept.parts
again_of g c b s =
    let q = s.settled.kept in
    ((is_computed b (becomes_whole g c b s).long).parts q.parts).0 (q.bytes ∙ sym s.becomes, q.valid)

accepted_again : (g : Given) (c b : List ℕ) → IsScrubbed g c b → refusal_of b ≡ None
unfolding refusal_of
accepted_again g c b s = ap flaw_in (again_of g c b s)

same_again : (g : Given) (c b : List ℕ) → IsScrubbed g c b → scrubbed g b ≡ b
unfolding scrubbed
same_again g c b s = ap (scrubbed_by g) (again_of g c b s) ∙ (s.settled.again ∙ (s.settled.kept.bytes ∙ sym s.becomes))

-- The output is cut into just the chunks that were written.
pub recording_chunks : (g : Given) (x : List ℕ) → AreChunksOf (map (scrubbed g) (before_refused refusal_of (cut x 0 true).chunks)) (recording_scrubbed g x)
recording_chunks g x = written_chunks refusal_of (scrubbed g) (λ c w e. let s = is_scrubbed g c w e in (becomes_whole g c (scrubbed g c) s, becomes_short g c (scrubbed g c) s)) x

-- ---- scrubbed again

abbrev Same : Given → List (List ℕ) → Type 0
Same g bs = (before_refused refusal_of bs ≡ bs) × (map (scrubbed g) bs ≡ bs)

all_same : (g : Given) (cs : List (List ℕ)) → AllByRecursion Whole cs → Same g (map (scrubbed g) (before_refused refusal_of cs))
all_same g [] w = (refl, refl)
all_same g (c ∷ cs) w = by_flaw (refusal_of c) refl (all_same g cs w.1)
  where
    by_flaw : (o : Option Flaw) → refusal_of c ≡ o → Same g (map (scrubbed g) (before_refused refusal_of cs)) → Same g (map (scrubbed g) (unless_refused o (c ∷ before_refused refusal_of cs)))
    by_flaw (Some f) e later = (refl, refl)
    by_flaw None e later =
        let s = is_scrubbed g c w.0 e in
        let b : List ℕ = scrubbed g c in
        let bs : List (List ℕ) = map (scrubbed g) (before_refused refusal_of cs) in (
          ap (λ o. unless_refused o (b ∷ before_refused refusal_of bs)) (accepted_again g c b s) ∙ ap (λ z. b ∷ z) later.0,
          ap (λ z. z ∷ map (scrubbed g) bs) (same_again g c b s) ∙ ap (λ z. b ∷ z) later.1,
        )

by_chunks : (g : Given) (bs : List (List ℕ)) → AreChunksOf bs (joined bs) → Same g bs → recording_scrubbed g (joined bs) ≡ joined bs
unfolding front
by_chunks g [] a h = ap (λ (k : Cuts). joined (map (scrubbed g) (before_refused refusal_of k.chunks))) (cut_bad [] 0 true (flaw_at 0 NoChunk) refl)
by_chunks g (b ∷ bs) a h =
    ap (λ (k : Cuts). joined (map (scrubbed g) (before_refused refusal_of k.chunks))) a
    ∙ ap joined (ap (map (scrubbed g)) h.0 ∙ h.1)

-- A scrubbed recording that is scrubbed again stays the same.
pub recording_again : (g : Given) (x : List ℕ) → recording_scrubbed g (recording_scrubbed g x) ≡ recording_scrubbed g x
recording_again g x =
    let cs : List (List ℕ) = (cut x 0 true).chunks in
    by_chunks g (map (scrubbed g) (before_refused refusal_of cs)) (recording_chunks g x) (all_same g cs (all_whole cs (cut x 0 true).flaw x 0 true (are_cut x 0 true)))

-- Outputs that correspond one to one to chunks are those chunks' scrubs.
are_these : (g : Given) (cs bs : List (List ℕ)) → AllByRecursion Whole cs → AreOutputs (IsScrubbed g) cs bs → bs ≡ map (scrubbed g) cs
are_these g [] [] w a = refl
are_these g (c ∷ cs) (b ∷ bs) w a =
    ap (λ z. z ∷ bs) (one_scrubbed g c b w.0 a.0).1 ∙ ap (λ z. scrubbed g c ∷ z) (are_these g cs bs w.1 a.1)
are_these g [] (b ∷ bs) w a = absurd a
are_these g (c ∷ cs) [] w a = absurd a

before_whole : (cs : List (List ℕ)) → AllByRecursion Whole cs → AllByRecursion Whole (before_refused refusal_of cs)
before_whole [] w = tt
before_whole (c ∷ cs) w = by_flaw (refusal_of c) (before_whole cs w.1)
  where
    by_flaw : (o : Option Flaw) → AllByRecursion Whole (before_refused refusal_of cs) → AllByRecursion Whole (unless_refused o (c ∷ before_refused refusal_of cs))
    by_flaw None later = (w.0, later)
    by_flaw (Some f) later = tt

-- A recording has one scrub.
pub one_scrub : (g : Given) (x y : List ℕ) → IsScrubOf g x y → y ≡ recording_scrubbed g x
one_scrub g x y s =
    let cs : List (List ℕ) = (cut x 0 true).chunks in
    s.bytes ∙ ap joined (are_these g (before_refused refusal_of cs) s.results (before_whole cs (all_whole cs (cut x 0 true).flaw x 0 true (are_cut x 0 true))) s.outputs)
