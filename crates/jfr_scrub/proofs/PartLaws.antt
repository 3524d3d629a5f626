-- A recording in parts is scrubbed part by part.
use Rattle.std.proofs.Common.{◌≡◌, ℕ, ◌+◌, ◌≤◌, ◌<◌, ◌^◌, refl, sym, ◌∙◌, ap, subst, Bool, true, false, List, [], ◌∷◌, ◌++◌, map, drop, length, take, Option, None, Some, append_assoc, length-append, append-nil, arith}
use Rattle.std.specs.List.{AllByRecursion}
use Rattle.std.proofs.lemmas.Grind.{common_steps}
use Rattle.std.proofs.lemmas.List.{drop-append-le, map-append, take-append-drop}
use Rattle.jfr_base.specs.declared.flaw.Flaw.{Flaw}
use Rattle.jfr_base.specs.declared.reason.Reason.TheVariants.{NoChunk}
use Rattle.jfr_header.specs.Fronts.{Bad, End, Whole, flaw_at, front}
use Rattle.jfr_header.specs.Cuts.{AreCut, Cuts, cut, joined}
use Rattle.jfr_header.proofs.CutLaws.{Begins, are_cut, cut_is, front_begins}
use Rattle.jfr_header.proofs.Cutting.{Fits, cut_bad, front_fits}
use Rattle.jfr_header.proofs.Steps.{front_end, front_none, whole_front}
use Rattle.jfr_filter.specs.Filters.{Given}
use Rattle.jfr_plan.specs.Accepted.{AllAccepted}
use Rattle.jfr_chunk.specs.Refusal.{refusal_of}
use Rattle.jfr_output.specs.Recordings.{before_refused, unless_refused}
use Rattle.jfr_scrub.specs.Headline.{AllButLast, recording_scrubbed}
use Rattle.jfr_scrub.specs.Scrubs.{scrubbed}

-- ---- the chunks of two parts

-- Bytes have the same front wherever they start, unless there are none or they start too late.
same_front : (rest : List ℕ) (s t : ℕ) (f : Bool) → 0 < length rest → s < 2 ^ 40 → t < 2 ^ 40 → front rest s f ≡ front rest t false
unfolding front
same_front rest s t f l h k = grind (arith, common_steps)

-- Bytes after the first part are cut into these chunks. Any flaw may follow them.
record AreLater (cs : List (List ℕ)) (rest : List ℕ) (start : ℕ) : Type 0 where
  flaw : Option Flaw
  chunks : AreCut cs flaw rest start false

-- Bytes that are cut as a recording are cut into the same chunks after a first part. What follows them may
-- differ: without a byte, a recording has a flaw, and a part after the first doesn't.
are_later : (cs : List (List ℕ)) (flaw : Option Flaw) (rest : List ℕ) (s t : ℕ) (f : Bool) → s ≤ t → t + length rest ≤ 2 ^ 40 → AreCut cs flaw rest s f → AreLater cs rest t
are_later [] flaw [] s t f h k a = record { flaw = None; chunks = front_end t }
are_later [] None (b ∷ rest) s t f h k a =
    record { flaw = None; chunks = sym (same_front (b ∷ rest) s t f (omega arith) (omega (arith, h, k)) (omega (arith, k))) ∙ a }
are_later [] (Some flaw) (b ∷ rest) s t f h k a =
    record { flaw = Some flaw; chunks = sym (same_front (b ∷ rest) s t f (omega arith) (omega (arith, h, k)) (omega (arith, k))) ∙ a }
are_later (c ∷ cs) flaw rest s t f h k a =
    let n : (0 < length c) × (length c ≤ length rest) = subst (Fits rest) a.0 (front_fits rest s f) in
    let d : length c + length (drop (length c) rest) ≡ length rest = grind (arith, common_steps, n) in
    let later = are_later cs flaw (drop (length c) rest) (s + length c) (t + length c) false (omega (arith, h)) (omega (arith, k, d)) a.1 in
    record { flaw = later.flaw; chunks = (sym (same_front rest s t f (omega (arith, n)) (omega (arith, h, k, n)) (omega (arith, k, n))) ∙ a.0, later.chunks) }

-- The chunks of the first part, then those of the second, are the chunks of both.
of_both : (cs ds : List (List ℕ)) (flaw : Option Flaw) (x y : List ℕ) (s : ℕ) (f : Bool) → s + length x ≤ 2 ^ 40 → AreCut cs None x s f → AreCut ds flaw y (s + length x) false
    → AreCut (cs ++ ds) flaw (x ++ y) s f
of_both [] ds flaw [] y s true h a b = let e : Bad (flaw_at 0 NoChunk) ≡ End = sym (front_none s) ∙ a in cc
of_both [] ds flaw [] y s false h a b = subst (λ (n : ℕ). AreCut ds flaw y n false) (omega arith) b
of_both [] ds flaw (z ∷ x) y s f h a b = let e : z ∷ x ≡ [] = subst (Begins (z ∷ x)) a (front_begins (z ∷ x) s f) in cc
of_both (c ∷ cs) ds flaw x y s f h a b =
    let w : Whole c × (take (length c) x ≡ c) = subst (Begins x) a.0 (front_begins x s f) in
    let n : (0 < length c) × (length c ≤ length x) = subst (Fits x) a.0 (front_fits x s f) in
    let remaining : List ℕ = drop (length c) x in
    let p : x ≡ c ++ remaining = sym (take-append-drop (length c) x) ∙ ap (λ (l : List ℕ). l ++ remaining) w.1 in
    let d : length x ≡ length c + length remaining = ap length p ∙ length-append c remaining in
    let at : s + length x ≡ s + length c + length remaining = omega (arith, d) in
    let later = of_both cs ds flaw remaining y (s + length c) false (omega (arith, h, at)) a.1 (subst (λ (m : ℕ). AreCut ds flaw y m false) at b) in (
      ap (λ (l : List ℕ). front (l ++ y) s f) p ∙ ap (λ (l : List ℕ). front l s f) (append_assoc c remaining y) ∙ whole_front c (remaining ++ y) s f w.0 (omega (arith, h, n)),
      subst (λ (l : List ℕ). AreCut (cs ++ ds) flaw l (s + length c) false) (sym (drop-append-le (length c) x y n.1)) later,
    )

-- A recording without a flaw, followed by another, has the chunks of the two.
chunks_of_both : (x y : List ℕ) → (cut x 0 true).flaw ≡ None → length x + length y ≤ 2 ^ 40 → (cut (x ++ y) 0 true).chunks ≡ (cut x 0 true).chunks ++ (cut y 0 true).chunks
chunks_of_both x y e h =
    let cs : List (List ℕ) = (cut x 0 true).chunks in
    let ds : List (List ℕ) = (cut y 0 true).chunks in
    let first : AreCut cs None x 0 true = subst (λ (o : Option Flaw). AreCut cs o x 0 true) e (are_cut x 0 true) in
    let later = are_later ds (cut y 0 true).flaw y 0 (0 + length x) true (omega arith) (omega (arith, h)) (are_cut y 0 true) in
    ap (λ (k : Cuts). k.chunks) (cut_is (cs ++ ds) later.flaw (x ++ y) 0 true (of_both cs ds later.flaw x y 0 true (omega (arith, h)) first later.chunks))

-- ---- their scrubs

-- If no chunk of the first part is refused, those of the second before a refused one follow.
before_both : (k : List ℕ → Option Flaw) (cs ds : List (List ℕ)) → AllByRecursion (λ c. k c ≡ None) cs → before_refused k (cs ++ ds) ≡ before_refused k cs ++ before_refused k ds
before_both k [] ds h = refl
before_both k (c ∷ cs) ds h =
    ap (λ (o : Option Flaw). unless_refused o (c ∷ before_refused k (cs ++ ds))) h.0
    ∙ ap (λ (l : List (List ℕ)). c ∷ l) (before_both k cs ds h.1)
    ∙ sym (ap (λ (o : Option Flaw). unless_refused o (c ∷ before_refused k cs) ++ before_refused k ds) h.0)

joined_append : (cs ds : List (List ℕ)) → joined (cs ++ ds) ≡ joined cs ++ joined ds
joined_append [] ds = refl
joined_append (c ∷ cs) ds = ap (λ (l : List ℕ). c ++ l) (joined_append cs ds) ∙ sym (append_assoc c (joined cs) (joined ds))

-- The scrub of an accepted recording with another after it is the scrubs of the two.
pub two_parts : (g : Given) (x y : List ℕ) → AllAccepted refusal_of x → length x + length y ≤ 2 ^ 40 → recording_scrubbed g (x ++ y) ≡ recording_scrubbed g x ++ recording_scrubbed g y
two_parts g x y a h =
    let cs : List (List ℕ) = (cut x 0 true).chunks in
    let ds : List (List ℕ) = (cut y 0 true).chunks in
    ap (λ (l : List (List ℕ)). joined (map (scrubbed g) (before_refused refusal_of l))) (chunks_of_both x y a.flawless h)
    ∙ ap (λ (l : List (List ℕ)). joined (map (scrubbed g) l)) (before_both refusal_of cs ds a.each)
    ∙ ap joined (map-append (scrubbed g) (before_refused refusal_of cs) (before_refused refusal_of ds))
    ∙ joined_append (map (scrubbed g) (before_refused refusal_of cs)) (map (scrubbed g) (before_refused refusal_of ds))

-- The scrub of parts, one after another, is the scrubs of the parts.
pub all_parts : (g : Given) (parts : List (List ℕ)) → AllButLast (AllAccepted refusal_of) parts → length (joined parts) ≤ 2 ^ 40
    → recording_scrubbed g (joined parts) ≡ joined (map (recording_scrubbed g) parts)
unfolding front
all_parts g [] a h = ap (λ (k : Cuts). joined (map (scrubbed g) (before_refused refusal_of k.chunks))) (cut_bad [] 0 true (flaw_at 0 NoChunk) refl)
all_parts g (x ∷ []) a h = ap (recording_scrubbed g) (append-nil x) ∙ sym (append-nil (recording_scrubbed g x))
all_parts g (x ∷ y ∷ parts) a h =
    let n : length (joined (x ∷ y ∷ parts)) ≡ length x + length (joined (y ∷ parts)) = length-append x (joined (y ∷ parts)) in
    two_parts g x (joined (y ∷ parts)) a.0 (omega (arith, h, n))
    ∙ ap (λ (l : List ℕ). recording_scrubbed g x ++ l) (all_parts g (y ∷ parts) a.1 (omega (arith, h, n)))
