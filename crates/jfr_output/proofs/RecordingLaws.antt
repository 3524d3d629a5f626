-- The output of a recording is a recording: it is cut into the chunks that were written.
use Rattle.std.specs.Prelude.{◌≡◌, ℕ, ◌+◌, ◌^◌, ◌<◌, ◌≤◌, List, [], ◌∷◌, map, length, drop, Bool, true, false, Option, Some, None, nat_le}
use Rattle.std.specs.List.{AllByRecursion}
use Rattle.std.proofs.Common.{ap, arith, refl, sym, subst, ◌∙◌}
use Rattle.std.proofs.Math.Seq.{drop-append_seam}
use Rattle.jfr_base.specs.declared.flaw.Flaw.{Flaw}
use Rattle.jfr_base.specs.declared.flaw.ReadFault.{ReadFault}
use Rattle.jfr_base.specs.declared.flaw.ReadFault.TheVariants.{Flawed, Memory}
use Rattle.jfr_base.specs.declared.reason.Reason.TheVariants.{TooLong}
use Rattle.jfr_header.specs.Fronts.{Bad, End, Chunk, Whole, flaw_at, front}
use Rattle.jfr_header.specs.Cuts.{AreCut, cut, joined}
use Rattle.jfr_header.proofs.CutLaws.{Begins, all_whole, are_cut, cut_is, front_begins}
use Rattle.jfr_header.proofs.Steps.{front_long, whole_front}
use Rattle.jfr_plan.specs.Makes.{IsFlawOf}
use Rattle.jfr_pool.specs.Faults.{TellsFlaw}
use Rattle.jfr_chunk.specs.Refusal.{flaw_in, read_parts, refusal_of}
use Rattle.jfr_output.specs.Recordings.{AreChunksOf, before_refused, unless_refused}

-- A chunk that is cut from the front starts below byte 2^40.
begins_early : (rest c : List ℕ) (start : ℕ) (first : Bool) → front rest start first ≡ Chunk c → Whole c → start < 2 ^ 40
begins_early rest c start first e w = by_order (nat_le (2 ^ 40) start) refl
  where
    some : (y : List ℕ) → Begins y (front y start first) → y ≡ rest → 0 < length rest
    some [] b q = absurd (none (subst (λ z. Begins z (Chunk c)) (sym q) (subst (Begins rest) e (front_begins rest start first))))
      where
        none : Begins [] (Chunk c) → ⊥
        none h = by_length c w h.1
          where
            by_length : (d : List ℕ) → Whole d → Rattle.std.specs.Prelude.take (length d) [] ≡ d → ⊥
            by_length [] v k = let l : 68 ≤ 0 = v.long in omega arith
            by_length (a ∷ more) v k = cc
    some (a ∷ more) b q = subst (λ (z : List ℕ). 0 < length z) q (omega arith)

    by_order : (t : Bool) → nat_le (2 ^ 40) start ≡ t → start < 2 ^ 40
    by_order true h =
        let k : 2 ^ 40 ≤ start = grind arith in
        let f : Bad (flaw_at 0 TooLong) ≡ Chunk c = sym (front_long rest start first (some rest (front_begins rest start first) refl) k) ∙ e in
        cc
    by_order false h = grind arith

nothing_is_the_end : (start : ℕ) → front [] start false ≡ End
unfolding front
nothing_is_the_end start = refl

-- The output chunk of each chunk that isn't refused is whole, and no longer.
abbrev pub MakesWhole : (List ℕ → Option Flaw) → (List ℕ → List ℕ) → Type 0
MakesWhole k m = (c : List ℕ) → Whole c → k c ≡ None → Whole (m c) × (length (m c) ≤ length c)

module _ (k : List ℕ → Option Flaw) (m : List ℕ → List ℕ) (good : MakesWhole k m) where
  -- What is written starts no later than what is read, so each of its chunks is found.
  written_cut : (cs : List (List ℕ)) (flaw : Option Flaw) (rest : List ℕ) (start later : ℕ) (first : Bool) → start ≤ later → AreCut cs flaw rest later first
      → AreCut (map m (before_refused k cs)) None (joined (map m (before_refused k cs))) start false
  written_cut [] flaw rest start later first h a = nothing_is_the_end start
  written_cut (c ∷ cs) flaw rest start later first h a =
      by_flaw (k c) refl (λ n i. written_cut cs flaw (drop (length c) rest) (start + n) (later + length c) false (omega (arith, h, i)) a.1)
    where
      by_flaw : (o : Option Flaw) → k c ≡ o
          → ((n : ℕ) → n ≤ length c → AreCut (map m (before_refused k cs)) None (joined (map m (before_refused k cs))) (start + n) false)
          → AreCut (map m (unless_refused o (c ∷ before_refused k cs))) None (joined (map m (unless_refused o (c ∷ before_refused k cs)))) start false
      by_flaw (Some f) e tail = nothing_is_the_end start
      by_flaw None e tail =
          let w : Whole c = (subst (Begins rest) a.0 (front_begins rest later first)).0 in
          let s = good c w e in
          let b : List ℕ = m c in
          let bs : List (List ℕ) = map m (before_refused k cs) in
          let early : later < 2 ^ 40 = begins_early rest c later first a.0 w in (
            whole_front b (joined bs) start false s.0 (omega (arith, h, early)),
            subst (λ z. AreCut bs None z (start + length b) false) (sym (drop-append_seam b (joined bs))) (tail (length b) s.1),
          )

  are_chunks : (bs : List (List ℕ)) → AllByRecursion Whole bs → AreCut bs None (joined bs) 0 false → AreChunksOf bs (joined bs)
  are_chunks [] w a = refl
  are_chunks (b ∷ bs) w a = cut_is (b ∷ bs) None (joined (b ∷ bs)) 0 true (whole_front b (joined bs) 0 true w.0 (omega arith), a.1)

  -- The output is cut into just the chunks that were written.
  pub written_chunks : (x : List ℕ) → AreChunksOf (map m (before_refused k (cut x 0 true).chunks)) (joined (map m (before_refused k (cut x 0 true).chunks)))
  written_chunks x =
      let bs : List (List ℕ) = map m (before_refused k (cut x 0 true).chunks) in
      let a = written_cut (cut x 0 true).chunks (cut x 0 true).flaw x 0 0 true (omega arith) (are_cut x 0 true) in
      are_chunks bs (all_whole bs None (joined bs) 0 false a) a

-- The flaw that reading a chunk returns is the one for which the chunk is refused.
pub refused_by : (c : List ℕ) (fault : ReadFault) → TellsFlaw (read_parts c) fault → IsFlawOf (refusal_of c) fault
unfolding refusal_of
refused_by c (Flawed flaw) e = ap flaw_in e
refused_by c Memory e = tt
