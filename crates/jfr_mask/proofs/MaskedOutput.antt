-- The output of a masking is a recording of masked chunks.
use Rattle.std.specs.Prelude.{◌≡◌, ℕ, ◌+◌, ◌<◌, ◌^◌, false, true, List, [], ◌∷◌, length, Option, Some, None}
use Rattle.std.specs.List.{AllByRecursion}
use Rattle.std.proofs.Common.{arith, refl, sym, subst}
use Rattle.std.proofs.Math.Seq.{drop-append_seam}
use Rattle.jfr_base.specs.declared.flaw.Flaw.{Flaw}
use Rattle.jfr_filter.specs.Filters.{Given}
use Rattle.jfr_header.specs.Cuts.{AreCut, cut, joined}
use Rattle.jfr_header.specs.Fronts.{End, Whole, front}
use Rattle.jfr_header.proofs.CutLaws.{all_whole, are_cut, cut_is}
use Rattle.jfr_header.proofs.Steps.{whole_front}
use Rattle.jfr_chunk.specs.Chosen.{kept_of}
use Rattle.jfr_chunk.specs.Refusal.{refusal_of}
use Rattle.jfr_output.specs.Recordings.{AreChunksOf, before_refused, unless_refused}
use Rattle.jfr_mask.specs.Commands.{AreMaskedOutputs, IsMaskOf, IsMaskedOutput}
use Rattle.jfr_mask.specs.MaskOf.{Masking, mask_of}
use Rattle.jfr_mask.specs.RecordingLaws.{accepted_chunks, recording_masked}
use Rattle.jfr_mask.specs.Recordings.{all_masked, dictionary_with, masked}
use Rattle.jfr_mask.proofs.HeadlineLaws.{EachIsMasked}
use Rattle.jfr_mask.proofs.MaskedFile.{AllFitAfter}
use Rattle.jfr_mask.proofs.RecordingLaws.{is_masked_output}

nothing_is_the_end : (start : ℕ) → front [] start false ≡ End
unfolding front
nothing_is_the_end start = refl

are_chunks : (bs : List (List ℕ)) → AllByRecursion Whole bs → AreCut bs None (joined bs) 0 false → AreChunksOf bs (joined bs)
are_chunks [] w a = refl
are_chunks (b ∷ bs) w a = cut_is (b ∷ bs) None (joined (b ∷ bs)) 0 true (whole_front b (joined bs) 0 true w.0 (omega arith), a.1)

-- A masked chunk is whole.
whole_of : {g : Given} {m : Masking} {d : List (List ℕ)} {c b : List ℕ} (is : IsMaskedOutput g m d c b) → Whole (mask_of m d is.parts (kept_of g is.parts))
unfolding mask_of
whole_of is = is.masked.accepted.whole

module _ (each : EachIsMasked) (g : Given) (m : Masking) where
  -- The chunks before the first refused one have masked chunks, which are whole.
  record Outputs (d : List (List ℕ)) (before : ℕ) (cs : List (List ℕ)) : Type 0 where
    pub outputs : AreMaskedOutputs g m d cs (all_masked g m d cs)
    pub cut_so : AreCut (all_masked g m d cs) None (joined (all_masked g m d cs)) before false

  outputs_of : (d : List (List ℕ)) (before : ℕ) (cs : List (List ℕ)) → AllByRecursion Whole cs → AllFitAfter g m d before (before_refused refusal_of cs)
      → Outputs d before (before_refused refusal_of cs)
  outputs_of d before [] w f = record { outputs = tt; cut_so = nothing_is_the_end before }
  outputs_of d before (c ∷ cs) w f = by_flaw (refusal_of c) refl f (λ e h. outputs_of (dictionary_with g m d c) (before + length (masked g m d c)) cs w.1 h)
    where
      rest_cut : (b : List ℕ) (bs : List (List ℕ)) → Whole b → before < 2 ^ 40 → AreCut bs None (joined bs) (before + length b) false → AreCut (b ∷ bs) None (joined (b ∷ bs)) before false
      rest_cut b bs whole early later = (
        whole_front b (joined bs) before false whole early,
        subst (λ z. AreCut bs None z (before + length b) false) (sym (drop-append_seam b (joined bs))) later,
      )

      by_flaw : (o : Option Flaw) → refusal_of c ≡ o → AllFitAfter g m d before (unless_refused o (c ∷ before_refused refusal_of cs))
          → (refusal_of c ≡ None → AllFitAfter g m (dictionary_with g m d c) (before + length (masked g m d c)) (before_refused refusal_of cs) → Outputs (dictionary_with g m d c) (before + length (masked g m d c)) (before_refused refusal_of cs))
          → Outputs d before (unless_refused o (c ∷ before_refused refusal_of cs))
      by_flaw (Some flaw) e f later = record { outputs = tt; cut_so = nothing_is_the_end before }
      by_flaw None e f later =
          let is = is_masked_output each g m d c w.0 e f.1 in
          let whole : Whole (masked g m d c) = subst Whole (sym is.becomes) (whole_of is) in
          let rest = later e f.2 in
          record {
            outputs = (is, rest.outputs);
            cut_so = rest_cut (masked g m d c) (all_masked g m (dictionary_with g m d c) (before_refused refusal_of cs)) whole f.0 rest.cut_so;
          }

  -- What is written is a recording of masked chunks.
  pub is_mask_of : (x : List ℕ) → AllFitAfter g m [] 0 (accepted_chunks x) → IsMaskOf g m x (recording_masked g m x)
  is_mask_of x f =
      let cs = (cut x 0 true).chunks in
      let o = outputs_of [] 0 cs (all_whole cs (cut x 0 true).flaw x 0 true (are_cut x 0 true)) f in
      let bs = all_masked g m [] (accepted_chunks x) in
      record { results = bs; outputs = o.outputs; bytes = refl; chunks = are_chunks bs (all_whole bs None (joined bs) 0 false o.cut_so) o.cut_so }
