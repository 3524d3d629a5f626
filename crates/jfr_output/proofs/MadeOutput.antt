-- A file that was made of a recording, chunk by chunk, has its output.
use Rattle.std.specs.Prelude.{◌≡◌, ℕ, List, [], ◌∷◌, map, true, Option, Some, None}
use Rattle.std.specs.List.{AllByRecursion}
use Rattle.std.proofs.Common.{refl}
use Rattle.jfr_base.specs.declared.flaw.Flaw.{Flaw}
use Rattle.jfr_outside.specs.World.{World}
use Rattle.jfr_header.specs.Cuts.{cut}
use Rattle.jfr_header.specs.Fronts.{Whole}
use Rattle.jfr_header.proofs.CutLaws.{are_cut, all_whole}
use Rattle.jfr_output.specs.Recordings.{AreChunksOf, AreOutputs, HasOutput, IsOutputOf, before_refused, recording_output, unless_refused}
use Rattle.jfr_output.proofs.MadeFile.{Made}

module _ (refusal : List ℕ → Option Flaw) (becomes : List ℕ → List ℕ) (Is : List ℕ → List ℕ → Type 0) (each : (c : List ℕ) → Whole c → refusal c ≡ None → Is c (becomes c)) where
  -- What a chunk before the first refused one becomes is its output.
  are_outputs : (cs : List (List ℕ)) → AllByRecursion Whole cs → AreOutputs Is (before_refused refusal cs) (map becomes (before_refused refusal cs))
  are_outputs [] w = tt
  are_outputs (c ∷ cs) w = by_flaw (refusal c) refl (are_outputs cs w.1)
    where
      by_flaw : (o : Option Flaw) → refusal c ≡ o → AreOutputs Is (before_refused refusal cs) (map becomes (before_refused refusal cs))
          → AreOutputs Is (unless_refused o (c ∷ before_refused refusal cs)) (map becomes (unless_refused o (c ∷ before_refused refusal cs)))
      by_flaw None e later = (each c w.0 e, later)
      by_flaw (Some flaw) e later = tt

  module _ (chunks : (x : List ℕ) → AreChunksOf (map becomes (before_refused refusal (cut x 0 true).chunks)) (recording_output refusal becomes x)) where
    -- What a recording becomes is its output.
    pub is_output_of : (x : List ℕ) → IsOutputOf refusal Is x (recording_output refusal becomes x)
    is_output_of x =
        let cs : List (List ℕ) = (cut x 0 true).chunks in
        record {
          results = map becomes (before_refused refusal cs);
          outputs = are_outputs cs (all_whole cs (cut x 0 true).flaw x 0 true (are_cut x 0 true));
          bytes = refl;
          chunks = chunks x;
        }

    pub has_output : (input output : List ℕ) (w v : World) → Made refusal becomes input output w v → HasOutput refusal Is input output w v
    has_output input output w v h =
        record { recording = h.recording; read = h.read; written = recording_output refusal becomes h.recording; holds = h.holds; made = is_output_of h.recording }
