-- Recordings that agree on all that remains of them have the same output, if chunks that do have the same.
use Rattle.std.specs.Prelude.{◌≡◌, ℕ, List, [], ◌∷◌, map, true, Ok, Option, Some, None}
use Rattle.std.specs.List.{AllByRecursion}
use Rattle.std.proofs.Common.{ap, refl}
use Rattle.jfr_base.specs.declared.flaw.Flaw.{Flaw}
use Rattle.jfr_filter.specs.Filters.{Given}
use Rattle.jfr_header.specs.Cuts.{cut, joined}
use Rattle.jfr_header.specs.Fronts.{Whole}
use Rattle.jfr_header.proofs.CutLaws.{are_cut, all_whole}
use Rattle.jfr_chunk.specs.Refusal.{read_parts, refusal_of}
use Rattle.jfr_chunk.proofs.ChainAnswers.{is_computed}
use Rattle.jfr_output.specs.Agreements.{ChunksAgree, EachAgree, RecordingsAgree}
use Rattle.jfr_output.specs.Recordings.{before_refused, recording_output, unless_refused}

-- What chunks that agree are read as.
pub parts_read : (g : Given) (c d : List ℕ) (w : Whole c) (s : ChunksAgree g c d) → read_parts c ≡ Ok s.parts
parts_read g c d w s = ((is_computed c w.long).parts s.parts).0 (s.bytes, s.valid)

pub others_read : (g : Given) (c d : List ℕ) (w : Whole d) (s : ChunksAgree g c d) → read_parts d ≡ Ok s.others
others_read g c d w s = ((is_computed d w.long).parts s.others).0 (s.other_bytes, s.others_valid)

whole_before : (cs : List (List ℕ)) → AllByRecursion Whole cs → AllByRecursion Whole (before_refused refusal_of cs)
whole_before [] w = tt
whole_before (c ∷ cs) w = by_flaw (refusal_of c) (whole_before cs w.1)
  where
    by_flaw : (o : Option Flaw) → AllByRecursion Whole (before_refused refusal_of cs) → AllByRecursion Whole (unless_refused o (c ∷ before_refused refusal_of cs))
    by_flaw None v = (w.0, v)
    by_flaw (Some flaw) v = tt

all_before : (x : List ℕ) → AllByRecursion Whole (before_refused refusal_of (cut x 0 true).chunks)
all_before x = whole_before (cut x 0 true).chunks (all_whole (cut x 0 true).chunks (cut x 0 true).flaw x 0 true (are_cut x 0 true))

module _ (g : Given) (becomes : List ℕ → List ℕ) (same : (c d : List ℕ) → Whole c → Whole d → ChunksAgree g c d → becomes c ≡ becomes d) where
  each_same : (cs ds : List (List ℕ)) → AllByRecursion Whole cs → AllByRecursion Whole ds → EachAgree g cs ds → map becomes cs ≡ map becomes ds
  each_same [] [] w v s = refl
  each_same [] (d ∷ ds) w v s = absurd s
  each_same (c ∷ cs) [] w v s = absurd s
  each_same (c ∷ cs) (d ∷ ds) w v s = λ i. same c d w.0 v.0 s.0 i ∷ each_same cs ds w.1 v.1 s.1 i

  pub output_same : (x y : List ℕ) → RecordingsAgree g x y → recording_output refusal_of becomes x ≡ recording_output refusal_of becomes y
  output_same x y s = ap joined (each_same (before_refused refusal_of (cut x 0 true).chunks) (before_refused refusal_of (cut y 0 true).chunks) (all_before x) (all_before y) s)
