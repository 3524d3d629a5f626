-- The laws of masked recordings, from those of chunks that are chosen.
use Rattle.std.specs.Prelude.{◌≡◌, ℕ, ◌<◌, ◌^◌, List, [], ◌∷◌, ◌++◌, length, Some, None, Result, Ok, Err}
use Rattle.std.specs.List.{flat_map}
use Rattle.std.proofs.Common.{ap, refl, sym, subst}
use Rattle.jfr_base.specs.declared.flaw.Flaw.{Flaw}
use Rattle.jfr_filter.specs.Filters.{Given}
use Rattle.jfr_header.specs.Cuts.{joined}
use Rattle.jfr_header.specs.Fronts.{Whole}
use Rattle.jfr_chunk.specs.Chosen.{chosen, kept_of}
use Rattle.jfr_chunk.specs.Parts.{AreParts, Parts}
use Rattle.jfr_chunk.specs.Refusal.{flaw_in, read_parts, refusal_of}
use Rattle.jfr_chunk.proofs.ChainAnswers.{is_computed}
use Rattle.jfr_mask.specs.Commands.{IsMaskedOutput}
use Rattle.jfr_mask.specs.MaskOf.{Masking, last_dictionary, mask_all, mask_of}
use Rattle.jfr_mask.specs.RecordingLaws.{accepted_chunks, chosen_by, chosen_in, recording_chosen, recording_dictionary, recording_masked}
use Rattle.jfr_mask.specs.Recordings.{all_masked, dictionary_by, dictionary_over, dictionary_with, masked, masked_by}
use Rattle.jfr_mask.proofs.HeadlineLaws.{EachIsMasked}

some_none : (flaw : Flaw) → Some flaw ≡ None → ⊥
some_none flaw e = cc

-- What an accepted chunk becomes is masked.
masked_one : EachIsMasked → (g : Given) (m : Masking) (d : List (List ℕ)) (c : List ℕ) (r : Result Parts Flaw) → Whole c → read_parts c ≡ r → flaw_in r ≡ None → length (masked_by g m d r) < 2 ^ 30
    → IsMaskedOutput g m d c (masked_by g m d r)
masked_one each g m d c (Err flaw) w e n small = absurd (some_none flaw n)
masked_one each g m d c (Ok p) w e n small =
    let h : (p.bytes ≡ c) × AreParts p = ((is_computed c w.long).parts p).1 e in
    record { parts = p; bytes = h.0; valid = h.1; becomes = refl; masked = each m d p (chosen g p) h.1 (subst Whole (sym h.0) w) small }

pub is_masked_output : EachIsMasked → (g : Given) (m : Masking) (d : List (List ℕ)) (c : List ℕ) → Whole c → refusal_of c ≡ None → length (masked g m d c) < 2 ^ 30
    → IsMaskedOutput g m d c (masked g m d c)
unfolding refusal_of masked
is_masked_output each g m d c w n small = masked_one each g m d c (read_parts c) w refl n small

module _ (g : Given) (m : Masking) where
  -- The masked chunks, one after another, and the dictionary after them are those of the chosen chunks.
  pub record SameRest (d : List (List ℕ)) (cs : List (List ℕ)) : Type 0 where
    pub bytes : joined (all_masked g m d cs) ≡ joined (mask_all m d (flat_map (chosen_in g) cs))
    pub dictionary : dictionary_over g m d cs ≡ last_dictionary m d (flat_map (chosen_in g) cs)

  same_by : (d : List (List ℕ)) (r : Result Parts Flaw) (cs : List (List ℕ)) → ((e : List (List ℕ)) → SameRest e cs)
      → (masked_by g m d r ++ joined (all_masked g m (dictionary_by g m d r) cs) ≡ joined (mask_all m d (chosen_by g r ++ flat_map (chosen_in g) cs)))
      × (dictionary_over g m (dictionary_by g m d r) cs ≡ last_dictionary m d (chosen_by g r ++ flat_map (chosen_in g) cs))
  same_by d (Err flaw) cs later = ((later d).bytes, (later d).dictionary)
  same_by d (Ok p) cs later =
      let rest = later (dictionary_by g m d (Ok p)) in
      (ap (λ z. mask_of m d p (kept_of g p) ++ z) rest.bytes, rest.dictionary)

  pub same_rest : (d : List (List ℕ)) (cs : List (List ℕ)) → SameRest d cs
  unfolding masked dictionary_with chosen_in
  same_rest d [] = record { bytes = refl; dictionary = refl }
  same_rest d (c ∷ cs) =
      let s = same_by d (read_parts c) cs (λ e. same_rest e cs) in
      record { bytes = s.0; dictionary = s.1 }

  pub masked_same : (x : List ℕ) → recording_masked g m x ≡ joined (mask_all m [] (recording_chosen g x))
  masked_same x = (same_rest [] (accepted_chunks x)).bytes

  pub dictionary_same : (x : List ℕ) → recording_dictionary g m x ≡ last_dictionary m [] (recording_chosen g x)
  dictionary_same x = (same_rest [] (accepted_chunks x)).dictionary
