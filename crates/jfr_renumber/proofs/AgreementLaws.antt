-- Recordings that agree on all that remains of them have the same output with new keys.
use Rattle.std.specs.Prelude.{◌≡◌, ℕ, List}
use Rattle.std.proofs.Common.{ap, sym, ◌∙◌}
use Rattle.jfr_filter.specs.Filters.{Given, describes}
use Rattle.jfr_header.specs.Fronts.{Whole}
use Rattle.jfr_chunk.specs.Chosen.{chosen, kept_of}
use Rattle.jfr_chunk.specs.Metas.{new_metadata}
use Rattle.jfr_chunk.specs.Refusal.{refusal_of}
use Rattle.jfr_renumber.proofs.OnlyKeptAnew.{same_renumber}
use Rattle.jfr_laws.proofs.Same.{chosen_events}
use Rattle.jfr_output.specs.Agreements.{ChunksAgree, RecordingsAgree}
use Rattle.jfr_output.specs.Recordings.{recording_output}
use Rattle.jfr_output.proofs.AgreementLaws.{output_same, parts_read, others_read}
use Rattle.jfr_renumber.specs.Renumbers.{renumbered, renumbered_by}

chunks_same : (g : Given) (c d : List ℕ) → Whole c → Whole d → ChunksAgree g c d → renumbered g c ≡ renumbered g d
unfolding renumbered
chunks_same g c d w v s =
    ap (renumbered_by g) (parts_read g c d w s)
    ∙ (same_renumber (new_metadata (describes g) s.parts (kept_of g s.parts)) (new_metadata (describes g) s.others (kept_of g s.others)) s.parts s.others (kept_of g s.parts)
    (kept_of g s.others) s.valid s.others_valid
    (chosen_events s.parts (chosen g s.parts)) (chosen_events s.others (chosen g s.others)) s.same
    ∙ sym (ap (renumbered_by g) (others_read g c d v s)))

pub recordings_same : (g : Given) (x y : List ℕ) → RecordingsAgree g x y → recording_output refusal_of (renumbered g) x ≡ recording_output refusal_of (renumbered g) y
recordings_same g = output_same g (renumbered g) (chunks_same g)
