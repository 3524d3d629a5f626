use Rattle.std.specs.Prelude.{ℕ, Bool, List}
use Rattle.std.proofs.Common.{refl}
use Rattle.jfr_chunk.specs.Laws.{AreEvents}
use Rattle.jfr_chunk.specs.Parts.{AreParts, EventAt, Parts, events_of}
use Rattle.jfr_chunk.specs.Reach.{kept_by}
use Rattle.jfr_laws.proofs.Same.{chosen_events}
use Rattle.jfr_rewrite.specs.Changed.{KeepsFit}
use Rattle.jfr_rewrite.specs.Paths.{MeetsChanged, Retargets, Stops}
use Rattle.jfr_rewrite.specs.Rewrite.{Rewrite}
use Rattle.jfr_mask.specs.Headline.{IsAccepted}
use Rattle.jfr_mask.specs.MaskOf.{Masking, dictionary_after, is_masked_in, rewrite_of, stops_in}
use Rattle.jfr_mask.specs.Pseudonyms.{shown}
use Rattle.jfr_mask.specs.ReachBut.{marks_but, remain_but}
use Rattle.jfr_mask.proofs.MaskLaws.{masking_keeps, masking_retargets}
use Rattle.jfr_mask.proofs.Remains.{all_are, only_remains_met, remains_met}
use Rattle.jfr_mask.proofs.chunk_laws.masked_chunks_mean_the_same.Goals as goal

-- What the law of paths needs.
module _ (c : goal.After-paths_lead_to_changed_leaves) (m : Masking) (d : List (List ℕ)) (p : Parts) (flags : List Bool) (a : AreParts p) (r : IsAccepted m d p (kept_by p flags)) where
  abbrev kept : List EventAt
  kept = kept_by p flags

  abbrev stops : Stops
  stops = stops_in m p

  abbrev w : Rewrite
  w = rewrite_of m (dictionary_after m d p kept) p kept

  are : AreEvents p kept
  are = chosen_events p flags

  keeps : KeepsFit p.classes w.change
  keeps = masking_keeps (is_masked_in m p.classes) (shown m.known (dictionary_after m d p kept)) p p.classes

  retargets : Retargets p.classes w.change stops w.key
  retargets = masking_retargets (is_masked_in m p.classes) (shown m.known (dictionary_after m d p kept)) p p.classes

  met : MeetsChanged w.change w.key stops p r.parts kept
  unfolding remain_but
  met = c.paths_lead_to_changed_leaves.ensures.same_keys w stops p r.parts kept (marks_but stops p kept) (λ t. refl) r.entries_are (remains_met stops p kept a are)

pub returns-clause-paths : goal.returns-clause-paths
returns-clause-paths c = λ m d p flags a r.
    let rewrite : Rewrite = w c m d p flags a r in
    c.paths_lead_to_changed_leaves.ensures.paths rewrite.change rewrite.key (stops_in m p) p r.parts (kept_by p flags) (events_of r.parts) a r.valid (chosen_events p flags) (all_are r.parts)
    (keeps c m d p flags a r) (retargets c m d p flags a r) (met c m d p flags a r) r.events_are

pub returns-clause-reached : goal.returns-clause-reached
unfolding remain_but
returns-clause-reached c = λ m d p flags a r.
    let rewrite : Rewrite = w c m d p flags a r in
    let kept : List EventAt = kept_by p flags in
    c.paths_lead_to_changed_leaves.ensures.reached rewrite (stops_in m p) p r.parts kept (events_of r.parts) (marks_but (stops_in m p) p kept) (λ t. refl)
    (c.paths_lead_to_changed_leaves.ensures.used rewrite.change rewrite.key (stops_in m p) p r.parts kept (events_of r.parts) a r.valid (chosen_events p flags) (all_are r.parts)
    (keeps c m d p flags a r) (retargets c m d p flags a r) (met c m d p flags a r) r.events_are)
    r.entries_are (only_remains_met (stops_in m p) p kept a (chosen_events p flags))
