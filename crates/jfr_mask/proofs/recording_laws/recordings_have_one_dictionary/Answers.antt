use Rattle.std.specs.Prelude.{ℕ, List, []}
use Rattle.std.proofs.Common.{subst, sym}
use Rattle.jfr_mask.specs.Headline.{AllNumbered}
use Rattle.jfr_mask.specs.Pseudonyms.{IsDictionary}
use Rattle.jfr_mask.specs.RecordingLaws.{recording_chosen}
use Rattle.jfr_mask.proofs.RecordingLaws.{dictionary_same}
use Rattle.jfr_mask.proofs.recording_laws.recordings_have_one_dictionary.Goals as goal

pub returns : goal.returns
returns c = λ g m x. record {
  distinct = subst IsDictionary (sym (dictionary_same g m x)) (c.numbers_hold_in_all_chunks.ensures.distinct m (recording_chosen g x));
  numbered = subst (λ (d : List (List ℕ)). AllNumbered m d [] (recording_chosen g x)) (sym (dictionary_same g m x)) (c.numbers_hold_in_all_chunks.ensures.same m (recording_chosen g x));
}
