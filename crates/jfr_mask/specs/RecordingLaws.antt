-- What the laws say of masked recordings.
use Rattle.std.specs.Prelude.{ℕ, true, List, [], ◌∷◌, Result, Ok, Err}
use Rattle.std.specs.List.{flat_map}
use Rattle.jfr_base.specs.declared.flaw.Flaw.{Flaw}
use Rattle.jfr_filter.specs.Filters.{Given}
use Rattle.jfr_header.specs.Cuts.{cut, joined}
use Rattle.jfr_chunk.specs.Chosen.{chosen}
use Rattle.jfr_chunk.specs.Parts.{Parts}
use Rattle.jfr_chunk.specs.Refusal.{read_parts, refusal_of}
use Rattle.jfr_output.specs.Recordings.{before_refused}
use Rattle.jfr_mask.specs.Headline.{AllNumbered}
use Rattle.jfr_mask.specs.MaskOf.{Chosen, Masking}
use Rattle.jfr_mask.specs.Pseudonyms.{IsDictionary}
use Rattle.jfr_mask.specs.Recordings.{all_masked, dictionary_over}
use Rattle.jfr_mask.specs.Secrecy.{AlikeAll, IsExchange}

-- The chunk, with a flag for each event, which says whether the filter keeps it; none if the chunk is refused.
abbrev pub chosen_by : Given → Result Parts Flaw → List Chosen
chosen_by g (Ok p) = record { parts = p; flags = chosen g p } ∷ []
chosen_by g (Err flaw) = []

unfoldable pub chosen_in : Given → List ℕ → List Chosen
chosen_in g c = chosen_by g (read_parts c)

-- The chunks of a recording before the first that is refused.
abbrev pub accepted_chunks : List ℕ → List (List ℕ)
accepted_chunks x = before_refused refusal_of (cut x 0 true).chunks

abbrev pub recording_chosen : Given → List ℕ → List Chosen
recording_chosen g x = flat_map (chosen_in g) (accepted_chunks x)

-- The masked recording, and its dictionary after the last chunk.
abbrev pub recording_masked : Given → Masking → List ℕ → List ℕ
recording_masked g m x = joined (all_masked g m [] (accepted_chunks x))

abbrev pub recording_dictionary : Given → Masking → List ℕ → List (List ℕ)
recording_dictionary g m x = dictionary_over g m [] (accepted_chunks x)

-- Each text of a masked string of the recording is in its dictionary, with the number by which it is shown in its chunk.
pub record IsOneDictionary (g : Given) (m : Masking) (x : List ℕ) : Type 0 where
  pub distinct : IsDictionary (recording_dictionary g m x)
  pub numbered : AllNumbered m (recording_dictionary g m x) [] (recording_chosen g x)

-- Two recordings differ, chunk by chunk, only in masked texts, which one map exchanges.
pub record AreAlike (g : Given) (m : Masking) (x y : List ℕ) : Type 0 where
  pub exchange : List ℕ → List ℕ
  pub is_exchange : IsExchange m.known exchange
  pub chunks : AlikeAll m exchange (recording_chosen g x) (recording_chosen g y)
