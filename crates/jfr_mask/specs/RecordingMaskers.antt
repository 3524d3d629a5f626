-- The stage that masks a recording, as the definitions see it.
use Rattle.std.specs.Prelude.{◌≡◌, ℕ, List, [], ◌∷◌, length, option_map, Result, Ok, Err, ⊤}
use Rattle.jfr_header.specs.Cuts.{joined}
use Rattle.jfr_header.specs.declared.ending.Ending.{Ending}
use Rattle.jfr_header.specs.declared.ending.Ending.TheVariants.{Refused, MaskTooLong, Memory}
use Rattle.jfr_plan.specs.Ends.{TooLong}
use Rattle.jfr_plan.specs.Ends as ends
use Rattle.jfr_plan.specs.Effects.{Append}
use Rattle.jfr_plan.specs.Rules.{Asked, Goes, Rule, Stops}
use Rattle.jfr_mask.specs.declared.fault.MaskFault.{MaskFault}
use Rattle.jfr_mask.specs.declared.fault.MaskFault.TheVariants as faults
use Rattle.jfr_mask.specs.declared.recording.RecordingMasker.{RecordingMasker}
use Rattle.jfr_mask.specs.Maskers.{masking_of}
use Rattle.jfr_mask.specs.Recordings.{all_masked, dictionary_over, masking_rule}

-- What it does.
abbrev pub rule_of : RecordingMasker → Rule
rule_of s = masking_rule s.options.filter.now (masking_of s.options) s.output.now (option_map (λ t. t.now) s.table)

-- Its state is that after these chunks: it has their dictionary, and the length of their masked chunks.
pub record IsAfter (s : RecordingMasker) (chunks : List (List ℕ)) : Type 0 where
  pub dictionary : s.dictionary ≡ dictionary_over s.options.filter.now (masking_of s.options) [] chunks
  pub written : s.written ≡ length (joined (all_masked s.options.filter.now (masking_of s.options) [] chunks))

-- Masking a chunk answers what is asked: these bytes are to be appended, or the command ends, unless memory ran out.
abbrev pub AnswersAsked : Asked → Result (Unit {0}) Ending → List ℕ → Type 0
AnswersAsked a (Ok x) bytes = a ≡ Goes (Append bytes ∷ [])
AnswersAsked a (Err (Refused r)) bytes = a ≡ Stops (ends.Refused r)
AnswersAsked a (Err (MaskTooLong n)) bytes = a ≡ Stops (TooLong n)
AnswersAsked a (Err Memory) bytes = ⊤
AnswersAsked a (Err _) bytes = ⊥

-- The ending of a chunk that isn't masked.
abbrev pub IsUnmasked : Ending → Type 0
IsUnmasked (Refused r) = ⊤
IsUnmasked (MaskTooLong n) = ⊤
IsUnmasked Memory = ⊤
IsUnmasked _ = ⊥

-- The ending after a chunk with this number that couldn't be masked.
abbrev pub after_masking : ℕ → MaskFault → Ending
after_masking number faults.TooLong = MaskTooLong number
after_masking number faults.Memory = Memory
