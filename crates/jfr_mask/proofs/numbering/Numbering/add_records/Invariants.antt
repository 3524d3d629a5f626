use Rattle.std.proofs.Common.{◌≡◌, length, None}
use Rattle.std.specs.List.{flat_map}
use Rattle.jfr_chunk.specs.Metas.{new_metadata}
use Rattle.jfr_chunk.specs.Reach.{kept_by}
use Rattle.jfr_output.specs.RemainingRecords.{IsCursor, output_records_from}
use Rattle.jfr_mask.specs.Maskers.{IsMaskingBy}
use Rattle.jfr_mask.specs.MaskOf.{Masking, origin_of, origin_texts, records_out}
use Rattle.jfr_mask.specs.Noted.{NotesTexts}
use Rattle.jfr_mask.specs.Pseudonyms.{with_texts}
use Rattle.jfr_mask.proofs.numbering.Numbering.add_records.Given as goal

-- With the texts of the output records that are left, the dictionary is the one with those of all.
abbrev pub invariant-output_records : goal.invariant-output_records
invariant-output_records l = record {
  noted : NotesTexts l.self l.growing;
  cursor : IsCursor l.self.strings.chunk.now l.self.kept.now l.cursor;
  texts : (m : Masking) → IsMaskingBy l.self m
      → with_texts l.growing.dictionary (flat_map (λ o. origin_texts m l.self.strings.chunk.now (origin_of l.self.strings.chunk.now (kept_by l.self.strings.chunk.now l.self.kept.now) l.entries o)) (output_records_from (new_metadata m.described l.self.strings.chunk.now (kept_by l.self.strings.chunk.now l.self.kept.now)) l.self.strings.chunk.now l.self.kept.now l.cursor))
      ≡ with_texts l.fn.growing.dictionary (flat_map (λ o. origin_texts m l.self.strings.chunk.now (origin_of l.self.strings.chunk.now (kept_by l.self.strings.chunk.now l.self.kept.now) l.entries o))
      (records_out m l.self.strings.chunk.now (kept_by l.self.strings.chunk.now l.self.kept.now)));
}

abbrev pub decreases-output_records : goal.decreases-output_records
decreases-output_records l = length (output_records_from None l.self.strings.chunk.now l.self.kept.now l.cursor)
