use Rattle.std.specs.List.{flat_map}
use Rattle.std.specs.Prelude.{option_map}
use Rattle.std.proofs.Common.{length, ◌≡◌, ◌++◌}
use Rattle.jfr_chunk.specs.Reach.{kept_by}
use Rattle.jfr_chunk.specs.Scrub.{output_records}
use Rattle.jfr_output.specs.RemainingRecords.{IsCursor, output_records_from}
use Rattle.jfr_scrub.specs.Bodies.{OutputRecordIsCopied, progress_of, output_record_parts}
use Rattle.jfr_scrub.specs.Pieces.{made_parts}
use Rattle.jfr_scrub.proofs.BodyLaws.{Going}
use Rattle.jfr_scrub.proofs.CopiedLaws.{SoFar}
use Rattle.jfr_scrub.proofs.body.lay_body.Given as goal

abbrev pub invariant-output_records : goal.invariant-output_records
invariant-output_records l = record {
  cursor : IsCursor l.chunk l.kept l.cursor;
  body : Going l.chunk l.remaining (output_records (option_map (λ s. s.now) l.slim) l.chunk (kept_by l.chunk l.kept)) (output_records_from (option_map (λ s. s.now) l.slim) l.chunk l.kept l.cursor) (progress_of l.body);
  copied : SoFar (OutputRecordIsCopied l.remaining) l.body.output.pieces (output_records_from (option_map (λ s. s.now) l.slim) l.chunk l.kept l.cursor) (output_records (option_map (λ s. s.now) l.slim) l.chunk (kept_by l.chunk l.kept));
  made : made_parts l.body.output.pieces ++ flat_map (output_record_parts l.remaining) (output_records_from (option_map (λ s. s.now) l.slim) l.chunk l.kept l.cursor) ≡ flat_map (output_record_parts l.remaining) (output_records (option_map (λ s. s.now) l.slim) l.chunk (kept_by l.chunk l.kept));
}

abbrev pub decreases-output_records : goal.decreases-output_records
decreases-output_records l = length (output_records_from (option_map (λ s. s.now) l.slim) l.chunk l.kept l.cursor)
