use Rattle.std.specs.Prelude.{option_map}
use Rattle.std.proofs.Common.{length}
use Rattle.jfr_chunk.specs.Reach.{kept_by}
use Rattle.jfr_chunk.specs.Scrub.{Written, output_records}
use Rattle.jfr_output.specs.RemainingRecords.{IsCursor, output_records_from}
use Rattle.jfr_rewrite.specs.Rewrite.{new_bytes}
use Rattle.jfr_rewrite.specs.Rewritten.{CarriesRecord}
use Rattle.jfr_rewrite.specs.Writing.{CanWrite, progress_of, with_metadata}
use Rattle.jfr_rewrite.proofs.WritingLaws.{Going}
use Rattle.jfr_rewrite.proofs.writer.put_records.Given as goal

abbrev pub invariant-output_records : goal.invariant-output_records
invariant-output_records g l =
    let p = l.source.chunk.now in
    let new = option_map (λ s. s.now) l.source.metadata in
    let w = with_metadata (g.R.Rewriter.rewrite l.source.rewriting.now) new in
    let kept = kept_by p l.source.kept.now in
    let entries = l.source.entries.now in
    record {
      cursor : IsCursor p l.source.kept.now l.cursor;
      output : Going p (new_bytes w p kept entries) (CanWrite p entries) (λ (o : Written). CarriesRecord w p kept entries o.output_record o.at o.newest) (output_records new p kept) (output_records_from new p l.source.kept.now l.cursor) (progress_of l.output);
    }

abbrev pub decreases-output_records : goal.decreases-output_records
decreases-output_records g l = length (output_records_from (option_map (λ s. s.now) l.source.metadata) l.source.chunk.now l.source.kept.now l.cursor)
