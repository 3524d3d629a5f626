use Rattle.std.proofs.Common.{option_map, subst}
use Rattle.jfr_chunk.specs.Reach.{kept_by}
use Rattle.jfr_chunk.specs.Scrub.{Written, output_records}
use Rattle.jfr_output.specs.RemainingRecords.{output_record_for}
use Rattle.jfr_output.proofs.CursorLaws.{cursor_first}
use Rattle.jfr_rewrite.specs.Rewrite.{new_bytes}
use Rattle.jfr_rewrite.specs.Rewritten.{CarriesRecord}
use Rattle.jfr_rewrite.specs.Writing.{CanWrite, progress_of, with_metadata}
use Rattle.jfr_rewrite.proofs.WritingLaws.{Going, all_can, going_next, going_none, some_order}
use Rattle.jfr_rewrite.proofs.writer.put_records.Goals as goal

pub output_records-init : goal.output_records-init
output_records-init g c =
    let s = c.args.source in
    let p = s.chunk.now in
    let new = option_map (λ s. s.now) s.metadata in
    let w = with_metadata (g.R.Rewriter.rewrite s.rewriting.now) new in
    let kept = kept_by p s.kept.now in
    let entries = s.entries.now in
    record {
      cursor = cursor_first p s.kept.now c.parts_are_valid.ensures.parts;
      output = going_none p (new_bytes w p kept entries) (CanWrite p entries) (λ (o : Written). CarriesRecord w p kept entries o.output_record o.at o.newest) (output_records new p kept)
          (progress_of c.args.output.now) c.requires.empty
          (all_can p c.parts_are_valid.ensures.parts s.kept.now new entries c.requires.entries);
    }

pub put_record-requires-clause-order : goal.put_record-requires-clause-order
put_record-requires-clause-order g c = some_order c.args.source.chunk.now c.parts_are_valid.ensures.parts c.args.source.kept.now
    (option_map (λ s. s.now) c.args.source.metadata) c.args.source.entries.now c.requires.entries

pub output_records-preserved : goal.output_records-preserved
output_records-preserved g c =
    let s = c.args.source in
    let p = s.chunk.now in
    let new = option_map (λ s. s.now) s.metadata in
    let w = with_metadata (g.R.Rewriter.rewrite s.rewriting.now) new in
    let kept = kept_by p s.kept.now in
    let entries = s.entries.now in
    let b = progress_of c.output_records.output in
    let going = subst (λ ss. Going p (new_bytes w p kept entries) (CanWrite p entries) (λ (o : Written). CarriesRecord w p kept entries o.output_record o.at o.newest) (output_records new p kept) ss b)
    (c.in-Some.ensures.exact new) c.output_records.invariant.output in
    record {
      cursor = c.in-Some.ensures.cursor;
      output = going_next p (new_bytes w p kept entries) (CanWrite p entries) (λ (o : Written). CarriesRecord w p kept entries o.output_record o.at o.newest) (output_records new p kept) _
          (output_record_for new c.in-Some.remaining_record) b (progress_of c.put_record.new.output) going
          c.in_ok-put_record.ensures.0 c.in_ok-put_record.ensures.1;
    }
