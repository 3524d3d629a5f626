use Rattle.std.proofs.Common.{◌++◌, ◌∙◌, ap, length, option_map, subst, sym, true, unwrap_or}
use Rattle.jfr_frame.specs.Records.{IsRecord, record_bytes}
use Rattle.jfr_output.specs.Positions.{offset_so_far}
use Rattle.jfr_rewrite.specs.Writing.{progress_of, with_metadata}
use Rattle.jfr_rewrite.proofs.WritingLaws.{event_written, link_stands, link_written, metadata_written, record_stands}
use Rattle.jfr_rewrite.proofs.writer.put_record.Goals as goal

pub put_metadata-requires : goal.put_metadata-requires
put_metadata-requires g c =
    let s = c.args.source in
    subst (λ z. IsRecord z c.in-Metadata.frame) (sym c.bytes.ensures.exact)
    (record_stands s.chunk.now s.entries.now (option_map (λ s. s.now) s.metadata) c.args.remaining_record c.in-Metadata.frame c.in-Metadata.is c.requires.can)

pub put_chained-requires-clause-can : goal.put_chained-requires-clause-can
put_chained-requires-clause-can g c =
    let s = c.args.source in
    link_stands s.chunk.now s.entries.now (option_map (λ s. s.now) s.metadata) c.args.remaining_record c.in-Chained.number c.in-Chained.link c.in-Chained.is c.requires.can

pub returns-in-Event : goal.returns-in-Event
returns-in-Event g c =
    let s = c.args.source in
    let new = option_map (λ s. s.now) s.metadata in
    event_written (with_metadata (g.R.Rewriter.rewrite s.rewriting.now) new) s.chunk.now s.kept.now s.entries.now new c.put_chunk_event.result c.args.remaining_record c.in-Event.number
    c.in-Event.field-1 (progress_of c.args.output.now) c.put_chunk_event.new.out.items
    c.in-Event.is c.requires.event c.requires.metadata c.requires.before c.put_chunk_event.ensures

pub returns-in_ok-put_metadata-in-Metadata : goal.returns-in_ok-put_metadata-in-Metadata
returns-in_ok-put_metadata-in-Metadata g c =
    let s = c.args.source in
    let new = option_map (λ s. s.now) s.metadata in
    let b = progress_of c.args.output.now in
    metadata_written (with_metadata (g.R.Rewriter.rewrite s.rewriting.now) new) s.chunk.now s.kept.now s.entries.now new c.parts_are_valid.ensures.parts c.args.remaining_record c.in-Metadata.frame b
    (progress_of c.put_metadata.new.output)
    c.in-Metadata.is c.requires.metadata c.requires.before (record_stands s.chunk.now s.entries.now new c.args.remaining_record c.in-Metadata.frame c.in-Metadata.is c.requires.can)
    (c.in_ok-put_metadata-in-Metadata.ensures.ok ∙ ap
    (λ z. record { bytes = b.bytes ++ unwrap_or new (record_bytes z c.in-Metadata.frame); newest = b.newest; metadata = offset_so_far b.metadata true (length b.bytes) }) c.bytes.ensures.exact)

pub returns-in-Chained : goal.returns-in-Chained
returns-in-Chained g c =
    let s = c.args.source in
    let new = option_map (λ s. s.now) s.metadata in
    link_written (with_metadata (g.R.Rewriter.rewrite s.rewriting.now) new) s.chunk.now s.kept.now s.entries.now new c.put_chained.result c.args.remaining_record c.in-Chained.number c.in-Chained.link
    (progress_of c.args.output.now) (progress_of c.put_chained.new.output)
    c.in-Chained.is c.requires.metadata c.put_chained.ensures
