use Rattle.std.proofs.Common.{option_map, refl, take}
use Rattle.jfr_header.specs.Headers.{header_of}
use Rattle.jfr_chunk.specs.Reach.{kept_by}
use Rattle.jfr_chunk.specs.Scrub.{output_records}
use Rattle.jfr_rewrite.specs.Rewrite.{new_bytes}
use Rattle.jfr_rewrite.specs.Writing.{progress_of, with_metadata}
use Rattle.jfr_rewrite.proofs.WritingLaws.{all_assembled, header_room, is_rewritten}
use Rattle.jfr_rewrite.proofs.writer.write_chunk.Goals as goal

pub with_header-requires : goal.with_header-requires
with_header-requires g c =
    let s = c.args.source in
    let p = s.chunk.now in
    let new = option_map (λ s. s.now) s.metadata in
    let w = with_metadata (g.R.Rewriter.rewrite s.rewriting.now) new in
    header_room p (new_bytes w p (kept_by p s.kept.now) s.entries.now) (output_records new p (kept_by p s.kept.now)) (progress_of c.put_records.new.output) c.in_ok-put_records.ensures

pub returns : goal.returns
returns g c =
    let s = c.args.source in
    let p = s.chunk.now in
    let new = option_map (λ s. s.now) s.metadata in
    let w = with_metadata (g.R.Rewriter.rewrite s.rewriting.now) new in
    let kept = kept_by p s.kept.now in
    is_rewritten w p kept s.entries.now c.with_header.result.items
    (all_assembled p (new_bytes w p kept s.entries.now) (output_records new p kept) (progress_of c.put_records.new.output)
    (header_of (take 68 p.bytes)) c.with_header.result.items c.in_ok-put_records.ensures refl c.with_header.ensures)
