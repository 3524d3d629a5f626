use Rattle.std.specs.List.{AllByRecursion, flat_map}
use Rattle.std.specs.Prelude.{option_map}
use Rattle.std.proofs.Common.{ap, sym, subst, ◌∙◌, ◌∷◌, length, rules, List}
use Rattle.jfr_pool.specs.declared.entry.EntryAt.{EntryAt}
use Rattle.jfr_chunk.specs.Parts.{events_of}
use Rattle.jfr_chunk.specs.Reach.{kept_by}
use Rattle.jfr_chunk.specs.Scrub.{output_records}
use Rattle.jfr_output.proofs.RemainingLaws.{marks_length, left_is}
use Rattle.jfr_scrub.specs.Bodies.{OutputRecordIsCopied, output_record_parts}
use Rattle.jfr_scrub.specs.declared.piece.MadePart.TheVariants.{ChunkHeader}
use Rattle.jfr_scrub.proofs.AllCopied.{entries_are_copied, events_are_copied, metadata_is_copied}
use Rattle.jfr_scrub.proofs.BodyLaws.{laid_all}
use Rattle.jfr_scrub.proofs.CountLaws.{marked_count}
use Rattle.jfr_scrub.proofs.laid.lay_out.Goals as goal

pub remaining_entries-requires : goal.remaining_entries-requires
remaining_entries-requires c = ap length c.requires.marks ∙ (marks_length c.args.chunk.now (kept_by c.args.chunk.now c.args.kept.now) ∙ ap (λ (z : List EntryAt). length z) (sym c.pools.ensures))

pub lay_body-requires-clause-remaining : goal.lay_body-requires-clause-remaining
lay_body-requires-clause-remaining c = c.as_slice-remaining.ensures ∙ left_is _ _ _ _ _ c.requires.marks c.pools.ensures c.in_ok-remaining.ensures

pub returns-clause-laid : goal.returns-clause-laid
returns-clause-laid c =
    let p = c.args.chunk.now in
    let kept = kept_by p c.args.kept.now in
    let qs = c.in_ok-pieces.pieces.pieces in
    let remaining = c.as_slice-remaining.ensures ∙ left_is _ _ _ _ _ c.requires.marks c.pools.ensures c.in_ok-remaining.ensures in
    let copied = c.in_ok-body.ensures.copied qs c.in_ok-pieces.ensures.keeps in
    record {
      becomes = laid_all (option_map (λ s. s.now) c.args.slim) p kept _ _ _ _ _ remaining c.in_ok-body.ensures.ok c.header.ensures c.output_header-header.ensures c.in_ok-pieces.ensures.ok;
      of_chunk = search rules;
      made = search rules;
      kinds = c.in_ok-pieces.ensures.made ∙ ap (λ z. ChunkHeader ∷ z)
          (c.in_ok-body.ensures.made ∙ ap (λ (z : List EntryAt). flat_map (output_record_parts z) (output_records (option_map (λ s. s.now) c.args.slim) p kept)) remaining);
      events_copied = events_are_copied (option_map (λ s. s.now) c.args.slim) p c.lay_body.ensures.accepted.parts qs c.args.kept.now _ copied;
      entries_copied = entries_are_copied (option_map (λ s. s.now) c.args.slim) p c.lay_body.ensures.accepted.parts qs kept
          (subst (λ (z : List EntryAt). AllByRecursion (OutputRecordIsCopied z qs) (output_records (option_map (λ s. s.now) c.args.slim) p kept)) remaining copied);
      metadata_copied = metadata_is_copied (option_map (λ s. s.now) c.args.slim) p c.lay_body.ensures.accepted.parts qs kept _ copied;
      events = c.kept_count.ensures ∙ marked_count c.args.kept.now (events_of p) c.requires.kept;
      entries = ap (λ (z : List EntryAt). length z) remaining;
    }
