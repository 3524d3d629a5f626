use Rattle.std.specs.Prelude.{option_map}
use Rattle.std.proofs.Common.{ap, refl, sym, ◌∙◌, ◌+◌, ◌-◌, ◌≤◌, subst, ◌++◌, length, map, List, [], None}
use Rattle.std.specs.List.{AllByRecursion, flat_map}
use Rattle.jfr_frame.proofs.RecordLaws.{tiles_order}
use Rattle.jfr_pool.specs.declared.entry.EntryAt.{EntryAt}
use Rattle.jfr_chunk.specs.Parts.{metadata_at}
use Rattle.jfr_chunk.specs.Reach.{kept_by, remain}
use Rattle.jfr_chunk.specs.Scrub.{Whole, output_records, bytes_of, written, written_bytes}
use Rattle.jfr_output.specs.Remaining.{NotFalling}
use Rattle.jfr_output.specs.RemainingRecords.{output_record_for}
use Rattle.jfr_output.proofs.CursorLaws.{cursor_first}
use Rattle.jfr_scrub.specs.Bodies.{OutputRecordFits, output_record_parts}
use Rattle.jfr_scrub.specs.Sizes.{HasRange}
use Rattle.jfr_scrub.proofs.BodyLaws.{WrittenFits, going_none, going_next, going_all, going_room}
use Rattle.jfr_scrub.proofs.CopiedLaws.{parts_all, parts_next, so_far_none, so_far_done, so_far_run, so_far_output_record}
use Rattle.jfr_scrub.proofs.RunLaws.{going_run, going_within, run_shorter}
use Rattle.jfr_scrub.proofs.FitLaws.{all_fit, all_within, left_order, left_ranges, some_written}
use Rattle.jfr_scrub.proofs.body.lay_body.Goals as goal

pub output_records-init : goal.output_records-init
output_records-init c =
    let p = c.args.chunk.now in
    let a = c.bytes.ensures.parts in
    let kept = kept_by p c.args.kept.now in
    let n = c.requires.slim in
    let start = c.new.ensures.bytes ∙ ap (λ (z : List _). record { chunk = z; bytes = [] }) c.bytes.ensures.exact in
    record {
      cursor = cursor_first p c.args.kept.now a;
      body = going_none p c.args.remaining.now (output_records (option_map (λ s. s.now) c.args.slim) p kept) _ (λ i. record { output = start i; at = 68; newest = None; metadata = None })
          (subst (λ (z : List EntryAt). AllByRecursion (WrittenFits p.bytes z) (written p.bytes z 68 None (output_records (option_map (λ s. s.now) c.args.slim) p kept))) (sym c.requires.remaining)
          (subst (λ w. AllByRecursion (WrittenFits p.bytes (remain p kept)) (written p.bytes (remain p kept) 68 None (output_records w p kept))) (sym n.is) (all_fit n.names p a kept)))
          (subst (λ (z : List EntryAt). 68 + length (flat_map (written_bytes p.bytes z) (written p.bytes z 68 None (output_records (option_map (λ s. s.now) c.args.slim) p kept))) ≤ length p.bytes)
          (sym c.requires.remaining) (subst (λ w. 68 + length (flat_map (written_bytes p.bytes (remain p kept)) (written p.bytes (remain p kept) 68 None (output_records w p kept))) ≤ length p.bytes)
          (sym n.is) (all_within n.names p a kept)));
      copied = so_far_none _ _ _;
      made = ap (λ z. z ++ flat_map (output_record_parts c.args.remaining.now) (output_records (option_map (λ s. s.now) c.args.slim) p kept)) c.new.ensures.made;
    }

pub lay_run-requires-clause-order : goal.lay_run-requires-clause-order
lay_run-requires-clause-order c = tiles_order c.args.chunk.now.bytes c.pass_run.result.from c.pass_run.result.to c.pass_run.ensures.run.records c.pass_run.ensures.run.tiles

pub lay_run-requires-clause-within : goal.lay_run-requires-clause-within
lay_run-requires-clause-within c = subst (λ (z : List _). c.pass_run.result.to ≤ length z) (sym c.output_records.invariant.body.chunk) c.pass_run.ensures.run.within

pub lay_run-requires-clause-room : goal.lay_run-requires-clause-room
lay_run-requires-clause-room c =
    let g = going_run _ _ _ _ _ _ _ _ _ _ _ c.pass_run.ensures.run c.output_records.invariant.body refl refl in
    subst (λ (z : List _). c.output_records.body.at + (c.pass_run.result.to - c.pass_run.result.from) ≤ length z) (sym c.output_records.invariant.body.chunk) (going_within _ _ _ _ _ g)

pub returns-in_default-clause-ok : goal.returns-in_default-clause-ok
returns-in_default-clause-ok c = going_all _ _ _ _ _ (going_run _ _ _ _ _ _ _ _ _ _ _ c.pass_run.ensures.run c.output_records.invariant.body c.in_ok-lay_run.ensures.ok (c.in_default.ensures.exact _))
    refl

pub returns-in_default-clause-copied : goal.returns-in_default-clause-copied
returns-in_default-clause-copied c =
    let u = c.pass_run.ensures.run in
    let s = so_far_done _ _ _ _ (so_far_run c.args.chunk.now.bytes c.args.remaining.now _ _ _ _ _ u.records _ _
    (u.output_records _) u.tiles c.output_records.invariant.copied c.in_ok-lay_run.ensures.grows.keeps c.in_ok-lay_run.ensures.copied) (c.in_default.ensures.exact _) in
    λ qs k. s qs k tt

pub returns-in_default-clause-made : goal.returns-in_default-clause-made
returns-in_default-clause-made c =
    let u = c.pass_run.ensures.run in
    parts_all c.args.remaining.now _ _ u.records _ _ _ (u.output_records _) (c.in_default.ensures.exact _) c.in_ok-lay_run.ensures.grows c.output_records.invariant.made

pub lay_record-requires-clause-fits : goal.lay_record-requires-clause-fits
lay_record-requires-clause-fits c =
    let g = going_run _ _ _ _ _ _ _ _ _ _ _ c.pass_run.ensures.run c.output_records.invariant.body c.in_ok-lay_run.ensures.ok (c.in-Some.ensures.exact _) in
    subst (λ (z : List _). OutputRecordFits z c.args.remaining.now (output_record_for (option_map (λ s. s.now) c.args.slim) c.in-Some.remaining_record) c.lay_run.new.body.at c.lay_run.new.body.newest)
    (sym g.chunk) g.fits.0

pub lay_record-requires-clause-order : goal.lay_record-requires-clause-order
lay_record-requires-clause-order c = subst (NotFalling 0) (sym c.requires.remaining) (left_order c.args.chunk.now c.bytes.ensures.parts (kept_by c.args.chunk.now c.args.kept.now))

pub lay_record-requires-clause-ranges : goal.lay_record-requires-clause-ranges
lay_record-requires-clause-ranges c =
    let p = c.args.chunk.now in
    let g = going_run _ _ _ _ _ _ _ _ _ _ _ c.pass_run.ensures.run c.output_records.invariant.body c.in_ok-lay_run.ensures.ok (c.in-Some.ensures.exact _) in
    subst (λ (z : List _). AllByRecursion (HasRange (length z)) c.args.remaining.now) (sym g.chunk)
    (subst (AllByRecursion (HasRange (length p.bytes))) (sym c.requires.remaining) (left_ranges p c.bytes.ensures.parts (kept_by p c.args.kept.now)))

pub lay_record-requires-clause-room : goal.lay_record-requires-clause-room
lay_record-requires-clause-room c =
    let g = going_run _ _ _ _ _ _ _ _ _ _ _ c.pass_run.ensures.run c.output_records.invariant.body c.in_ok-lay_run.ensures.ok (c.in-Some.ensures.exact _) in
    subst (λ (z : List _). c.lay_run.new.body.at + length
    (bytes_of z c.args.remaining.now (output_record_for (option_map (λ s. s.now) c.args.slim) c.in-Some.remaining_record) c.lay_run.new.body.at c.lay_run.new.body.newest) ≤ length z) (sym g.chunk)
    (going_room _ _ _ _ _ _ g)

pub output_records-preserved : goal.output_records-preserved
output_records-preserved c =
    let g = going_run _ _ _ _ _ _ _ _ _ _ _ c.pass_run.ensures.run c.output_records.invariant.body c.in_ok-lay_run.ensures.ok (c.in-Some.ensures.exact _) in
    record {
      cursor = c.in-Some.ensures.cursor;
      body = going_next _ _ _ _ _ _ _ _ g refl (c.in_ok-lay_record.ensures.ok (metadata_at c.args.chunk.now.bytes) c.in-Some.ensures.metadata)
          (some_written c.args.chunk.now.bytes c.args.remaining.now (output_record_for (option_map (λ s. s.now) c.args.slim) c.in-Some.remaining_record) c.lay_run.new.body.at c.lay_run.new.body.newest
          g.fits.0);
      copied =
          let p = c.args.chunk.now in
          let u = c.pass_run.ensures.run in
          let ranges : AllByRecursion (HasRange (length p.bytes)) c.args.remaining.now =
          subst (AllByRecursion (HasRange (length p.bytes))) (sym c.requires.remaining) (left_ranges p c.bytes.ensures.parts (kept_by p c.args.kept.now)) in
          so_far_output_record p.bytes c.args.remaining.now _ _ _ _ _ _ _ ranges g.fits.0
          (so_far_run p.bytes c.args.remaining.now _ _ _ _ _ u.records _ _ ((u.output_records _) ∙ ap (λ ss. map (λ r. Whole r) u.records ++ ss) (c.in-Some.ensures.exact _)) u.tiles
          c.output_records.invariant.copied c.in_ok-lay_run.ensures.grows.keeps c.in_ok-lay_run.ensures.copied)
          c.in_ok-lay_record.ensures.grows.keeps c.in_ok-lay_record.ensures.copied;
      made =
          let u = c.pass_run.ensures.run in
          parts_next c.args.remaining.now _ _ _ u.records _ _ _ _ _ (u.output_records _) (c.in-Some.ensures.exact _) c.in_ok-lay_run.ensures.grows c.in_ok-lay_record.ensures.grows
          c.output_records.invariant.made;
    }

pub output_records-smaller : goal.output_records-smaller
output_records-smaller c = run_shorter c.pass_run.ensures.run.records _ _ _ _ (c.pass_run.ensures.run.output_records _) (c.in-Some.ensures.exact _)
