use Rattle.std.proofs.Common.{ap, sym, ◌∙◌, ◌+◌, ◌≡◌, ◌||◌, ◌==◌, None, subst, reverse, slice_get}
use Rattle.std.specs.Prelude.{IfSome, if◌then◌else◌, is_some, option_map}
use Rattle.std.proofs.lemmas.List.{reverse-reverse}
use Rattle.jfr_header.specs.declared.header.Header.{Header}
use Rattle.jfr_chunk.specs.Reach.{kept_by}
use Rattle.jfr_chunk.specs.Scrub.{output_record_by, output_record_of}
use Rattle.jfr_chunk.specs.Parts.{events_of}
use Rattle.jfr_output.specs.declared.remaining_records.RecordCursor.{RecordCursor}
use Rattle.jfr_output.specs.RemainingRecords.{IsRemaining, IsCursor, is_kept_at, link_after, linked_at, output_record_for}
use Rattle.jfr_output.proofs.CursorLaws.{remaining_event, remaining_metadata, place_passed, some_if}
use Rattle.jfr_output.proofs.remaining_records.pass_record.Goals as goal

pub returns-clause-cursor : goal.returns-clause-cursor
returns-clause-cursor c =
    let p = place_passed c.args.chunk.now c.args.kept.now c.args.cursor.now c.args.at c.requires.cursor c.requires.there in
    let chain = sym (reverse-reverse c.chain.result.now) ∙ ap reverse c.chain.ensures in
    subst (λ (z : RecordCursor). IsCursor c.args.chunk.now c.args.kept.now z)
    (λ i. record {
      frame = c.args.cursor.now.frame + 1;
      event = sym c.pass_event-event.ensures.number i;
      link = sym
          (c.pass_link-link.ensures.number ∙ ap (λ ls. link_after ls c.args.cursor.now.link c.args.at) chain) i;
    }) p.behind.0

pub returns-clause-exact : goal.returns-clause-exact
returns-clause-exact c = λ anew.
    let parts = c.args.chunk.now in
    let flags = c.args.kept.now in
    let p = place_passed parts flags c.args.cursor.now c.args.at c.requires.cursor c.requires.there in
    let chain = sym (reverse-reverse c.chain.result.now) ∙ ap reverse c.chain.ensures in
    let l = c.pass_link-link.ensures.link ∙ (ap (λ ls. linked_at ls c.args.cursor.now.link c.args.at) chain ∙ p.behind.2) in
    let k = ap is_some c.pass_event-event.ensures.kept ∙ (some_if (is_kept_at (events_of parts) flags c.args.cursor.now.event c.args.at) c.args.cursor.now.event ∙ p.behind.1) in
    let m = ap (λ (h : Header). h.metadata) c.header.ensures in
    let there = ap (λ rs. slice_get rs c.args.cursor.now.frame) c.frames.ensures ∙ p.there in
    let found = subst (λ o. IfSome o (λ r. option_map (output_record_for anew) c.remaining_record.result ≡ output_record_by c.pass_link-link.result
    (is_some c.pass_event-event.result || (c.args.at == c.header.result.now.metadata)) (if c.args.at == c.header.result.now.metadata then anew else None) r)) there
    (c.remaining_record.ensures.exact anew) in
    subst (λ o. IfSome o (λ r. option_map (output_record_for anew) c.remaining_record.result ≡ output_record_of anew parts (kept_by parts flags) r)) (sym p.there)
    (found ∙ (λ i. output_record_by (l i) (k i || (sym p.place i == m i)) (if sym p.place i == m i then anew else None) p.frame))

pub returns-clause-metadata : goal.returns-clause-metadata
returns-clause-metadata c =
    let parts = c.args.chunk.now in
    let p = place_passed parts c.args.kept.now c.args.cursor.now c.args.at c.requires.cursor c.requires.there in
    let chain = sym (reverse-reverse c.chain.result.now) ∙ ap reverse c.chain.ensures in
    let l = c.pass_link-link.ensures.link ∙ (ap (λ ls. linked_at ls c.args.cursor.now.link c.args.at) chain ∙ p.behind.2) in
    let m = ap (λ (h : Header). h.metadata) c.header.ensures in
    let there = ap (λ rs. slice_get rs c.args.cursor.now.frame) c.frames.ensures ∙ p.there in
    let found = subst (λ o. IfSome o (λ r. IfSome c.remaining_record.result (IsRemaining c.pass_link-link.result c.pass_event-event.result (c.args.at == c.header.result.now.metadata) r))) there
    c.remaining_record.ensures.kind in
    remaining_metadata parts c.requires.cursor.parts p.frame c.pass_link-link.result c.pass_event-event.result (c.args.at == c.header.result.now.metadata) c.remaining_record.result l
    (λ i. sym p.place i == m i) found

pub returns-clause-event : goal.returns-clause-event
returns-clause-event c =
    let parts = c.args.chunk.now in
    let p = place_passed parts c.args.kept.now c.args.cursor.now c.args.at c.requires.cursor c.requires.there in
    let there = ap (λ rs. slice_get rs c.args.cursor.now.frame) c.frames.ensures ∙ p.there in
    let found = subst (λ o. IfSome o (λ r. IfSome c.remaining_record.result (IsRemaining c.pass_link-link.result c.pass_event-event.result (c.args.at == c.header.result.now.metadata) r))) there
    c.remaining_record.ensures.kind in
    remaining_event parts c.args.kept.now c.args.cursor.now p.frame c.args.at c.pass_link-link.result c.pass_event-event.result
    (c.args.at == c.header.result.now.metadata) c.remaining_record.result p.behind c.pass_event-event.ensures.kept found
