use Rattle.std.proofs.Common.{ℕ, List, ap, refl, sym, subst, ◌∙◌}
use Rattle.std.specs.List.{AllByRecursion, flat_map}
use Rattle.jfr_chunk.specs.Metas.{new_metadata}
use Rattle.jfr_chunk.specs.Reach.{kept_by}
use Rattle.jfr_chunk.specs.Scrub.{OutputRecord}
use Rattle.jfr_output.specs.RemainingRecords.{output_record_for, output_records_from}
use Rattle.jfr_output.specs.Remaining.{NotFalling}
use Rattle.jfr_output.proofs.CursorLaws.{cursor_first}
use Rattle.jfr_mask.specs.Masked.{is_masked_string}
use Rattle.jfr_mask.specs.Maskers.{IsEntryValue, held_by}
use Rattle.jfr_mask.specs.MaskOf.{origin_of, origin_texts, records_out}
use Rattle.jfr_mask.specs.Pseudonyms.{with_texts}
use Rattle.jfr_mask.proofs.EntriesLeft.{left_order, left_values}
use Rattle.jfr_mask.proofs.NumberLaws.{with_append}
use Rattle.jfr_mask.proofs.NumberedRecords.{entries_same}
use Rattle.jfr_mask.proofs.numbering.Numbering.add_records.Goals as goal

pub output_records-init : goal.output_records-init
output_records-init c =
    let p = c.args.self.now.strings.chunk.now in
    record {
      noted = c.requires.noted;
      cursor = cursor_first p c.args.self.now.kept.now c.parts_are_valid.ensures.parts;
      texts = λ m is. refl;
    }

pub add_record-requires-clause-order : goal.add_record-requires-clause-order
add_record-requires-clause-order c =
    let n = c.args.self.now.strings in
    subst (NotFalling 0) (sym c.requires.entries) (left_order (is_masked_string (held_by n)) n.chunk.now c.parts_are_valid.ensures.parts c.args.self.now.kept.now)

pub add_record-requires-clause-values : goal.add_record-requires-clause-values
add_record-requires-clause-values c =
    let n = c.args.self.now.strings in
    subst (AllByRecursion (IsEntryValue n.chunk.now)) (sym c.requires.entries) (left_values (is_masked_string (held_by n)) n.chunk.now c.parts_are_valid.ensures.parts c.args.self.now.kept.now)

pub output_records-preserved : goal.output_records-preserved
output_records-preserved c =
    let p = c.args.self.now.strings.chunk.now in
    let flags = c.args.self.now.kept.now in
    record {
      noted = c.in_ok-add_record.ensures.noted;
      cursor = c.in-Some.ensures.cursor;
      texts = λ m is.
          (let slim = new_metadata m.described p (kept_by p flags) in
          let texts : OutputRecord → List (List ℕ) = λ o. origin_texts m p (origin_of p (kept_by p flags) c.args.entries.now o) in
          let rest = flat_map texts (output_records_from slim p flags c.next_remaining_record.new.cursor) in
          ap (λ z. with_texts z rest) (c.in_ok-add_record.ensures.ok m slim is c.in-Some.ensures.metadata)
          ∙ (sym (with_append c.output_records.growing.dictionary (texts (output_record_for slim c.in-Some.remaining_record)) rest)
          ∙ (ap (λ z. with_texts c.output_records.growing.dictionary (flat_map texts z)) (sym (c.in-Some.ensures.exact slim)) ∙ c.output_records.invariant.texts m is)));
    }

pub returns : goal.returns
returns c =
    let p = c.args.self.now.strings.chunk.now in
    let flags = c.args.self.now.kept.now in
    record {
      ok = λ m is.
          (let slim = new_metadata m.described p (kept_by p flags) in
          ap (λ z. with_texts c.output_records.growing.dictionary (flat_map (λ o. origin_texts m p (origin_of p (kept_by p flags) c.args.entries.now o)) z)) (sym (c.in_default.ensures.exact slim))
          ∙ (c.output_records.invariant.texts m is
          ∙ ap (λ es. with_texts c.args.growing.now.dictionary (flat_map (λ o. origin_texts m p (origin_of p (kept_by p flags) es o)) (records_out m p (kept_by p flags))))
          (c.requires.entries ∙ sym (entries_same c.args.self.now m is (kept_by p flags)))));
      noted = c.output_records.invariant.noted;
    }
