use Rattle.std.proofs.Common.{◌==◌, ap, sym, subst, ◌∙◌}
use Rattle.std.specs.List.{AllByRecursion, flat_map}
use Rattle.std.proofs.lemmas.Result.{on_ok_weaker}
use Rattle.jfr_pool.specs.Entries.{entry_node}
use Rattle.jfr_chunk.specs.Parts.{metadata_at}
use Rattle.jfr_chunk.specs.Reach.{kept_by}
use Rattle.jfr_chunk.proofs.AllLaws.{filter_all}
use Rattle.jfr_output.specs.RemainingRecords.{ShowsEvent, ShowsMetadata, output_record_for}
use Rattle.jfr_mask.specs.Maskers.{IsEntryValue, node_texts_by}
use Rattle.jfr_mask.specs.MaskOf.{origin_of, origin_texts}
use Rattle.jfr_mask.specs.Pseudonyms.{with_texts}
use Rattle.jfr_mask.proofs.KeptFlags.{kept_marked}
use Rattle.jfr_mask.proofs.NumberedRecords.{chained_texts, metadata_texts}
use Rattle.jfr_mask.proofs.numbering.Numbering.add_record.Goals as goal

pub add_entries-requires-clause-values : goal.add_entries-requires-clause-values
add_entries-requires-clause-values c =
    let p = c.args.self.now.strings.chunk.now in
    subst (AllByRecursion (IsEntryValue p)) (sym c.entries_of.ensures) (filter_all (IsEntryValue p) (λ e. e.checkpoint == c.in-Chained.number) c.args.entries.now c.requires.values)

pub returns-in-Metadata : goal.returns-in-Metadata
returns-in-Metadata c =
    let p = c.args.self.now.strings.chunk.now in
    let flags = c.args.self.now.kept.now in
    record {
      ok = λ m slim is metadata.
          ap (λ z. with_texts c.args.growing.now.dictionary z)
          (sym (ap (λ o. origin_texts m p (origin_of p (kept_by p flags) c.args.entries.now (output_record_for slim o))) c.in-Metadata.is
          ∙ metadata_texts c.args.self.now m is flags c.args.entries.now c.parts_are_valid.ensures.parts slim c.in-Metadata.field-0
          (subst (ShowsMetadata (metadata_at p.bytes)) c.in-Metadata.is metadata)));
      noted = c.requires.noted;
    }

pub returns-in-Chained : goal.returns-in-Chained
returns-in-Chained c =
    let p = c.args.self.now.strings.chunk.now in
    let flags = c.args.self.now.kept.now in
    record {
      ok = on_ok_weaker c.add_entries.result (λ e.
          λ m slim is metadata.
          e
          ∙ (ap (λ es. with_texts c.args.growing.now.dictionary (flat_map (λ e. node_texts_by c.args.self.now (entry_node e)) es)) c.entries_of.ensures
          ∙ ap (λ z. with_texts c.args.growing.now.dictionary z)
          (sym (ap (λ o. origin_texts m p (origin_of p (kept_by p flags) c.args.entries.now (output_record_for slim o))) c.in-Chained.is
          ∙ chained_texts c.args.self.now m is flags c.args.entries.now c.in-Chained.number c.in-Chained.field-1)))) c.add_entries.ensures.ok;
      noted = c.add_entries.ensures.noted;
    }

pub add_event-requires-clause-kept : goal.add_event-requires-clause-kept
add_event-requires-clause-kept c =
    let p = c.args.self.now.strings.chunk.now in
    let flags = c.args.self.now.kept.now in
    kept_marked p c.parts_are_valid.ensures.parts flags c.in-Event.number c.in-Event.field-1 (subst (ShowsEvent p flags) c.in-Event.is c.requires.kept)
