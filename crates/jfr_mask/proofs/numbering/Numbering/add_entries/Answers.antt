use Rattle.std.proofs.Common.{ℕ, List, ◌+◌, drop, get_or, ap, sym, ◌∙◌}
use Rattle.std.specs.List.{flat_map}
use Rattle.std.proofs.lemmas.List.{drop_all}
use Rattle.std.proofs.lemmas.Option.{slice_get-get_or}
use Rattle.jfr_pool.specs.declared.entry.EntryAt.{EntryAt}
use Rattle.jfr_pool.specs.Entries.{entry_node}
use Rattle.jfr_chunk.proofs.AllLaws.{all_get}
use Rattle.jfr_output.proofs.CursorLaws.{drop_at}
use Rattle.jfr_mask.specs.Maskers.{IsEntryValue, node_texts_by}
use Rattle.jfr_mask.specs.Pseudonyms.{with_texts}
use Rattle.jfr_mask.proofs.NumberLaws.{with_append}
use Rattle.jfr_mask.proofs.numbering.Numbering.add_entries.Goals as goal

pub add_entry-requires-clause-value : goal.add_entry-requires-clause-value
add_entry-requires-clause-value c =
    let none : EntryAt = record { class = 0; key = 0; key_at = 0; value_at = 0; end = 0; checkpoint = 0; pool = 0 } in
    let here = slice_get-get_or c.args.entries.now c.loop-entry.entry-index none c.loop-entry-test.true in
    all_get (IsEntryValue c.args.self.now.strings.chunk.now) c.args.entries.now c.loop-entry.entry-index (get_or c.args.entries.now c.loop-entry.entry-index none) c.requires.values here

pub loop-entry-preserved : goal.loop-entry-preserved
loop-entry-preserved c =
    let none : EntryAt = record { class = 0; key = 0; key_at = 0; value_at = 0; end = 0; checkpoint = 0; pool = 0 } in
    let es = c.args.entries.now in
    let i = c.loop-entry.entry-index in
    let texts : EntryAt → List (List ℕ) = λ e. node_texts_by c.args.self.now (entry_node e) in
    let rest = flat_map texts (drop (i + 1) es) in
    let here = slice_get-get_or es i none c.loop-entry-test.true in
    record {
      noted = c.in_ok-add_entry.ensures.noted;
      texts = ap (λ z. with_texts z rest) c.in_ok-add_entry.ensures.ok
          ∙ (sym (with_append c.loop-entry.growing.dictionary (texts (get_or es i none)) rest)
          ∙ (ap (λ z. with_texts c.loop-entry.growing.dictionary (flat_map texts z)) (sym (drop_at es i (get_or es i none) here)) ∙ c.loop-entry.invariant.texts));
    }

pub returns : goal.returns
returns c =
    let texts : EntryAt → List (List ℕ) = λ e. node_texts_by c.args.self.now (entry_node e) in
    record {
      ok = ap (λ z. with_texts c.loop-entry.growing.dictionary (flat_map texts z)) (sym (drop_all c.loop-entry.entry-index c.args.entries.now c.loop-entry-test.false))
          ∙ c.loop-entry.invariant.texts;
      noted = c.loop-entry.invariant.noted;
    }
