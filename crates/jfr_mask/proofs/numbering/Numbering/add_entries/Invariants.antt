use Rattle.std.proofs.Common.{◌≡◌, drop}
use Rattle.std.specs.List.{flat_map}
use Rattle.jfr_pool.specs.Entries.{entry_node}
use Rattle.jfr_mask.specs.Maskers.{node_texts_by}
use Rattle.jfr_mask.specs.Noted.{NotesTexts}
use Rattle.jfr_mask.specs.Pseudonyms.{with_texts}
use Rattle.jfr_mask.proofs.numbering.Numbering.add_entries.Given as goal

abbrev pub invariant-loop-entry : goal.invariant-loop-entry
invariant-loop-entry l = record {
  noted : NotesTexts l.self l.growing;
  texts : with_texts l.growing.dictionary (flat_map (λ e. node_texts_by l.self (entry_node e)) (drop l.entry-index l.entries))
      ≡ with_texts l.fn.growing.dictionary (flat_map (λ e. node_texts_by l.self (entry_node e)) l.entries);
}
