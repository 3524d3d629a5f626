use Rattle.std.proofs.Common.{◌∙◌, subst, sym}
use Rattle.jfr_value.specs.Leaves.{leaf_of}
use Rattle.jfr_mask.specs.MaskedLeaves.{leaf_text}
use Rattle.jfr_mask.specs.Noted.{IsNotedFor}
use Rattle.jfr_mask.specs.Pseudonyms.{has_text}
use Rattle.jfr_mask.proofs.NotedShown.{noted_for_leaf}
use Rattle.jfr_mask.proofs.masker.Masker.noted_shown.Goals as goal

pub returns : goal.returns
returns c =
    let m = c.args.self.now in
    let found = leaf_text m.strings.chunk.now (leaf_of c.args.leaf.now) in
    let noted = noted_for_leaf m (leaf_of c.args.leaf.now) c.in_ok-entry.entry (sym c.entry_of.ensures ∙ c.in_ok-entry.was) c.requires.noted in
    c.shown_as.ensures found (subst (IsNotedFor (has_text m.known.now) m.dictionary.now found) (sym c.entry.ensures) noted)
