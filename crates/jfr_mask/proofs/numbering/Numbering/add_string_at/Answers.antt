use Rattle.std.proofs.Common.{◌≡◌, arith, ap, sym, subst, Some, ◌∙◌}
use Rattle.std.proofs.lemmas.Option.{slice_get-get_or}
use Rattle.jfr_value.specs.Leaves.{leaf_of}
use Rattle.jfr_mask.specs.declared.event_strings.StringAt.{StringAt}
use Rattle.jfr_mask.specs.EventStrings.{string_leaf}
use Rattle.jfr_mask.specs.MaskedLeaves.{leaf_text}
use Rattle.jfr_mask.specs.Noted.{IsNotedFor, text_at}
use Rattle.jfr_mask.specs.Pseudonyms.{has_text}
use Rattle.jfr_mask.proofs.NotedLaws.{list_more}
use Rattle.jfr_mask.proofs.numbering.Numbering.add_string_at.Goals as goal

pub returns-clause-noted : goal.returns-clause-noted
returns-clause-noted c =
    let p = c.args.self.now.strings.chunk.now in
    let known = has_text c.args.self.now.known.now in
    let strings = c.args.self.now.events.now.strings.items in
    let d = c.add_string.new.growing.dictionary in
    let before = c.in_ok-noted.ensures.noted in
    record {
      entries = before.entries;
      strings = list_more known StringAt (text_at p) strings d c.add_string.new.growing.noted.strings.items c.args.number c.in_ok-noted.noted
          (omega (arith, before.strings.size, c.requires.there))
          (λ s there.
          (let z : Some c.index.result.now ≡ Some s = ap Some c.index.ensures ∙ (sym (slice_get-get_or strings c.args.number c.index.result.now c.requires.there) ∙ there) in
          let same : c.index.result.now ≡ s = cc in
          let here : leaf_of c.leaf-leaf.result ≡ string_leaf p.bytes s = c.leaf-leaf.ensures ∙ (ap (λ b. string_leaf b c.index.result.now) c.bytes.ensures.exact ∙ ap (string_leaf p.bytes) same) in
          subst (λ l. IsNotedFor known d (leaf_text p l) c.in_ok-noted.noted) here c.in_ok-noted.ensures.known)) before.strings;
    }
