use Rattle.std.proofs.Common.{ap, sym, subst}
use Rattle.jfr_value.specs.Nodes.{IsNode, node_of}
use Rattle.jfr_mask.specs.Masked.{is_held_masked}
use Rattle.jfr_mask.specs.Pseudonyms.{has_text, with_texts}
use Rattle.jfr_mask.proofs.PlainLaws.{node_no_texts}
use Rattle.jfr_mask.proofs.numbering.Numbering.add_node.Goals as goal

pub returns-then-are_none_in : goal.returns-then-are_none_in
returns-then-are_none_in c =
    let p = c.args.self.now.strings.chunk.now in
    let masked = is_held_masked c.args.self.now.strings.masked.now p.classes in
    let known = has_text c.args.self.now.known.now in
    let n = node_of c.args.node in
    let v = c.requires.value.0 in
    let node = subst (λ z. IsNode p.classes z n v) c.requires.of_chunk c.requires.value.1 in
    record {
      ok = ap (λ z. with_texts c.args.growing.now.dictionary z)
          (sym (node_no_texts p masked known n v c.parts_are_valid.ensures.sound node (c.are_none_in.ensures c.if-are_none_in.true v node)));
      noted = c.requires.noted;
    }
