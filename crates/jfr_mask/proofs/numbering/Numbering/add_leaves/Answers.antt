use Rattle.std.proofs.Common.{ap, sym, subst, ◌∙◌}
use Rattle.std.specs.List.{flat_map}
use Rattle.jfr_value.specs.Leaves.{leaves}
use Rattle.jfr_value.specs.Nodes.{IsNode, node_of}
use Rattle.jfr_mask.specs.Masked.{is_held_masked}
use Rattle.jfr_mask.specs.Maskers.{leaf_texts_by}
use Rattle.jfr_mask.specs.Pseudonyms.{has_text, with_texts}
use Rattle.jfr_rewrite.proofs.LaidLeaves.{leaves_here, node_lies}
use Rattle.jfr_mask.proofs.LeafMasks.{node_texts_are}
use Rattle.jfr_mask.proofs.VisitorLaws.{adds_all}
use Rattle.jfr_mask.proofs.numbering.Numbering.add_leaves.Goals as goal

pub visit_leaves-requires-clause-admits : goal.visit_leaves-requires-clause-admits
visit_leaves-requires-clause-admits c =
    let p = c.args.self.now.strings.chunk.now in
    node_lies p c.parts_are_valid.ensures.sound c.classes.result.now c.args.node.bytes.now (node_of c.args.node) c.requires.value.0 c.classes.ensures c.requires.of_chunk c.requires.value.1

pub returns : goal.returns
returns c =
    let p = c.args.self.now.strings.chunk.now in
    let n = node_of c.args.node in
    let masked = is_held_masked c.args.self.now.strings.masked.now p.classes in
    let known = has_text c.args.self.now.known.now in
    let node = subst (λ z. IsNode p.classes z n c.requires.value.0) c.requires.of_chunk c.requires.value.1 in
    let added = adds_all c.args.self.now (leaves c.classes.result.now c.args.node.bytes.now n) _ c.visit_leaves.new.visitor c.visit_leaves.ensures.exact c.if-growing.false in
    record {
      ok =
          added.1
          ∙ (ap (λ z. with_texts c.args.growing.now.dictionary (flat_map (leaf_texts_by c.args.self.now) z))
          (leaves_here p c.classes.result.now c.args.node.bytes.now n c.classes.ensures c.requires.of_chunk)
          ∙ ap (λ z. with_texts c.args.growing.now.dictionary z) (sym (node_texts_are masked p known c.parts_are_valid.ensures.sound n c.requires.value.0 node)));
      noted = c.visit_leaves.ensures.ready;
    }
