use Rattle.std.proofs.Common.{◌++◌, ap, subst, sym, ◌∙◌}
use Rattle.std.specs.List.{slice_range}
use Rattle.jfr_value.specs.Leaves.{leaves}
use Rattle.jfr_value.specs.Nodes.{IsNode, node_of}
use Rattle.jfr_value.specs.Visits.{TakesAll}
use Rattle.jfr_rewrite.specs.Copying.{CopiesLeaf}
use Rattle.jfr_rewrite.proofs.CopyLaws.{copies_all, node_becomes, same_vector}
use Rattle.jfr_rewrite.proofs.LaidLeaves.{leaves_here, node_laid, node_lies}
use Rattle.jfr_rewrite.proofs.copying.copy_value.Goals as goal

pub visit_leaves-requires-clause-admits : goal.visit_leaves-requires-clause-admits
visit_leaves-requires-clause-admits g c =
    let p = c.args.changing.now.chunk.now in
    node_lies p c.parts_are_valid.ensures.sound c.classes.result.now c.args.node.bytes.now (node_of c.args.node) c.requires.value.0 c.classes.ensures c.requires.of_chunk c.requires.value.1

pub returns : goal.returns
returns g c =
    let p = c.args.changing.now.chunk.now in
    let n = node_of c.args.node in
    let v = c.requires.value.0 in
    let ch = (g.R.Rewriter.rewrite c.args.changing.now.rewriting.now).change in
    let i : IsNode p.classes p.bytes n v = subst (λ b. IsNode p.classes b n v) c.requires.of_chunk c.requires.value.1 in
    let all = leaves p.classes p.bytes n in
    let old = c.args.copy.now in
    let copy = c.visit_leaves.new.visitor in
    let taken = subst (λ z. TakesAll (CopiesLeaf ch p) z old copy) (leaves_here p c.classes.result.now c.args.node.bytes.now n c.classes.ensures c.requires.of_chunk) c.visit_leaves.ensures.exact in
    record {
      same_vector = same_vector ch p all old copy taken;
      range = c.visit_leaves.ensures.ready.0;
      copies = λ f.
          let copied = copies_all ch p n.at n.end all old copy (node_laid p.classes c.parts_are_valid.ensures.sound p.bytes n v i) taken f in
          (copied.0, copied.1 ∙ ap (λ z. (old.out.now.items ++ slice_range p.bytes old.copied n.at) ++ z) (sym (node_becomes ch p.classes c.parts_are_valid.ensures.sound p.bytes n v i)));
    }
