use Rattle.std.proofs.Common.{refl}
use Rattle.jfr_value.specs.Leaves.{leaf_of}
use Rattle.jfr_rewrite.proofs.CopyLaws.{leaf_waits}
use Rattle.jfr_rewrite.proofs.copying.ValueCopyVisitLeafChanging.visit_leaf.Goals as goal

pub returns-in_default-clause-takes : goal.returns-in_default-clause-takes
returns-in_default-clause-takes g c = (
  refl,
  λ f. (
    f,
    leaf_waits (g.R.Rewriter.rewrite c.args.changing.now.rewriting.now).change c.args.changing.now.chunk.now
        (leaf_of c.args.leaf) c.args.self.now.copied c.args.self.now.out.now.items c.requires.ready.0 c.requires.admits.bytes (c.new_leaf.ensures.same c.in_default.is),
  ),
)
