use Rattle.std.proofs.Common.{arith}
use Rattle.jfr_value.specs.Leaves.{leaf_of}
use Rattle.jfr_renumber.proofs.RewritingLaws.{zero_stays}
use Rattle.jfr_renumber.proofs.rewriting.new_reference.Goals as goal

pub returns-then-leaf-le1-clause-same : goal.returns-then-leaf-le1-clause-same
returns-then-leaf-le1-clause-same g c = λ none. zero_stays (g.N.NewKeys.keys c.args.new.now) (leaf_of c.args.leaf.now) c.zero_is_kept.ensures c.args.key c.requires.kind c.requires.reference
    (omega (arith, c.if-key-eq0.true)) (omega (arith, c.if-leaf-le1.true))
