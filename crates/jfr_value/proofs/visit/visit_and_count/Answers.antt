-- What the leaves refer to is what the value refers to.
use Rattle.std.proofs.Common.{◌^◌, subst}
use Rattle.jfr_value.specs.Leaves.{leaves}
use Rattle.jfr_value.specs.Nodes.{node_of}
use Rattle.jfr_value.specs.Visits.{TakesAll}
use Rattle.jfr_value.proofs.KeyPlaces.{keys_told, takes_pairs}
use Rattle.jfr_value.proofs.TargetLaws.{refers_parts}
use Rattle.jfr_value.proofs.visit.visit_and_count.Goals as goal

pub visit_leaves_and_count-requires-clause-admits : goal.visit_leaves_and_count-requires-clause-admits
visit_leaves_and_count-requires-clause-admits g c = keys_told c.args.classes.now c.args.node.bytes.now (node_of c.args.node) c.requires.value.0 (2 ^ 64) c.are_sound.ensures c.requires.value.1 c.ranges.node.0

pub returns-clause-exact : goal.returns-clause-exact
returns-clause-exact g c =
    let n = node_of c.args.node in
    let takes = g.V.Visit.takes c.args.with.now in
    subst (λ z. TakesAll takes z c.args.visitor.now c.visit_leaves_and_count.new.visitor)
    (refers_parts c.args.classes.now c.are_sound.ensures c.args.node.bytes.now n c.requires.value.0 c.requires.value.1).leaves_too
    (takes_pairs takes (leaves c.args.classes.now c.args.node.bytes.now n) c.args.visitor.now c.visit_leaves_and_count.new.visitor c.visit_leaves_and_count.ensures.exact)
