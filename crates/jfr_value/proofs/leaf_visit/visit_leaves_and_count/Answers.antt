-- The value that is visited is the node's.
use Rattle.std.proofs.Common.{[], ◌∷◌, subst, sym, ap, length, arith}
use Rattle.std.specs.List.{AllByRecursion}
use Rattle.std.specs.Prelude.{None}
use Rattle.jfr_value.specs.Nodes.{node_of}
use Rattle.jfr_value.specs.Visits.{AreToVisit, TakesAll, Visits}
use Rattle.jfr_value.proofs.DepthLaws.{sound_inline}
use Rattle.jfr_value.proofs.LeafVisitLaws.{to_visit_node, visits_node}
use Rattle.jfr_value.proofs.TargetLaws.{leaves_are}
use Rattle.jfr_value.proofs.leaf_visit.visit_leaves_and_count.Goals as goal

pub visit_value-end-requires-clause-depth : goal.visit_value-end-requires-clause-depth
visit_value-end-requires-clause-depth g c = λ o d q m. sound_inline c.args.classes.now c.layout_of-layout.result.shape.class d c.layout_of-layout.ensures.sound q

pub visit_value-end-requires-clause-values : goal.visit_value-end-requires-clause-values
visit_value-end-requires-clause-values g c =
    let n = node_of c.args.node in
    let v = c.requires.value in
    let admits = g.V.VisitLeaf.admits c.args.with.now in
    subst (λ s. AreToVisit admits c.args.classes.now c.args.node.bytes.now c.args.node.end (None ∷ []) (s ∷ []) c.args.node.at) (sym c.layout_of-layout.ensures.shape)
    (to_visit_node admits c.args.classes.now c.args.node.bytes.now n v.0 v.1
    (subst (AllByRecursion admits) (leaves_are c.args.classes.now c.layout_of-layout.ensures.sound c.args.node.bytes.now n v.0 v.1) c.requires.admits))

pub returns-clause-exact : goal.returns-clause-exact
returns-clause-exact g c =
    let n = node_of c.args.node in
    let v = c.requires.value in
    let takes = g.V.VisitLeaf.takes c.args.with.now in
    let w = subst (λ s. Visits takes c.args.classes.now c.args.node.bytes.now c.args.node.end (None ∷ []) (s ∷ []) c.args.node.at c.args.visitor.now c.args.steps.now []
    [] c.visit_value-end.result c.visit_value-end.new.visitor c.visit_value-end.new.steps) c.layout_of-layout.ensures.shape c.visit_value-end.ensures.visited in
    subst (λ z. TakesAll takes z c.args.visitor.now c.visit_value-end.new.visitor) (sym (leaves_are c.args.classes.now c.layout_of-layout.ensures.sound c.args.node.bytes.now n v.0 v.1))
    (visits_node takes c.args.classes.now c.args.node.bytes.now n v.0 c.visit_value-end.result c.args.steps.now c.visit_value-end.new.steps c.args.visitor.now c.visit_value-end.new.visitor v.1 w).0

pub returns-clause-cost : goal.returns-clause-cost
returns-clause-cost g c =
    let n = node_of c.args.node in
    let v = c.requires.value in
    let takes = g.V.VisitLeaf.takes c.args.with.now in
    let w = subst (λ s. Visits takes c.args.classes.now c.args.node.bytes.now c.args.node.end (None ∷ []) (s ∷ []) c.args.node.at c.args.visitor.now c.args.steps.now []
    [] c.visit_value-end.result c.visit_value-end.new.visitor c.visit_value-end.new.steps) c.layout_of-layout.ensures.shape c.visit_value-end.ensures.visited in
    let s = (visits_node takes c.args.classes.now c.args.node.bytes.now n v.0 c.visit_value-end.result c.args.steps.now c.visit_value-end.new.steps c.args.visitor.now c.visit_value-end.new.visitor v.1
    w).1 in
    let l = ap length (leaves_are c.args.classes.now c.layout_of-layout.ensures.sound c.args.node.bytes.now n v.0 v.1) in
    omega arith

pub returns-clause-ready : goal.returns-clause-ready
returns-clause-ready g c =
    let n = node_of c.args.node in
    let v = c.requires.value in
    let takes = g.V.VisitLeaf.takes c.args.with.now in
    let w = subst (λ s. Visits takes c.args.classes.now c.args.node.bytes.now c.args.node.end (None ∷ []) (s ∷ []) c.args.node.at c.args.visitor.now c.args.steps.now []
    [] c.visit_value-end.result c.visit_value-end.new.visitor c.visit_value-end.new.steps) c.layout_of-layout.ensures.shape c.visit_value-end.ensures.visited in
    let e = (visits_node takes c.args.classes.now c.args.node.bytes.now n v.0 c.visit_value-end.result c.args.steps.now c.visit_value-end.new.steps c.args.visitor.now c.visit_value-end.new.visitor v.1
    w).2 in
    subst (g.V.VisitLeaf.ready c.visit_value-end.new.visitor c.args.with.now) e c.visit_value-end.ensures.ready
