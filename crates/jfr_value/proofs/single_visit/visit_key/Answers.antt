-- The key is the leaf that comes first.
use Rattle.std.proofs.Common.{[], subst, sym, refl}
use Rattle.std.specs.Prelude.{IsSome}
use Rattle.jfr_value.specs.declared.leaf.LeafKind.TheVariants as leaf_kinds
use Rattle.jfr_value.proofs.LeafVisitLaws.{first_node, leaf_admitted, visits_leaf}
use Rattle.jfr_value.proofs.VisitLaws.{key_node}
use Rattle.jfr_value.proofs.WalkLaws.{key_taken}
use Rattle.jfr_value.proofs.single_visit.visit_key.Goals as goal

pub known_integer-key-requires-clause-known : goal.known_integer-key-requires-clause-known
known_integer-key-requires-clause-known g c =
    let walk = c.args.walk.now in
    let shape = c.args.layout.now.shape in
    let f = first_node (g.V.VisitLeaf.admits walk.with.now) walk.classes.now walk.bytes.now walk.end c.args.start.holder shape c.args.start.at c.requires.values in
    subst (λ z. IsSome z) (sym (key_node walk.classes.now walk.bytes.now c.args.start.at f.to walk.end shape f.within walk.within f.value f.node c.requires.array c.requires.constant).found) refl

pub visit_leaf-requires-clause-admits : goal.visit_leaf-requires-clause-admits
visit_leaf-requires-clause-admits g c =
    let walk = c.args.walk.now in
    let shape = c.args.layout.now.shape in
    let values = c.requires.values in
    let key = c.known_integer-key.result in
    subst (g.V.VisitLeaf.admits walk.with.now) (sym c.leaf_to-leaf.ensures)
    (leaf_admitted (g.V.VisitLeaf.admits walk.with.now) walk.classes.now walk.bytes.now walk.end c.args.start.holder shape c.args.start.at key.end shape.class
    (leaf_kinds.Key key.value) values.other_holders values.other_shapes values
    (key_taken walk.classes.now walk.bytes.now c.args.start.at walk.end shape values.other_shapes c.args.start.holder values.other_holders values.values key values.row c.requires.array
    c.requires.constant c.known_integer-key.ensures.exact))

pub returns-clause-visited : goal.returns-clause-visited
returns-clause-visited g c =
    let walk = c.args.walk.now in
    let shape = c.args.layout.now.shape in
    let key = c.known_integer-key.result in
    let takes = g.V.VisitLeaf.takes walk.with.now in
    visits_leaf takes walk.classes.now walk.bytes.now walk.end c.args.start.holder [] shape [] c.args.start.at key.end c.args.steps.now c.tick.new.self shape.class
    (leaf_kinds.Key key.value) c.args.visitor.now c.visit_leaf.new.self
    (λ is us vs r. key_taken walk.classes.now walk.bytes.now c.args.start.at walk.end shape us c.args.start.holder is vs key r c.requires.array c.requires.constant c.known_integer-key.ensures.exact)
    (subst (λ l. takes l c.args.visitor.now c.visit_leaf.new.self) c.leaf_to-leaf.ensures c.visit_leaf.ensures.takes) c.tick.ensures
