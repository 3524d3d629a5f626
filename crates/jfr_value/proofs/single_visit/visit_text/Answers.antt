-- The string is the leaf that comes first.
use Rattle.std.proofs.Common.{◌≡◌, [], ◌∙◌, subst, sym}
use Rattle.jfr_layout.specs.declared.kind.Kind.TheVariants as kinds
use Rattle.jfr_value.specs.declared.leaf.LeafKind.TheVariants as leaf_kinds
use Rattle.jfr_value.proofs.LeafVisitLaws.{first_node, leaf_admitted, visits_leaf}
use Rattle.jfr_value.proofs.VisitLaws.{inline_node}
use Rattle.jfr_value.proofs.WalkLaws.{Taken, base_found}
use Rattle.jfr_value.proofs.single_visit.visit_text.Goals as goal

pub unreachable-requires : goal.unreachable-requires
unreachable-requires g c =
    let walk = c.args.walk.now in
    let layout = c.args.layout.now in
    let values = c.requires.values in
    let f = first_node (g.V.VisitLeaf.admits walk.with.now) walk.classes.now walk.bytes.now walk.end c.args.start.holder layout.shape c.args.start.at values in
    let d = inline_node walk.classes.now walk.bytes.now c.args.start.at f.to walk.end layout.shape f.within walk.within f.value layout.class_index layout.kind layout.form f.node c.requires.array
    c.requires.constant c.requires.layout in
    let t = base_found walk.classes.now walk.bytes.now c.args.start.at walk.end layout.shape values.other_shapes c.args.start.holder values.other_holders values.values d.class kinds.Text values.row
    c.requires.array c.requires.constant d.found (sym c.requires.text ∙ d.kind_is) (λ q. cc) in
    cc (sym c.in_default.is ∙ (c.usual_string_end.ensures.exact ∙ t.1))

pub visit_leaf-requires-clause-admits : goal.visit_leaf-requires-clause-admits
visit_leaf-requires-clause-admits g c =
    let walk = c.args.walk.now in
    let layout = c.args.layout.now in
    let values = c.requires.values in
    let f = first_node (g.V.VisitLeaf.admits walk.with.now) walk.classes.now walk.bytes.now walk.end c.args.start.holder layout.shape c.args.start.at values in
    let d = inline_node walk.classes.now walk.bytes.now c.args.start.at f.to walk.end layout.shape f.within walk.within f.value layout.class_index layout.kind layout.form f.node c.requires.array
    c.requires.constant c.requires.layout in
    let t = base_found walk.classes.now walk.bytes.now c.args.start.at walk.end layout.shape values.other_shapes c.args.start.holder values.other_holders values.values d.class kinds.Text values.row
    c.requires.array c.requires.constant d.found (sym c.requires.text ∙ d.kind_is) (λ q. cc) in
    let e : t.0 ≡ c.in-Ok.to = cc (sym c.in-Ok.is ∙ (c.usual_string_end.ensures.exact ∙ t.1)) in
    subst (g.V.VisitLeaf.admits walk.with.now) (sym c.leaf_to-leaf.ensures)
    (leaf_admitted (g.V.VisitLeaf.admits walk.with.now) walk.classes.now walk.bytes.now walk.end c.args.start.holder layout.shape c.args.start.at c.in-Ok.to layout.shape.class
    (leaf_kinds.Base kinds.Text) values.other_holders values.other_shapes values
    (subst (λ z. Taken walk.classes.now walk.bytes.now c.args.start.at walk.end z (leaf_kinds.Base kinds.Text) layout.shape.class values.other_shapes values.values c.args.start.holder
    values.other_holders values.other_holders) e t.2))

pub returns-clause-visited : goal.returns-clause-visited
returns-clause-visited g c =
    let walk = c.args.walk.now in
    let layout = c.args.layout.now in
    let takes = g.V.VisitLeaf.takes walk.with.now in
    let f = first_node (g.V.VisitLeaf.admits walk.with.now) walk.classes.now walk.bytes.now walk.end c.args.start.holder layout.shape c.args.start.at c.requires.values in
    let d = inline_node walk.classes.now walk.bytes.now c.args.start.at f.to walk.end layout.shape f.within walk.within f.value layout.class_index layout.kind layout.form f.node c.requires.array
    c.requires.constant c.requires.layout in
    visits_leaf takes walk.classes.now walk.bytes.now walk.end c.args.start.holder [] layout.shape [] c.args.start.at c.in-Ok.to c.args.steps.now c.tick.new.self layout.shape.class
    (leaf_kinds.Base kinds.Text) c.args.visitor.now c.visit_leaf.new.self
    (λ is us vs r. (let t = base_found walk.classes.now walk.bytes.now c.args.start.at walk.end layout.shape us c.args.start.holder is vs d.class kinds.Text r c.requires.array c.requires.constant
    d.found (sym c.requires.text ∙ d.kind_is) (λ q. cc) in
    let e : t.0 ≡ c.in-Ok.to = cc (sym c.in-Ok.is ∙ (c.usual_string_end.ensures.exact ∙ t.1)) in
    subst (λ z. Taken walk.classes.now walk.bytes.now c.args.start.at walk.end z (leaf_kinds.Base kinds.Text) layout.shape.class us vs c.args.start.holder is is) e t.2))
    (subst (λ l. takes l c.args.visitor.now c.visit_leaf.new.self) c.leaf_to-leaf.ensures c.visit_leaf.ensures.takes) c.tick.ensures
