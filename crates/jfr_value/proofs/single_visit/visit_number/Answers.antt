-- The number is the leaf that comes first.
use Rattle.std.proofs.Common.{◌≡◌, [], ◌∙◌, refl, subst, sym}
use Rattle.std.specs.Prelude.{slice_range}
use Rattle.jfr_value.specs.Leaves.{LeafAt}
use Rattle.jfr_value.specs.declared.leaf.LeafKind.TheVariants as leaf_kinds
use Rattle.jfr_value.proofs.LeafVisitLaws.{first_node, leaf_admitted, visits_leaf}
use Rattle.jfr_value.proofs.VisitLaws.{inline_node}
use Rattle.jfr_value.proofs.WalkLaws.{Taken, base_found}
use Rattle.jfr_value.proofs.single_visit.visit_number.Goals as goal

pub unreachable-requires : goal.unreachable-requires
unreachable-requires g c =
    let walk = c.args.walk.now in
    let layout = c.args.layout.now in
    let values = c.requires.values in
    let f = first_node (g.V.VisitLeaf.admits walk.with.now) walk.classes.now walk.bytes.now walk.end c.args.start.holder layout.shape c.args.start.at values in
    let d = inline_node walk.classes.now walk.bytes.now c.args.start.at f.to walk.end layout.shape f.within walk.within f.value layout.class_index layout.kind layout.form f.node c.requires.array
    c.requires.constant c.requires.layout in
    let t = base_found walk.classes.now walk.bytes.now c.args.start.at walk.end layout.shape values.other_shapes c.args.start.holder values.other_holders values.values d.class layout.kind values.row
    c.requires.array c.requires.constant d.found d.kind_is c.requires.base in
    cc (sym c.in_default.is ∙ (c.base_end.ensures.exact ∙ t.1))

pub returns : goal.returns
returns g c = record {
  visited =
      let walk = c.args.walk.now in
      let layout = c.args.layout.now in
      let takes = g.V.VisitLeaf.takes walk.with.now in
      let f = first_node (g.V.VisitLeaf.admits walk.with.now) walk.classes.now walk.bytes.now walk.end c.args.start.holder layout.shape c.args.start.at c.requires.values in
      let d = inline_node walk.classes.now walk.bytes.now c.args.start.at f.to walk.end layout.shape f.within walk.within f.value layout.class_index layout.kind layout.form f.node c.requires.array
      c.requires.constant c.requires.layout in
      let leaf : LeafAt = record {
        kind = leaf_kinds.Base layout.kind;
        class = layout.shape.class;
        holder = c.args.start.holder;
        at = c.args.start.at;
        spelled = slice_range walk.bytes.now
            c.args.start.at c.in-Ok.to;
      } in
      visits_leaf takes walk.classes.now walk.bytes.now walk.end c.args.start.holder [] layout.shape [] c.args.start.at c.in-Ok.to c.args.steps.now c.tick.new.self layout.shape.class
      (leaf_kinds.Base layout.kind) c.args.visitor.now c.args.visitor.now
      (λ is us vs r. (let t = base_found walk.classes.now walk.bytes.now c.args.start.at walk.end layout.shape us c.args.start.holder is vs d.class layout.kind r c.requires.array c.requires.constant
      d.found d.kind_is c.requires.base in
      let e : t.0 ≡ c.in-Ok.to = cc (sym c.in-Ok.is ∙ (c.base_end.ensures.exact ∙ t.1)) in
      subst (λ z. Taken walk.classes.now walk.bytes.now c.args.start.at walk.end z (leaf_kinds.Base layout.kind) layout.shape.class us vs c.args.start.holder is is) e t.2))
      (c.passes_numbers.ensures.same walk.with.now leaf c.args.visitor.now (layout.kind, refl, c.requires.number)
      (leaf_admitted (g.V.VisitLeaf.admits walk.with.now) walk.classes.now walk.bytes.now walk.end c.args.start.holder layout.shape c.args.start.at c.in-Ok.to layout.shape.class
      (leaf_kinds.Base layout.kind) c.requires.values.other_holders c.requires.values.other_shapes c.requires.values
      (let values = c.requires.values in
      let t = base_found walk.classes.now walk.bytes.now c.args.start.at walk.end layout.shape values.other_shapes c.args.start.holder values.other_holders values.values d.class layout.kind values.row
      c.requires.array c.requires.constant d.found d.kind_is c.requires.base in
      let e : t.0 ≡ c.in-Ok.to = cc (sym c.in-Ok.is ∙ (c.base_end.ensures.exact ∙ t.1)) in
      subst (λ z. Taken walk.classes.now walk.bytes.now c.args.start.at walk.end z (leaf_kinds.Base layout.kind) layout.shape.class values.other_shapes values.values c.args.start.holder
      values.other_holders values.other_holders) e t.2))
      c.requires.ready) c.tick.ensures;
  ready = c.passes_numbers.ensures.ready c.args.walk.now.with.now c.args.visitor.now c.args.start.at c.in-Ok.to c.requires.ready c.in-Ok.ensures.range.0;
}
