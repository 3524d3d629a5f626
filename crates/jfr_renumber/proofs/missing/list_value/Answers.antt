use Rattle.std.proofs.Common.{[], ◌∷◌, ap, refl, subst, sym, ◌∙◌}
use Rattle.std.specs.Prelude.{IsSome}
use Rattle.jfr_layout.specs.Classes.{Class, find_class}
use Rattle.jfr_layout.specs.declared.shape.Shape.{Shape}
use Rattle.jfr_value.specs.Nodes.{node_of}
use Rattle.jfr_value.proofs.LayoutLaws.{layout_class}
use Rattle.jfr_renumber.specs.Missing.{Lists}
use Rattle.jfr_renumber.proofs.ListingLaws.{all_visited, inline_layout}
use Rattle.jfr_renumber.proofs.missing.list_value.Goals as goal

pub end_visiting-end-requires-clause-layout : goal.end_visiting-end-requires-clause-layout
end_visiting-end-requires-clause-layout c =
    let v = c.requires.value in
    let y = c.layout_of-layout.ensures in
    inline_layout c.args.classes.now c.args.node.bytes.now (node_of c.args.node) v.0 c.layout_of-layout.result v.1 y.shape
    (ap (λ (z : Shape). z.array) y.shape ∙ c.requires.array, ap (λ (z : Shape). z.constant) y.shape ∙ c.requires.constant) y.known

pub list_single-requires-clause-known : goal.list_single-requires-clause-known
list_single-requires-clause-known c =
    let k = c.args.classes.now in
    let v = c.requires.value in
    let y = c.layout_of-layout.ensures in
    let l = c.layout_of-layout.result in
    let d = layout_class k l (inline_layout k c.args.node.bytes.now (node_of c.args.node) v.0 l v.1 y.shape
    (ap (λ (z : Shape). z.array) y.shape ∙ c.requires.array, ap (λ (z : Shape). z.constant) y.shape ∙ c.requires.constant) y.known) in
    subst (λ (z : Shape). IsSome {T = Class} (find_class k z.class)) y.shape (subst (λ z. IsSome {T = Class} z) (sym d.found) refl)

pub returns-in-Fields : goal.returns-in-Fields
returns-in-Fields c =
    let v = c.requires.value in
    all_visited (λ t old new. Lists c.args.pools.now (t ∷ []) old new) c.args.classes.now c.args.node.bytes.now c.layout_of-layout.result.shape c.args.node.shape c.args.node.at c.args.node.end v.0
    c.end_visiting-end.result c.args.list.now c.end_visiting-end.new.visitor
    c.requires.sound v.1 c.layout_of-layout.ensures.shape c.end_visiting-end.ensures.exact c.end_visiting-end.ensures.visited
