-- The stack begins with the value itself.
use Rattle.std.proofs.Common.{ap, refl, ◌∙◌}
use Rattle.std.specs.Prelude.{List, [], ◌∷◌, ◌++◌}
use Rattle.jfr_value.specs.declared.stack.Frame.{Frame}
use Rattle.jfr_value.specs.Nodes.{node_of}
use Rattle.jfr_value.specs.Values.{Cons, Nil}
use Rattle.jfr_value.proofs.PlaceLaws.{known_place}
use Rattle.jfr_value.proofs.WalkLaws.{first_leaves, leaves_are_remaining, walk_begins, walk_on, whole}
use Rattle.jfr_value.proofs.leaves.Leaves.new.Goals as goal

pub invariant_of-result : goal.invariant_of-result
invariant_of-result c =
    let w = walk_begins c.args.classes.now c.args.node.bytes.now (node_of c.args.node) c.requires.0 c.unwrap_or-place.result
    (record { at = c.args.node.at; stack = c.push.new.self }) c.index_of.ensures.sound c.requires.1
    (λ o h. known_place c.args.classes.now c.args.node.shape.class c.unwrap_or-place.result 0 c.index_of.result c.index_of.ensures.exact c.unwrap_or-place.ensures h) refl
    (c.push.ensures.items ∙ ap (λ (z : List Frame). z ++ whole c.args.node.shape c.unwrap_or-place.result ∷ []) c.new-stack.ensures) in
    walk_on c.args.classes.now c.args.node.bytes.now c.args.node.end (record { at = c.args.node.at; stack = c.push.new.self }) (Cons c.requires.0 Nil) c.index_of.ensures.sound w.0 w.1

pub returns : goal.returns
returns c =
    let w = walk_begins c.args.classes.now c.args.node.bytes.now (node_of c.args.node) c.requires.0 c.unwrap_or-place.result
    (record { at = c.args.node.at; stack = c.push.new.self }) c.index_of.ensures.sound c.requires.1
    (λ o h. known_place c.args.classes.now c.args.node.shape.class c.unwrap_or-place.result 0 c.index_of.result c.index_of.ensures.exact c.unwrap_or-place.ensures h) refl
    (c.push.ensures.items ∙ ap (λ (z : List Frame). z ++ whole c.args.node.shape c.unwrap_or-place.result ∷ []) c.new-stack.ensures) in
    leaves_are_remaining c.args.classes.now c.args.node.bytes.now c.args.node.end (record { at = c.args.node.at; stack = c.push.new.self }) (Cons c.requires.0 Nil) c.index_of.ensures.sound w.1
    ∙ first_leaves c.args.classes.now c.args.node.bytes.now (node_of c.args.node) c.requires.0 c.unwrap_or-place.result
    (record { at = c.args.node.at; stack = c.push.new.self }) c.index_of.ensures.sound c.requires.1 refl
    (c.push.ensures.items ∙ ap (λ (z : List Frame). z ++ whole c.args.node.shape c.unwrap_or-place.result ∷ []) c.new-stack.ensures)
