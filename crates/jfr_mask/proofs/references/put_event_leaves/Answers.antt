use Rattle.std.proofs.Common.{[], ◌∷◌, ap, subst, sym, ◌∙◌}
use Rattle.std.specs.List.{AllByRecursion, filter_map}
use Rattle.jfr_pool.specs.Entries.{number_in_force}
use Rattle.jfr_value.specs.Leaves.{KeyIsSpelled, leaves}
use Rattle.jfr_value.specs.Nodes.{IsNode, node_of}
use Rattle.jfr_value.proofs.LeafKeys.{keys_spelled}
use Rattle.jfr_value.proofs.VisitLaws.{takes_filtered}
use Rattle.jfr_worklist.specs.Marks.{those}
use Rattle.jfr_worklist.specs.Putting.{Puts}
use Rattle.jfr_worklist.proofs.PuttingLaws.{puts_none, puts_then}
use Rattle.jfr_chunk.proofs.RootLaws.{takes_those}
use Rattle.jfr_mask.specs.EventStrings.{masked_at}
use Rattle.jfr_mask.specs.Maskers.{held_by}
use Rattle.jfr_mask.specs.Reaching.{target_left}
use Rattle.jfr_rewrite.proofs.LaidLeaves.{leaves_here}
use Rattle.jfr_mask.specs.Visitors.{Lists}
use Rattle.jfr_mask.proofs.LeafReferences.{node_left}
use Rattle.jfr_mask.proofs.VisitorLaws.{reaches_all}
use Rattle.jfr_mask.proofs.references.put_event_leaves.Goals as goal

pub visit_leaves-requires-clause-admits : goal.visit_leaves-requires-clause-admits
visit_leaves-requires-clause-admits c =
    let p = c.args.strings.chunk.now in
    let n = node_of c.args.node in
    let i : IsNode p.classes p.bytes n c.requires.value.0 = subst (λ b. IsNode p.classes b n c.requires.value.0) c.requires.bytes c.requires.value.1 in
    subst (AllByRecursion KeyIsSpelled) (sym (leaves_here p c.classes.result.now c.args.node.bytes.now n c.classes.ensures c.requires.bytes))
    (keys_spelled p.classes p.bytes n c.requires.value.0 c.parts_are_valid.ensures.sound i)

pub returns-clause-puts : goal.returns-clause-puts
returns-clause-puts c =
    let p = c.args.strings.chunk.now in
    let n = node_of c.args.node in
    let masked = held_by c.args.strings in
    let i : IsNode p.classes p.bytes n c.requires.value.0 = subst (λ b. IsNode p.classes b n c.requires.value.0) c.requires.bytes c.requires.value.1 in
    let all = leaves c.classes.result.now c.args.node.bytes.now n in
    let old = c.args.reaching.now.list in
    let new = c.visit_leaves.new.visitor.list in
    let each = reaches_all c.args.strings all c.args.reaching.now c.visit_leaves.new.visitor c.visit_leaves.ensures.exact in
    let taken = takes_filtered (λ t a b. Puts (those (number_in_force p.entries) (t ∷ [])) a b) (target_left masked) all old new each.0 in
    subst (λ ts. Puts (those (number_in_force p.entries) ts) old new)
    (ap (filter_map (target_left masked)) (leaves_here p c.classes.result.now c.args.node.bytes.now n c.classes.ensures c.requires.bytes)
    ∙ node_left p c.parts_are_valid.ensures.sound n c.requires.value.0 i masked)
    (takes_those Puts puts_none puts_then (number_in_force p.entries) (filter_map (target_left masked) all) old new taken)

pub returns-clause-lists : goal.returns-clause-lists
returns-clause-lists c =
    let p = c.args.strings.chunk.now in
    let n = node_of c.args.node in
    let all = leaves c.classes.result.now c.args.node.bytes.now n in
    let each = reaches_all c.args.strings all c.args.reaching.now c.visit_leaves.new.visitor c.visit_leaves.ensures.exact in
    subst (λ ls. Lists (filter_map (masked_at (held_by c.args.strings)) ls) c.args.reaching.now c.visit_leaves.new.visitor)
    (leaves_here p c.classes.result.now c.args.node.bytes.now n c.classes.ensures c.requires.bytes) each.1
