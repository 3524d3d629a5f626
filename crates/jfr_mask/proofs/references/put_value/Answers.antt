use Rattle.std.proofs.Common.{◌∙◌, ap, subst, sym}
use Rattle.jfr_value.specs.Nodes.{node_of, targets}
use Rattle.jfr_pool.specs.Entries.{number_in_force}
use Rattle.jfr_worklist.specs.Marks.{those}
use Rattle.jfr_worklist.specs.Putting.{Puts}
use Rattle.jfr_worklist.proofs.PuttingLaws.{puts_none, puts_then}
use Rattle.jfr_chunk.proofs.RootLaws.{takes_those}
use Rattle.jfr_mask.proofs.PlainLaws.{known_plain}
use Rattle.jfr_mask.proofs.references.put_value.Goals as goal

pub returns-then-has_id : goal.returns-then-has_id
returns-then-has_id c =
    let p = c.args.chunk.now in
    let n = node_of c.args.node in
    let b = c.args.node.bytes.now in
    let k = c.classes-then-has_id.result.now in
    let puts = takes_those Puts puts_none puts_then (number_in_force c.pools.result.now) (targets k b n) c.args.list.now c.visit_targets.new.visitor c.visit_targets.ensures.exact in
    let all = ap (λ z. targets z b n) (c.classes-then-has_id.ensures ∙ sym c.classes.ensures)
    ∙ known_plain p c.args.masked.now c.args.plain.now.flags.items c.classes.result.now b n c.requires.sound c.requires.plain c.classes.ensures c.requires.bytes c.requires.value
    (c.has_id.ensures c.if-has_id.true) in
    subst (λ z. Puts z c.args.list.now c.visit_targets.new.visitor) (ap (λ es. those (number_in_force es) (targets k b n)) c.pools.ensures ∙ ap (those (number_in_force p.entries)) all) puts
