use Rattle.std.proofs.Common.{◌≡◌, ℕ, List, [], true, ap, sym, ◌∙◌, subst, if◌then◌else◌}
use Rattle.jfr_value.specs.Nodes.{NodeAt, node_of, targets}
use Rattle.jfr_chunk.specs.Parts.{Parts}
use Rattle.jfr_chunk.specs.Reach.{next_entries, node_entries}
use Rattle.jfr_worklist.specs.Marks.{is_marked}
use Rattle.jfr_verify.specs.Closed.{ChecksMarks, marked_refs}
use Rattle.jfr_verify.proofs.ClosedLaws.{checks_all}
use Rattle.jfr_verify.proofs.GivenEntries.{given_next}
use Rattle.jfr_verify.proofs.closed.check_entry.Goals as goal

pub returns-in-Some : goal.returns-in-Some
returns-in-Some c =
    let p : Parts = c.args.chunk.now in
    let bytes : List ℕ = c.in-Some.node.bytes.now in
    let n : NodeAt = node_of c.in-Some.node in
    let m : is_marked c.args.check.now.marks.items c.args.number ≡ true =
    sym (ap (λ z. is_marked z c.args.number) c.deref.ensures.value) ∙ (sym c.is_marked.ensures ∙ c.if-not-is_marked.false) in
    let e : node_entries c.pools.result.now c.classes.result.now bytes n ≡ marked_refs p c.args.check.now.marks.items c.args.number =
    given_next p c.args.number n c.pools.result.now c.classes.result.now bytes c.pools.ensures c.classes.ensures c.in-Some.ensures.bytes c.in-Some.ensures.exact
    ∙ ap (λ b. if b then next_entries p c.args.number else []) (sym m) in
    subst (λ z. ChecksMarks z c.args.check.now c.visit_targets.new.visitor) e
    (checks_all c.pools.result.now (targets c.classes.result.now bytes n) c.args.check.now c.visit_targets.new.visitor c.visit_targets.ensures.exact)
