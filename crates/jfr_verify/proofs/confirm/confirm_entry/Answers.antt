use Rattle.std.proofs.Common.{◌≡◌, ℕ, List, subst}
use Rattle.jfr_value.specs.Nodes.{NodeAt, node_of, targets}
use Rattle.jfr_chunk.specs.Reach.{next_entries, node_entries}
use Rattle.jfr_verify.specs.declared.claims.Claims.{Claims}
use Rattle.jfr_verify.specs.declared.line.Parent.TheVariants.{OfEntry}
use Rattle.jfr_verify.specs.Confirmed.{Confirms}
use Rattle.jfr_verify.proofs.ClaimLaws.{confirms_all}
use Rattle.jfr_verify.proofs.GivenEntries.{given_next}
use Rattle.jfr_verify.proofs.confirm.confirm_entry.Goals as goal

pub returns-in-Some : goal.returns-in-Some
returns-in-Some c =
    let bytes : List ℕ = c.in-Some.node.bytes.now in
    let n : NodeAt = node_of c.in-Some.node in
    let old : Claims = record c.args.claims.now { parent = OfEntry c.args.number } in
    let e : node_entries c.pools.result.now c.classes.result.now bytes n ≡ next_entries c.args.chunk.now c.args.number =
    given_next c.args.chunk.now c.args.number n c.pools.result.now c.classes.result.now bytes c.pools.ensures c.classes.ensures c.in-Some.ensures.bytes c.in-Some.ensures.exact in
    let a = subst (λ z. Confirms z old c.visit_targets.new.visitor) e
    (confirms_all c.pools.result.now (targets c.classes.result.now bytes n) old c.visit_targets.new.visitor c.visit_targets.ensures.exact) in
    record { confirmed = a.confirmed; parents = a.parents }
