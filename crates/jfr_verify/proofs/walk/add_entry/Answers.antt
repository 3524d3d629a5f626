use Rattle.std.proofs.Common.{◌≡◌, ◌++◌, ℕ, List, ap, ◌∙◌}
use Rattle.jfr_value.specs.Nodes.{NodeAt, node_of, targets}
use Rattle.jfr_worklist.specs.Marks.{marked_at}
use Rattle.jfr_chunk.specs.Reach.{next_entries, node_entries}
use Rattle.jfr_verify.specs.declared.line.Parent.TheVariants.{OfEntry}
use Rattle.jfr_verify.specs.Receipts.{new_lines}
use Rattle.jfr_verify.proofs.AddedLaws.{adds_all}
use Rattle.jfr_verify.proofs.GivenEntries.{given_next}
use Rattle.jfr_verify.proofs.walk.add_entry.Goals as goal

pub returns-in-Some : goal.returns-in-Some
returns-in-Some c =
    let bytes : List ℕ = c.in-Some.node.bytes.now in
    let n : NodeAt = node_of c.in-Some.node in
    let e : node_entries c.pools.result.now c.classes.result.now bytes n ≡ next_entries c.args.chunk.now c.args.number =
    given_next c.args.chunk.now c.args.number n c.pools.result.now c.classes.result.now bytes c.pools.ensures c.classes.ensures c.in-Some.ensures.bytes c.in-Some.ensures.exact in
    let a = adds_all c.pools.result.now (targets c.classes.result.now bytes n) _ c.visit_targets.new.visitor c.visit_targets.ensures.exact in
    record {
      marks = a.marks ∙ ap (marked_at c.args.lines.now.flags.items) e;
      lines = a.lines ∙ ap (λ z. c.args.lines.now.items.items ++ new_lines c.args.lines.now.flags.items (OfEntry c.args.number) z) e;
    }
