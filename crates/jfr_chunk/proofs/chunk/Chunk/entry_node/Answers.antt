-- The value of an entry is at the offset that the chunk has for it.
use Rattle.std.proofs.Common.{◌≡◌, ap, sym, ◌∙◌, subst}
use Rattle.std.specs.Prelude.{Some, slice_get, option_copied}
use Rattle.jfr_value.specs.Nodes.{node_at}
use Rattle.jfr_chunk.specs.Parts.{AreParts, Parts}
use Rattle.jfr_chunk.proofs.HasNodesLaws.{entry_value}
use Rattle.jfr_chunk.proofs.chunk.Chunk.entry_node.Goals as goal

pub returns-clause-value : goal.returns-clause-value
returns-clause-value c =
    let e : slice_get c.args.self.now.entries c.args.number ≡ Some c.in_ok-entry.entry.now =
    ap (λ (p : Parts). slice_get p.entries c.args.number) (sym c.self.view_is) ∙ (sym c.get.ensures ∙ ap option_copied c.in_ok-entry.was) in
    entry_value c.args.self.now (subst AreParts c.self.view_is c.self.invariant.parts) c.args.number c.in_ok-entry.entry.now
    (record { shape = c.inline.result; bytes = c.self.inside.bytes; at = c.in_ok-entry.entry.now.value_at; end = c.in_ok-entry.entry.now.end })
    e (ap (λ s. node_at s c.in_ok-entry.entry.now.value_at c.in_ok-entry.entry.now.end) c.inline.ensures) (ap (λ (p : Parts). p.bytes) c.self.view_is)
