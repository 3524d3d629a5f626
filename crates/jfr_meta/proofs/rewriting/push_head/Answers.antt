use Rattle.std.proofs.Common.{ap, ◌∙◌, refl, length}
use Rattle.jfr_meta.proofs.RewriteLaws.{head_done, wrote_plain}
use Rattle.jfr_meta.proofs.rewriting.push_head.Goals as goal

pub returns : goal.returns
returns c = record {
  ok = head_done c.args.strings.now c.args.element.now c.args.children c.name.result c.len.result c.attributes-2.result.now c.args.tree.now c.push_index.new.tree _ c.push_pairs.new.tree _
      c.name.ensures (c.len.ensures ∙ ap length c.attributes.ensures) c.attributes-2.ensures c.in_ok-push_index.ensures.ok
      (wrote_plain c.args.strings.now c.push_index.new.tree _ c.len.result c.in_ok-push_index.ensures.ok.tabled.table refl c.in_ok-push_var.ensures.ok) c.in_ok-push_pairs.ensures.ok
      (wrote_plain c.args.strings.now c.push_pairs.new.tree _ c.args.children c.in_ok-push_pairs.ensures.ok.tabled.table refl c.in_ok-push_var-2.ensures.ok);
}
