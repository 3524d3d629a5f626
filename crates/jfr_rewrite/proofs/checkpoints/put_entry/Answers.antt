use Rattle.std.proofs.Common.{◌∙◌, ◌++◌, ap}
use Rattle.std.proofs.lemmas.Result.{on_ok_weaker}
use Rattle.jfr_value.specs.Nodes.{node_at}
use Rattle.jfr_rewrite.specs.Writing.{changed_within}
use Rattle.jfr_rewrite.proofs.CheckpointWriting.{entry_is, entry_put}
use Rattle.jfr_rewrite.proofs.checkpoints.put_entry.Goals as goal

pub put_changed-requires-clause-value : goal.put_changed-requires-clause-value
put_changed-requires-clause-value g c = (
  c.requires.holds.value,
  rw (c.bytes.ensures.exact, c.inline.ensures)
      (entry_is c.args.chunk.now.classes c.args.chunk.now.bytes c.args.entry.now c.requires.holds),
)

pub returns : goal.returns
returns g c =
    let w = g.R.Rewriter.rewrite c.args.rewriting.now in
    let p = c.args.chunk.now in
    let e = c.args.entry.now in
    record {
      ok = on_ok_weaker c.put_changed.result (λ h. entry_put w p e c.args.out.now.items c.push_var.new.out.items c.put_changed.new.out.items c.entry_key.result c.entry_key.ensures
          c.in_ok-push_var.ensures.ok
          (h ∙ ap (λ s. c.push_var.new.out.items ++ changed_within w.change p (node_at s e.value_at e.end) e.value_at e.end) c.inline.ensures)) c.put_changed.ensures.ok;
    }
