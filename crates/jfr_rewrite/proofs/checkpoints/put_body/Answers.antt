use Rattle.std.proofs.Common.{◌++◌, ◌+◌, ap, ◌∙◌}
use Rattle.std.specs.List.{slice_range}
use Rattle.std.proofs.lemmas.Result.{on_ok_weaker}
use Rattle.jfr_rewrite.proofs.CheckpointWriting.{parts_written}
use Rattle.jfr_rewrite.proofs.checkpoints.put_body.Goals as goal

pub returns : goal.returns
returns g c =
    let l = c.args.checkpoint.link in
    record {
      ok = on_ok_weaker c.put_pools.result (λ h. parts_written (g.R.Rewriter.rewrite c.args.rewriting.now) c.args.chunk.now l c.requires.link c.args.checkpoint.delta c.args.checkpoint.entries.now
          c.args.out.now.items c.extend_from_slice.new.self.items c.push_var.new.out.items c.extend_from_slice-2.new.self.items c.push_var-2.new.out.items c.put_pools.new.out.items c.pool_count.result
          (c.in_ok-extend_from_slice.ensures.items ∙ ap (λ z. c.args.out.now.items ++ slice_range z l.frame.at l.delta_at) c.bytes-bytes.ensures.exact) c.in_ok-push_var.ensures.ok
          (c.in_ok-extend_from_slice-2.ensures.items ∙ ap (λ z. c.push_var.new.out.items ++ slice_range z l.delta_end (l.delta_end + 1)) c.bytes-bytes.ensures.exact) c.pool_count.ensures
          c.in_ok-push_var-2.ensures.ok h) c.put_pools.ensures.ok;
    }
