use Rattle.std.proofs.Common.{sym, ◌∙◌, subst}
use Rattle.std.specs.List.{AllByRecursion}
use Rattle.jfr_laws.specs.InChunk.{IsEntryIn}
use Rattle.jfr_output.proofs.PoolLaws.{all_drop}
use Rattle.jfr_rewrite.proofs.CheckpointWriting.{pool_next}
use Rattle.jfr_rewrite.proofs.checkpoints.put_pools.Goals as goal

pub pools-preserved : goal.pools-preserved
pools-preserved g c = (
  subst (AllByRecursion (IsEntryIn c.args.chunk.now.bytes c.args.chunk.now.classes)) (sym c.split_at.ensures.back)
      (all_drop (IsEntryIn c.args.chunk.now.bytes c.args.chunk.now.classes) c.pools.rest.now c.pool_len.result c.pools.invariant.0),
  pool_next (g.R.Rewriter.rewrite c.args.rewriting.now) c.args.chunk.now c.pools.out.items c.push_var.new.out.items c.push_var-in-Some.new.out.items c.put_entries.new.out.items c.pools.rest.now
      c.split_at.result.0.now c.split_at.result.1.now c.in-Some.first.now c.pool_len.result
      (sym c.in-Some.ensures.value) c.pool_len.ensures.exact c.split_at.ensures.front c.split_at.ensures.back c.in_ok-push_var.ensures.ok c.in_ok-push_var-2.ensures.ok c.in_ok-put_entries.ensures.ok
      ∙ c.pools.invariant.1,
)
