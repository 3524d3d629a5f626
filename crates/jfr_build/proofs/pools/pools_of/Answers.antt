use Rattle.std.proofs.Common.{◌≡◌, subst}
use Rattle.std.specs.Prelude.{IfOk}
use Rattle.jfr_build.proofs.PoolLaws.{pooled_end}
use Rattle.jfr_build.proofs.pools.pools_of.Goals as goal

pub returns : goal.returns
returns c = record {
  ok = subst (λ z. IfOk c.to_bytes.result (λ bytes. bytes.items ≡ z))
      (pooled_end c.args.classes.now c.args.lines.now c.loop-line.line-index c.loop-line.pools c.loop-line-test.false c.loop-line.invariant) c.to_bytes.ensures.ok;
}
