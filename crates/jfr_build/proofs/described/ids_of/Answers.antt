use Rattle.std.proofs.Common.{arith}
use Rattle.jfr_layout.proofs.Lists.{listed_at}
use Rattle.jfr_build.proofs.DescribedLaws.{ids_step}
use Rattle.jfr_build.proofs.described.ids_of.Goals as goal

pub loop-class-preserved : goal.loop-class-preserved
loop-class-preserved c = λ id.
    (let class = c.class-item.result in
    let at = listed_at c.as_slice-class-items.ensures c.loop-class.class-index class (omega arith) c.class-item.is in
    ids_step c.args.classes.now c.loop-class.class-index class _ _ id at (c.in_ok-insert.ensures.ok id) (c.loop-class.invariant id))
