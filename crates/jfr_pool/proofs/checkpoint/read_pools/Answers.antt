use Rattle.std.proofs.lemmas.Result.{err_from_is_err_and}
use Rattle.jfr_pool.proofs.Listings.{pools_start, pools_more, pools_stop, pools_done}
use Rattle.jfr_pool.proofs.checkpoint.read_pools.Goals as goal

pub loop-number-init : goal.loop-number-init
loop-number-init c = record {
  upto = c.requires.order;
  adding = pools_start c.args.checkpoint c.args.body.classes.now c.args.body.chunk.now c.args.body.limit c.args.count.end c.args.count.value
      c.args.entries.now.items;
}

pub loop-number-preserved : goal.loop-number-preserved
loop-number-preserved c = record {
  upto = c.in_ok-to.ensures.range;
  adding = pools_more c.args.checkpoint c.args.body.classes.now c.args.body.chunk.now c.args.body.limit c.args.count.end c.args.count.value c.loop-number.number c.loop-number.to c.in_ok-to.to
      c.args.entries.now.items c.loop-number.entries.items c.read_pool.new.entries.items c.loop-number-test.true c.loop-number.invariant.adding c.in_ok-to.ensures.exact;
}

pub returns-in_err-to-clause-exact : goal.returns-in_err-to-clause-exact
returns-in_err-to-clause-exact c =
    let p = err_from_is_err_and c.from_residual.result c.from_residual.ensures.1 in
    rw (p.1, p.2) (pools_stop c.args.checkpoint c.args.body.classes.now c.args.body.chunk.now c.args.body.limit c.args.count.end c.args.count.value c.loop-number.number c.loop-number.to
    c.args.entries.now.items c.loop-number.entries.items c.in_err-to.field-0.0 c.loop-number-test.true c.loop-number.invariant.adding c.in_err-to.ensures.exact)

pub returns-clause-exact : goal.returns-clause-exact
returns-clause-exact c = pools_done c.args.checkpoint c.args.body.classes.now c.args.body.chunk.now c.args.body.limit c.args.count.end c.args.count.value c.loop-number.number c.loop-number.to
    c.args.entries.now.items c.loop-number.entries.items c.loop-number-test.false c.loop-number.invariant.adding
