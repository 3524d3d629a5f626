use Rattle.std.proofs.lemmas.Result.{err_from_is_err_and}
use Rattle.jfr_pool.proofs.Listings.{entries_start, entries_more, entries_stop, entries_done}
use Rattle.jfr_pool.proofs.checkpoint.read_entries.Goals as goal

pub loop-init : goal.loop-init
loop-init c = record {
  upto = c.requires.order;
  adding = entries_start c.args.pool c.args.body.classes.now c.args.body.chunk.now c.args.body.limit c.args.count.end c.args.count.value
      c.args.entries.now.items;
}

pub loop-preserved : goal.loop-preserved
loop-preserved c = record {
  upto = c.in_ok-entry.ensures.range;
  adding = entries_more c.args.pool c.args.body.classes.now c.args.body.chunk.now c.args.body.limit c.args.count.end c.args.count.value c.loop.counter c.loop.to c.args.entries.now.items
      c.loop.entries.items c.push.new.self.items c.in_ok-entry.entry c.loop-test.true c.loop.invariant.adding c.in_ok-entry.ensures.exact c.in_ok-push.ensures.items;
}

pub returns-in_err-entry-clause-exact : goal.returns-in_err-entry-clause-exact
returns-in_err-entry-clause-exact c =
    let p = err_from_is_err_and c.from_residual.result c.from_residual.ensures.1 in
    rw (p.1, p.2) (entries_stop c.args.pool c.args.body.classes.now c.args.body.chunk.now c.args.body.limit c.args.count.end c.args.count.value c.loop.counter c.loop.to c.args.entries.now.items
    c.loop.entries.items c.in_err-entry.field-0.0 c.loop-test.true c.loop.invariant.adding c.in_err-entry.ensures.exact)

pub returns-clause-exact : goal.returns-clause-exact
returns-clause-exact c = entries_done c.args.pool c.args.body.classes.now c.args.body.chunk.now c.args.body.limit c.args.count.end c.args.count.value c.loop.counter c.loop.to c.args.entries.now.items
    c.loop.entries.items c.loop-test.false c.loop.invariant.adding
