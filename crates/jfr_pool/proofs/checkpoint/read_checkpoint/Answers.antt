use Rattle.std.proofs.lemmas.Result.{err_from_is_err_and}
use Rattle.jfr_pool.proofs.Listings.{body_short, body_fault, body_trails, body_ends}
use Rattle.jfr_pool.proofs.checkpoint.read_checkpoint.Goals as goal

pub returns-in_err-count : goal.returns-in_err-count
returns-in_err-count c =
    let p = err_from_is_err_and c.from_residual.result c.from_residual.ensures.1 in
    rw (p.1, p.2, ← c.end-limit.ensures) record {
      exact = body_short c.args.number c.args.classes.now c.args.chunk.now c.end-limit.result c.args.frame.body c.in_err-count.field-0.0
          c.in_err-count.ensures.exact;
    }

pub returns-in_err-to : goal.returns-in_err-to
returns-in_err-to c =
    let p = err_from_is_err_and c.from_residual-in_err-to.result c.from_residual-in_err-to.ensures.1 in
    rw (p.1, p.2, ← c.end-limit.ensures) record {
      exact = body_fault c.args.number c.args.classes.now c.args.chunk.now c.end-limit.result c.args.frame.body c.in_ok-count.count
          c.in_ok-count.ensures.exact c.args.entries.now.items c.read_pools.new.entries.items c.in_err-to.field-0.0 c.in_err-to.ensures.exact;
    }

pub returns-then-to-limit : goal.returns-then-to-limit
returns-then-to-limit c = rw (← c.end-limit.ensures)
    record {
      exact = body_trails c.args.number c.args.classes.now c.args.chunk.now c.end-limit.result c.args.frame.body c.in_ok-count.count c.in_ok-count.ensures.exact c.args.entries.now.items
          c.read_pools.new.entries.items c.in_ok-to.to c.in_ok-to.ensures.exact c.if-to-limit.true;
    }

pub returns : goal.returns
returns c = rw (← c.end-limit.ensures) record {
  exact = body_ends c.args.number c.args.classes.now c.args.chunk.now c.end-limit.result c.args.frame.body c.in_ok-count.count c.in_ok-count.ensures.exact
      c.args.entries.now.items c.read_pools.new.entries.items c.in_ok-to.to c.in_ok-to.ensures.exact c.if-to-limit.false;
}
