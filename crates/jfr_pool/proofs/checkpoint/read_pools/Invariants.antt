use Rattle.std.proofs.Common.{◌≤◌, ◌-◌}
use Rattle.jfr_base.specs.Formats.{run, times}
use Rattle.jfr_pool.specs.Entries.{pool_format, entries_from}
use Rattle.jfr_pool.specs.Listing.{listed}
use Rattle.jfr_pool.proofs.Listings.{Adding}
use Rattle.jfr_pool.proofs.checkpoint.read_pools.Given as goal

abbrev pub invariant-loop-number : goal.invariant-loop-number
invariant-loop-number l = record {
  upto : l.to ≤ l.body.limit;
  adding : Adding (listed (entries_from l.checkpoint 0) (run (times l.fn.count.value (pool_format l.body.classes.now)) l.body.chunk.now l.body.limit l.fn.count.end)) l.fn.entries.items l.entries.items
      (listed (entries_from l.checkpoint l.number) (run (times (l.fn.count.value - l.number) (pool_format l.body.classes.now)) l.body.chunk.now l.body.limit l.to));
}
