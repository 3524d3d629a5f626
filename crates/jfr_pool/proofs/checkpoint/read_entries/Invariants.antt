use Rattle.std.proofs.Common.{◌≤◌, ◌-◌, map}
use Rattle.jfr_base.specs.Formats.{run, times}
use Rattle.jfr_pool.specs.Entries.{constant_format}
use Rattle.jfr_pool.specs.Listing.{listed, entry_in}
use Rattle.jfr_pool.proofs.Listings.{Adding}
use Rattle.jfr_pool.proofs.checkpoint.read_entries.Given as goal

abbrev pub invariant-loop : goal.invariant-loop
invariant-loop l = record {
  upto : l.to ≤ l.body.limit;
  adding : Adding (listed (map (entry_in l.pool)) (run (times l.fn.count.value (constant_format l.body.classes.now l.pool.class)) l.body.chunk.now l.body.limit l.fn.count.end)) l.fn.entries.items l.entries.items
      (listed (map (entry_in l.pool)) (run (times (l.fn.count.value - l.counter) (constant_format l.body.classes.now l.pool.class)) l.body.chunk.now l.body.limit l.to));
}
