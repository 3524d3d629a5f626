use Rattle.std.proofs.Common.{◌≡◌, ◌-◌, ◌^◌, true}
use Rattle.jfr_thread_names.proofs.names.print_chunks.Given as goal

-- The cutter has given only chunks.
abbrev pub invariant-chunks : goal.invariant-chunks
invariant-chunks g l = l.cutter.live ≡ true

-- Each chunk starts after the one before, and below this limit.
abbrev pub decreases-chunks : goal.decreases-chunks
decreases-chunks g l = 2 ^ 62 - l.cutter.start
