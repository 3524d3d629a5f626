use Rattle.std.proofs.Common.{◌≡◌, length}
use Rattle.std.specs.Prelude.{take}
use Rattle.jfr_chunk.specs.Chosen.{chosen}
use Rattle.jfr_path.proofs.chosen.choose.Given as goal

-- The events so far have their truth values, and threads are asked for by the filter and the chunk.
abbrev pub invariant-loop-number : goal.invariant-loop-number
invariant-loop-number l = record {
  filter : l.threads.filter ≡ l.fn.filter;
  chunk : l.threads.chunk ≡ l.fn.chunk;
  room : length l.kept ≡ l.count;
  so_far : take l.number l.kept ≡ take l.number (chosen l.fn.filter l.fn.chunk);
}
