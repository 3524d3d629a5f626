use Rattle.std.proofs.Common.{◌≡◌, ◌++◌, take}
use Rattle.std.specs.List.{flat_map}
use Rattle.jfr_rewrite.specs.Rewrite.{entry_bytes}
use Rattle.jfr_rewrite.proofs.checkpoints.put_entries.Given as goal

abbrev pub invariant-loop-entry : goal.invariant-loop-entry
invariant-loop-entry g l = l.out.items ≡ l.fn.out.items ++ flat_map (entry_bytes (g.R.Rewriter.rewrite l.rewriting) l.chunk) (take l.entry-index l.entries)
