use Rattle.std.proofs.Common.{◌≡◌, ◌++◌, take}
use Rattle.std.specs.List.{flat_map}
use Rattle.jfr_verify.specs.Ranks.{ranked_bytes}
use Rattle.jfr_verify.proofs.receipt.push_ranked.Given as goal

abbrev pub invariant-loop-compact_line : goal.invariant-loop-compact_line
invariant-loop-compact_line l = l.out.items ≡ l.initial.out.items ++ flat_map (ranked_bytes l.ranks) (take l.compact_line-index l.lines)
