use Rattle.std.proofs.Common.{◌≡◌, map, take}
use Rattle.jfr_renumber.specs.Numbers.{number_or_zero}
use Rattle.jfr_renumber.specs.Renumber.{pair_of}
use Rattle.jfr_renumber.proofs.entry_keys.keys_of.Given as goal

abbrev pub invariant-loop-entry : goal.invariant-loop-entry
invariant-loop-entry l = l.found.items ≡ map (λ e. number_or_zero l.keys (pair_of e)) (take l.entry-index l.entries)
