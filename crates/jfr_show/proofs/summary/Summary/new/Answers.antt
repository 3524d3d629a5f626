use Rattle.std.specs.Prelude.{map, None}
use Rattle.std.specs.FinMap as fin
use Rattle.std.proofs.Common.{ap, arith}
use Rattle.jfr_show.specs.Held.{entry_of}
use Rattle.jfr_show.specs.Totals.{totals_of}
use Rattle.jfr_show.proofs.TallyLaws.{none_there}
use Rattle.jfr_show.proofs.summary.Summary.new.Goals as goal

pub invariant_of-result : goal.invariant_of-result
invariant_of-result c = record {
  chunks = omega arith;
  bytes = omega arith;
  duration = omega arith;
  events = omega arith;
  checkpoints = omega arith;
  constants = omega arith;
  inert = omega arith;
  tallies = record { each = λ name tally is. absurd (none_there c.new.result name tally c.new.ensures.empty is) };
}

pub returns : goal.returns
unfolding totals_of
returns c = ap (λ es. record { first = None; chunks = 0; bytes = 0; duration = 0; events = 0; checkpoints = 0; constants = 0; inert = 0; tallies = fin.from_entries (map entry_of es) })
    c.new.ensures.empty
