use Rattle.std.specs.Prelude.{string_bytes}
use Rattle.std.specs.Map.Iter.{deref_pair}
use Rattle.jfr_show.specs.Held.{entry_of}
use Rattle.jfr_show.specs.Totals.{tally_json}
use Rattle.jfr_show.proofs.ArrayLaws.{AreWritten}
use Rattle.jfr_show.proofs.summary.json.push_tallies.Given as goal

abbrev pub invariant-loop-name : goal.invariant-loop-name
invariant-loop-name l = AreWritten (λ e. tally_json (entry_of (deref_pair e))) l.yielded l.later (string_bytes l.initial.out) (string_bytes l.out)
