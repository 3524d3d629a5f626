use Rattle.std.specs.Prelude.{map}
use Rattle.std.specs.FinMap as fin
use Rattle.std.proofs.Common.{ap, arith}
use Rattle.jfr_stacks.specs.Held.{entry_in}
use Rattle.jfr_stacks.specs.Folded.{stacks_of}
use Rattle.jfr_stacks.proofs.MapLaws.{none_there}
use Rattle.jfr_stacks.proofs.stacks.Stacks.new.Goals as goal

pub invariant_of-result : goal.invariant_of-result
invariant_of-result c = record { chunks = omega arith; counts = record { each = λ q n is. absurd (none_there c.new.result q n c.new.ensures.empty is) } }

pub returns-clause-stacks : goal.returns-clause-stacks
unfolding stacks_of
returns-clause-stacks c = λ g. ap (λ es. fin.from_entries (map entry_in es)) c.new.ensures.empty
