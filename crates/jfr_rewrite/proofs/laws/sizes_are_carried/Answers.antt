use Rattle.jfr_rewrite.proofs.laws.sizes_are_carried.Goals as goal
use Rattle.jfr_rewrite.proofs.Sizes.{fewest_or_five_carries, old_width_carries}

pub returns-clause-old : goal.returns-clause-old
returns-clause-old c = λ chunk r n s h. old_width_carries chunk r n s h

pub returns-clause-fewest : goal.returns-clause-fewest
returns-clause-fewest c = λ r n small. fewest_or_five_carries r n small
