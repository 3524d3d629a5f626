use Rattle.jfr_split.proofs.Stems.{suffix_none}
use Rattle.jfr_split.proofs.name.without_suffix.Goals as goal

pub returns-in_default-2 : goal.returns-in_default-2
returns-in_default-2 c = suffix_none c.args.name.now (rw c.in_default.is at c.strip_suffix.ensures.cases)
