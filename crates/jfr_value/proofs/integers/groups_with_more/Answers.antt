use Rattle.std.proofs.Math.Facts.{Fits-lt-pow}
use Rattle.jfr_value.proofs.LastGroups.{first_last}
use Rattle.jfr_value.proofs.integers.groups_with_more.Goals as goal

pub returns-clause-range : goal.returns-clause-range
returns-clause-range c = (first_last c.args.lasts c.args.from (Fits-lt-pow c.ranges.lasts)).range

pub returns-clause-more : goal.returns-clause-more
returns-clause-more c = (first_last c.args.lasts c.args.from (Fits-lt-pow c.ranges.lasts)).more

pub returns-clause-last : goal.returns-clause-last
returns-clause-last c = (first_last c.args.lasts c.args.from (Fits-lt-pow c.ranges.lasts)).last
