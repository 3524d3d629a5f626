use Rattle.std.specs.Str.{chars}
use Rattle.jfr_mask.proofs.KnownLaws.{or_first, or_second}
use Rattle.jfr_mask.proofs.known.is_like_pseudonym.Goals as goal

pub returns-then-glob : goal.returns-then-glob
unfolding chars
returns-then-glob c = or_first _ _ _ c.glob.ensures c.if-glob.true

pub returns-else-glob : goal.returns-else-glob
unfolding chars
returns-else-glob c = or_second _ _ _ _ c.glob.ensures c.if-glob.false c.glob-else-glob.ensures
