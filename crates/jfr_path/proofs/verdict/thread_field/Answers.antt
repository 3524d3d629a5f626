use Rattle.std.specs.Str.{chars}
use Rattle.jfr_path.proofs.verdict.thread_field.Goals as goal

pub returns : goal.returns
unfolding chars
returns c = c.number.ensures
