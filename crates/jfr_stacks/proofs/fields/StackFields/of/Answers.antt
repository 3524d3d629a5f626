use Rattle.std.specs.Str.{chars}
use Rattle.jfr_stacks.proofs.fields.StackFields.of.Goals as goal

pub returns : goal.returns
unfolding chars
returns c = record { frames = c.in_ok-frames.ensures; method = c.in_ok-method.ensures; class = c.in_ok-class.ensures; name = c.in_ok-name.ensures; string = c.in_ok-string.ensures }
